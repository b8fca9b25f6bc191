-- The path that a walk over statements has come to, with the text of its own words. No public clause cites it.
use Rattle.std.specs.Prelude.{◌≡◌, ◌<◌, ℕ, List, [], ◌∷◌, ◌++◌, length, Option}
use Rattle.std.specs.List.{flat_map}
use mathlib.Core.List.{IsPrefix}
use Rattle.cfg_base.specs.declared.path.Step.{Step}
use Rattle.cfg_schema.specs.declared.place.Place.{Place}
use Rattle.cfg_schema.specs.Place.{and_then, place_after, place_of}
use Rattle.cfg_tree.specs.Statements.{parent_of}
use Rattle.cfg_tree.specs.OwnWords.{own_words}
use Rattle.printing_order.specs.Listed.{Item}
use Rattle.set_text.specs.declared.trail.Mark.{Mark}
use Rattle.set_text.specs.Printed.{spaced}

-- a path's own words, each after a space
abbrev pub own_text : List Step → List ℕ
own_text path = flat_map spaced (own_words path)

-- the place that a step leads to from another one, where there is one
abbrev pub place_behind : Option Place → Step → Option Place
place_behind above step = and_then (λ here. place_after here step) above

-- how far a path's own words go, and its place
abbrev pub mark_of : List Step → Mark
mark_of path = record { end = length (own_text path); place = place_of path }

-- the marks of a path, and of each longer one up to where further steps lead
abbrev pub marks_from : List Step → List Step → List Mark
marks_from path [] = mark_of path ∷ []
marks_from path (step ∷ steps) = mark_of path ∷ marks_from (path ++ step ∷ []) steps

-- the text of a path's own words, and the marks from the top down to it
pub record IsTrail (path : List Step) (text : List ℕ) (marks : List Mark) : Type 0 where
  pub words : text ≡ own_text path
  pub marked : marks ≡ marks_from [] path

-- a path stands right below another one, or right below one above that
abbrev pub ComesAt : List Step → List Step → Type 0
ComesAt path old = (0 < length path) × IsPrefix (parent_of path) old

-- statements each of which stands right below the one before it, or right below one above that
abbrev pub GoesOn : List Step → List Item → Type 0
GoesOn path [] = Unit {0}
GoesOn path (it ∷ items) = ComesAt it.path path × GoesOn it.path items
