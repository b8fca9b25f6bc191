-- What the reader's private functions answer.
use Rattle.std.specs.Prelude.{◌≡◌, ℕ, List, Bool, Some, Result, Ok, Err}
use Rattle.cfg_base.specs.declared.kind.Kind.{Kind}
use Rattle.cfg_schema.specs.Place.{place_of}
use Rattle.cfg_values.specs.Spelling.{IsSpelling, IsCanonicalOf}
use Rattle.cfg_tree.specs.Typed.{IsNameOf}
use Rattle.curly_grammar.specs.declared.effect.Effect.{Effect}
use Rattle.curly_grammar.specs.declared.effect.Effect.TheVariants as effect
use Rattle.curly_grammar.specs.declared.fault.Why.{Why}
use Rattle.curly_grammar.specs.declared.fault.Why.TheVariants.{BadValue}
use Rattle.curly_grammar.specs.declared.stop.Stop.{Stop}
use Rattle.curly_grammar.specs.declared.stop.Stop.TheVariants.{Refused, NoMemory}
use Rattle.curly_grammar.specs.Grammar.{Level}
use Rattle.curly_grammar.specs.Reading.{Turn, quiet, whole}

-- the level has the path that leads to its row
abbrev pub IsPlaced : Level → Type 0
IsPlaced level = place_of level.path ≡ Some level.place

abbrev pub turn_of : Effect → Turn
turn_of (effect.Phase phase) = quiet phase
turn_of (effect.Statement marks level words) = whole marks level words

-- a turn that a word makes; or the reason for which it makes none; or want of memory
abbrev pub Answers : (Turn → Type 0) → Why → Result Effect Stop → Type 0
Answers takes why (Ok effect) = takes (turn_of effect)
Answers takes why (Err (Refused reason)) = (reason ≡ why) × ((turn : Turn) → takes turn → ⊥)
Answers takes why (Err NoMemory) = Unit {0}

-- the word that bytes spell; or they are no spelling of the kind
abbrev pub IsSpelled : Kind → List ℕ → Result (List ℕ) Stop → Type 0
IsSpelled kind bytes (Ok word) = IsCanonicalOf kind bytes word
IsSpelled kind bytes (Err (Refused reason)) = (reason ≡ BadValue) × ¬ (IsSpelling kind bytes)
IsSpelled kind bytes (Err NoMemory) = Unit {0}

-- the name that bytes are; or they are none
abbrev pub IsNameGiven : Bool → Kind → List ℕ → Result (List ℕ) Stop → Type 0
IsNameGiven in_group kind bytes (Ok word) = IsNameOf in_group kind bytes word
IsNameGiven in_group kind bytes (Err (Refused reason)) = (reason ≡ BadValue) × ((word : List ℕ) → ¬ (IsNameOf in_group kind bytes word))
IsNameGiven in_group kind bytes (Err NoMemory) = Unit {0}
