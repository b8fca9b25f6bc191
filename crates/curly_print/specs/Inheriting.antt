-- What the private functions that print an expansion give and print.
use Rattle.std.specs.Prelude.{◌≡◌, ℕ, ◌+◌, nat_lt, T, List, [], ◌∷◌, ◌++◌, length, take, filter, Some, if◌then◌else◌}
use Rattle.std.specs.List.{flat_map, prefix_len}
use Rattle.std.specs.FinMap as finite
use Rattle.std.specs.FinMap.Entries.{is_sorted}
use Rattle.cfg_base.specs.Order.{path_cmp}
use Rattle.cfg_base.specs.declared.path.Step.{Step}
use Rattle.cfg_schema.specs.Profile.{is_step_of}
use Rattle.cfg_tree.specs.declared.full.Given.{Given}
use Rattle.cfg_tree.specs.Statements.{last_of}
use Rattle.cfg_tree.specs.Children.{is_inside, is_child, row_steps}
use Rattle.cfg_tree.specs.Full.{Expansion}
use Rattle.curly_print.specs.Inherited.{given_below, given_order, given_steps, given_text}

-- a path of an expansion, and what is given there
abbrev pub FullEntry : Type 0
FullEntry = List Step × Given

-- those right below a path
abbrev pub given_entries : Expansion → List Step → List FullEntry
given_entries full path = filter (λ e. is_child path e.0) (finite.entries full)

-- those below a path
abbrev pub given_inside : Expansion → List Step → List FullEntry
given_inside full path = filter (λ e. is_inside path e.0) (finite.entries full)

-- of those after a path the ones up to the first that isn't longer
abbrev pub front_longer : List Step → List FullEntry → List FullEntry
front_longer path behind = take (prefix_len (λ e. nat_lt (length path) (length e.0)) behind) behind

-- entries in their order have all that stand below a path, and may have others
pub record HasInside (full : Expansion) (path : List Step) (entries : List FullEntry) : Type 0 where
  pub all : filter (λ e. is_inside path e.0) entries ≡ given_inside full path
  pub sorted : T (is_sorted path_cmp entries)

-- what is given at a path, after so many spaces, with so many levels below it
abbrev pub entry_text : ℕ → Expansion → ℕ → FullEntry → List ℕ
entry_text levels full indent e = given_text indent (last_of e.0) (Some e.1) (given_below levels full e.0 (indent + 4))

-- of these what is of a row
abbrev pub row_entries_text : ℕ → ℕ → Expansion → ℕ → List FullEntry → List ℕ
row_entries_text id levels full indent es =
    flat_map (λ e. if is_step_of id (last_of e.0) then entry_text levels full indent e else []) es

-- of an entry, where it is right below a path and of a row
abbrev pub entry_if : List Step → ℕ → ℕ → Expansion → ℕ → FullEntry → List ℕ
entry_if path id levels full indent e =
    if is_child path e.0 then (if is_step_of id (last_of e.0) then entry_text levels full indent e else []) else []

-- what is given at a step below a path, where something is
abbrev pub given_child_text : ℕ → Expansion → List Step → ℕ → Step → List ℕ
given_child_text levels full path indent step =
    given_text indent step (finite.get full (path ++ step ∷ [])) (given_below levels full (path ++ step ∷ []) (indent + 4))

-- what is given below a path by a row
abbrev pub row_text : ℕ → Expansion → List Step → ℕ → ℕ → List ℕ
row_text levels full path indent id =
    flat_map (given_child_text levels full path indent) (row_steps id (given_order (finite.get full path)) (given_steps full path))
