-- What a change leaves at its own statement. Junos OS CLI User Guide, on set and delete.
use Rattle.std.specs.Prelude.{ℕ, Bool, true, false, List, [], Option, Some, None}
use Rattle.cfg_base.specs.declared.kind.Shape.{Shape}
use Rattle.cfg_base.specs.declared.kind.Shape.TheVariants.{Container, Fixed, Keyed, Bare, Leaf, Flag, Many}
use Rattle.cfg_base.specs.declared.path.Step.{Step}
use Rattle.cfg_base.specs.declared.value.Value.{Value}
use Rattle.cfg_schema.specs.declared.place.Place.{Place}
use Rattle.cfg_schema.specs.Profile.{row_of}
use Rattle.cfg_schema.specs.Place.{place_of}
pub use Rattle.cfg_base.specs.Words.{joined, words_without}
pub use Rattle.cfg_tree.specs.Gather.{is_many}

-- a value without marks, names and words
abbrev pub no_value : Value
no_value = record { inactive = false; protected = false; order = []; words = [] }

-- the value that is there, or one without anything
abbrev pub value_or_none : Option Value → Value
value_or_none None = no_value
value_or_none (Some value) = value

-- a Leaf or a Many has words, and no other statement
abbrev pub has_words : Shape → Bool
has_words Container = false
has_words Fixed = false
has_words Keyed = false
has_words Bare = false
has_words Leaf = true
has_words Flag = false
has_words Many = true

-- the statements of a Keyed or a Bare row have names, and no other
abbrev pub has_name : Shape → Bool
has_name Container = false
has_name Fixed = false
has_name Keyed = true
has_name Bare = true
has_name Leaf = false
has_name Flag = false
has_name Many = false

-- what is asked of the row that a path follows; it isn't so of a path that follows none
abbrev pub at_row : (Shape → Bool) → Option Place → Bool
at_row asked None = false
at_row asked (Some here) = asked (row_of here.row).shape

abbrev pub is_many_at : List Step → Bool
is_many_at path = at_row is_many (place_of path)

abbrev pub has_words_at : List Step → Bool
has_words_at path = at_row has_words (place_of path)

-- a statement keeps its marks; a Many gets the words that it hasn't yet, and any other the words that are given
abbrev pub words_set : Bool → List (List ℕ) → List (List ℕ) → List (List ℕ)
words_set true words given = joined words given
words_set false words given = given

abbrev pub value_set : List Step → Value → List (List ℕ) → Value
value_set path value given = record value { words = words_set (is_many_at path) value.words given }
