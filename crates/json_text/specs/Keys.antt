-- The keys at which the statements of a level stand in its object. The layout is this project's own.
-- Bytes by number: space is 32, @ is 64.
use Rattle.std.specs.Prelude.{ℕ, ◌==◌, List, [], ◌∷◌, ◌++◌, codes, flat_map, if◌then◌else◌}
use Rattle.cfg_base.specs.declared.kind.Shape.{Shape}
use Rattle.cfg_base.specs.declared.kind.Shape.TheVariants.{Container, Fixed, Keyed, Bare, Leaf, Flag, Many}
use Rattle.cfg_schema.specs.declared.place.Place.{Place}
use Rattle.cfg_schema.specs.Profile.{row_of, head_of, name_of, is_named, is_level, rows_below}

-- the key of a name
abbrev pub name_key : List ℕ
name_key = codes "name"

-- the key of a level's marks, in its own object
abbrev pub level_marks_key : List ℕ
level_marks_key = codes "@"

-- the key of the statements of a row with this shape, head and name
abbrev pub key_by : Shape → List ℕ → List ℕ → List ℕ
key_by Container head name = head
key_by Fixed head name = head ++ 32 ∷ name
key_by Keyed head name = head
key_by Bare head name = codes "-"
key_by Leaf head name = head
key_by Flag head name = head
key_by Many head name = head

-- the key of a row's statements: its head, with the name of a Fixed row after a blank, or `-` for bare names
abbrev pub key_of : ℕ → List ℕ
key_of id = key_by (row_of id).shape (head_of id) (name_of id)

-- the key of the marks beside a statement that is no level
abbrev pub marks_key : List ℕ → List ℕ
marks_key key = 64 ∷ key

-- the keys that the statements of a row take
abbrev pub row_keys : ℕ → List (List ℕ)
row_keys id = key_of id ∷ (if is_level (row_of id).shape then [] else marks_key (key_of id) ∷ [])

-- the keys of a level's own statement, which the top isn't: its name, where it has one, and its marks
abbrev pub own_keys : ℕ → List (List ℕ)
own_keys row = (if is_named (row_of row).shape then name_key ∷ [] else []) ++ (if row == 0 then [] else level_marks_key ∷ [])

-- the keys that the statements of these rows take
abbrev pub keys_below : List ℕ → List (List ℕ)
keys_below ids = flat_map row_keys ids

-- the keys that the object of a level may have
abbrev pub keys_at : Place → List (List ℕ)
keys_at here = own_keys here.row ++ keys_below (rows_below here.row here.in_group)
