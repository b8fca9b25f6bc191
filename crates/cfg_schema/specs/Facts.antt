-- What holds of the rows of the profile. Each test is run once over the whole table.
use Rattle.std.specs.Prelude.{ℕ, zero, suc, ◌+◌, ◌==◌, nat_lt, nat_le, Bool, true, false, not, ◌&&◌, ◌||◌, List, [], ◌∷◌, if◌then◌else◌}
use Rattle.std.specs.List.{list_all}
use Rattle.cfg_base.specs.declared.kind.Kind.{Kind}
use Rattle.cfg_base.specs.declared.kind.Kind.TheVariants.{Number}
use Rattle.cfg_schema.specs.declared.table.Line.{Line}
use Rattle.cfg_schema.specs.declared.table.Reach.{Reach}
use Rattle.cfg_schema.specs.declared.table.Reach.TheVariants.{Everywhere}
use Rattle.cfg_schema.specs.declared.level.Level.{Level}
use Rattle.cfg_schema.specs.declared.rows.TheConstants.{GROUPS, GROUP}
use Rattle.cfg_schema.specs.Keyword.{spelled}
use Rattle.cfg_schema.specs.Profile.{line_at, is_bare, is_fixed, is_named, is_level, same_word, stands, level_in}

-- the rows are numbered in their order, from n on
abbrev pub numbered : ℕ → List Line → Bool
numbered n [] = true
numbered n (line ∷ lines) = (line.number == n) && numbered (n + 1) lines

-- a range of numbers has a number
abbrev pub has_spelling : Kind → Bool
has_spelling (Number from to) = nat_le from to
has_spelling _ = true

-- a row has a head, or else is a bare name; the top has neither
abbrev pub has_beginning : Line → Bool
has_beginning line =
    (if is_bare line.shape then same_word (spelled line.head) [] else not (same_word (spelled line.head) []))

-- a row stands below a level that comes before it and lists its own rows, its kinds have spellings,
-- it has a head where it is no bare name, and only names keep the user's order
abbrev pub is_sound : List Line → Line → Bool
is_sound lines line =
    (nat_lt line.under line.number || line.number == 0)
    && ((line_at lines line.under).inner == line.under)
    && is_level (line_at lines line.under).shape
    && ((line_at lines line.inner).inner == line.inner)
    && has_spelling line.name_kind
    && has_spelling line.value_kind
    && (line.number == 0 || has_beginning line)
    && (not (is_bare line.shape) || same_word (spelled line.head) [])
    && (not line.ordered || is_named line.shape)

abbrev pub is_everywhere : Reach → Bool
is_everywhere Everywhere = true
is_everywhere _ = false

-- two rows can stand at one level
abbrev pub meet : Line → Line → Bool
meet one two = (one.under == two.under) || (is_everywhere one.reach || is_everywhere two.reach)

-- two rows begin alike, or both are ordered
abbrev pub clash : Line → Line → Bool
clash one two =
    (same_word (spelled one.head) (spelled two.head)
    && (not (is_fixed one.shape && is_fixed two.shape) || same_word (spelled one.name) (spelled two.name)))
    || (one.ordered && two.ordered)

-- of the rows of one level no two begin alike, and at most one is ordered
abbrev pub apart : List Line → Bool
apart [] = true
apart (line ∷ lines) = list_all (λ other. not (meet line other && clash line other)) lines && apart lines

-- how many levels stand above a row, counted by its own levels; `most` is a bound
abbrev pub below_level : Bool → ℕ → ℕ
below_level true depth = 0
below_level false depth = depth + 1

abbrev pub depth : List Line → ℕ → ℕ → ℕ
depth lines zero id = 0
depth lines (suc most) id = below_level (id == 0) (depth lines most (line_at lines id).under)

-- a bound on the steps of a path that follows a row: 9 at most
abbrev pub height_at : Bool → Bool → ℕ → ℕ
height_at true in_group depth = 9
height_at false true depth = depth + 2
height_at false false depth = depth

unfoldable pub height : List Line → Line → Bool → ℕ
height lines line in_group =
    height_at (is_everywhere line.reach) (in_group && not (line.number == GROUPS)) (depth lines 9 line.inner)

-- where a row stands, its bound is greater than that of its level
abbrev pub rises : List Line → Bool → ℕ → Line → Bool → Bool
rises lines false above line in_group = true
rises lines true above line in_group = nat_lt above (height lines line (in_group || (line.number == GROUP)))

abbrev pub all_rise : List Line → Level → ℕ → Bool → Bool
all_rise lines level above in_group = list_all (λ line. rises lines (stands level line) above line in_group) lines

abbrev pub rises_from : List Line → Bool → Line → Bool
rises_from lines in_group line =
    all_rise lines (level_in lines line.number in_group) (height lines line in_group) in_group
    && nat_le (height lines line in_group) 9
