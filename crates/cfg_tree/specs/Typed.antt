-- Which paths follow the profile's rows, and which words their statements have.
use Rattle.std.specs.Prelude.{◌≡◌, ◌⊎◌, ℕ, ◌<◌, Bool, true, List, [], ◌∷◌, length, All, Some}
use Rattle.std.specs.List.{IsDistinct}
use Rattle.cfg_base.specs.declared.path.Step.{Step}
use Rattle.cfg_base.specs.declared.kind.Kind.{Kind}
use Rattle.cfg_base.specs.declared.kind.Kind.TheVariants.{OneOf}
use Rattle.cfg_base.specs.declared.kind.Shape.{Shape}
use Rattle.cfg_base.specs.declared.kind.Shape.TheVariants.{Keyed, Bare, Leaf, Many}
use Rattle.cfg_schema.specs.declared.place.Place.{Place}
use Rattle.cfg_schema.specs.declared.rows.Row.{Row}
use Rattle.cfg_schema.specs.Profile.{row_of, is_level, same_word}
use Rattle.cfg_schema.specs.Child.{IsNoHead}
use Rattle.cfg_schema.specs.Place.{top_place, place_after, place_of}
use Rattle.cfg_values.specs.Spelling.{IsCanonical, IsCanonicalOf}
use Rattle.cfg_values.specs.Pattern.{IsPattern}

-- a kind with a fixed set of words, in place of which no wildcard stands
abbrev pub IsOpenKind : Kind → Type 0
IsOpenKind (OneOf choice) = ⊥
IsOpenKind _ = Unit {0}

-- a wildcard name, which may stand in a group in place of a name of the kind
abbrev pub IsWildcard : Bool → Kind → List ℕ → Type 0
IsWildcard in_group kind bytes = (in_group ≡ true) × IsOpenKind kind × IsPattern bytes

-- the bytes name what the word names: it is their canonical spelling, or they are a wildcard name
abbrev pub IsNameOf : Bool → Kind → List ℕ → List ℕ → Type 0
IsNameOf in_group kind bytes word = IsCanonicalOf kind bytes word ⊎ (IsWildcard in_group kind bytes × (word ≡ bytes))

-- a name as it is kept
abbrev pub IsName : Bool → Kind → List ℕ → Type 0
IsName in_group kind word = IsNameOf in_group kind word word

-- a name of the row, where its statements have names
abbrev pub IsNameBy : Bool → Shape → Kind → List ℕ → Type 0
IsNameBy in_group Keyed kind name = IsName in_group kind name
IsNameBy in_group Bare kind name = IsName in_group kind name
IsNameBy in_group _ kind name = Unit {0}

-- what the name of a step is below a place, where the step follows that row; a bare name is no head
abbrev pub IsNamed : Place → ℕ → Shape → List ℕ → Type 0
IsNamed here id Keyed name = IsName here.in_group (row_of id).name_kind name
IsNamed here id Bare name = IsName here.in_group (row_of id).name_kind name × IsNoHead here.row here.in_group name
IsNamed here id _ name = Unit {0}

-- the steps from a place on follow rows, one below the other, and have names of those rows
abbrev pub FollowsFrom : List Step → Place → Type 0
FollowsFrom [] here = Unit {0}
FollowsFrom (step ∷ rest) here =
    (next : Place)
    × (place_after here step ≡ Some next)
    × IsNamed here next.row (row_of next.row).shape step.name
    × FollowsFrom rest next

-- a path that a typed map may have
abbrev pub IsTypedPath : List Step → Type 0
IsTypedPath path = FollowsFrom path top_place

-- the top, or a level that a typed map may have
pub record IsLevelPath (level : List Step) : Type 0 where
  pub typed : IsTypedPath level
  pub opens : (here : Place) → place_of level ≡ Some here → is_level (row_of here.row).shape ≡ true

-- as many and as different words as a statement of the shape has
abbrev pub AreCounted : Shape → List (List ℕ) → Type 0
AreCounted Leaf words = length words ≡ 1
AreCounted Many words = (0 < length words) × IsDistinct same_word words
AreCounted _ words = words ≡ []

-- each of the first words spells a value of the kind, and the words are the canonical spellings of these, in order
abbrev pub AllSpelled : Kind → List (List ℕ) → List (List ℕ) → Type 0
AllSpelled kind [] [] = Unit {0}
AllSpelled kind (bytes ∷ more) (word ∷ words) = IsCanonicalOf kind bytes word × AllSpelled kind more words
AllSpelled kind _ _ = ⊥

-- each word is the canonical spelling of a value of the kind
abbrev pub AreCanonical : Kind → List (List ℕ) → Type 0
AreCanonical kind words = All (IsCanonical kind) words

-- the words that a statement of a row has
abbrev pub AreWordsOf : ℕ → List (List ℕ) → Type 0
AreWordsOf id words = AreCounted (row_of id).shape words × AreCanonical (row_of id).value_kind words

-- the name and the words are of the row's kinds
abbrev pub IsRight : Row → Bool → List ℕ → List (List ℕ) → Type 0
IsRight row in_group name words = IsNameBy in_group row.shape row.name_kind name × AreCanonical row.value_kind words
