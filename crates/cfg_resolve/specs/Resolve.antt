-- Which statement words name below a level. The rules are this project's own.
use Rattle.std.specs.Prelude.{Bool, Option, Some, None, ◌≡◌, ◌⊎◌, ◌≤◌, ◌<◌, ℕ, List, [], ◌∷◌, ◌++◌, length, drop, slice_index_or, Result, Ok, Err, MatchBool, ◌==◌}
use Rattle.cfg_base.specs.declared.path.Step.{Step}
use Rattle.cfg_base.specs.declared.kind.Kind.{Kind}
use Rattle.cfg_base.specs.declared.kind.Shape.{Shape}
use Rattle.cfg_base.specs.declared.kind.Shape.TheVariants.{Container, Fixed, Keyed, Bare, Leaf, Flag, Many}
use Rattle.cfg_schema.specs.declared.place.Place.{Place}
use Rattle.cfg_schema.specs.declared.answer.Child.{Child}
use Rattle.cfg_schema.specs.declared.answer.Child.TheVariants as begun
use Rattle.cfg_schema.specs.declared.rows.Row.{Row}
use Rattle.cfg_schema.specs.Profile.{row_of}
use Rattle.cfg_schema.specs.Child.{child_of}
use Rattle.cfg_schema.specs.Place.{entered, place_of}
use Rattle.cfg_values.specs.Spelling.{IsSpelling, IsCanonicalOf}
use Rattle.cfg_resolve.specs.declared.front.Front.{Front}
use Rattle.cfg_resolve.specs.declared.front.Front.TheVariants.{Level, Statement, Refused}
use Rattle.cfg_resolve.specs.declared.front.Why.{Why}
use Rattle.cfg_resolve.specs.declared.front.Why.TheVariants as why
use Rattle.cfg_resolve.specs.declared.target.Target.{Target}
use Rattle.cfg_resolve.specs.declared.target.WordsFault.{WordsFault}
use Rattle.cfg_resolve.specs.declared.target.WordsFault.TheVariants.{Unknown, BadValue, Incomplete, Extra, NoMemory}
use Rattle.cfg_tree.specs.Typed.{IsNameOf, AllSpelled, IsTypedPath, AreCanonical}
use Rattle.cfg_tree.specs.Tree.{step_of}

-- the first word, or no bytes
abbrev pub first_of : List (List ℕ) → List ℕ
first_of words = slice_index_or words 0 []

-- the word that the bytes spell, where they are a spelling of the kind
abbrev pub SpelledBy : Kind → List ℕ → Option (List ℕ) → Type 0
SpelledBy kind bytes (Some word) = IsCanonicalOf kind bytes word
SpelledBy kind bytes None = ¬ (IsSpelling kind bytes)

-- the name that the bytes are, where they are one of the kind or a wildcard name
abbrev pub NamedBy : Bool → Kind → List ℕ → Option (List ℕ) → Type 0
NamedBy in_group kind bytes (Some word) = IsNameOf in_group kind bytes word
NamedBy in_group kind bytes None = (word : List ℕ) → ¬ (IsNameOf in_group kind bytes word)

-- words name a level: they are the head and the name that a word is a spelling of, or a wildcard name
pub record Named (here : Place) (id : ℕ) (kind : Kind) (head bytes : List ℕ) (used : ℕ) (front : Front) : Type 0 where
  pub name : List ℕ
  pub is_name : IsNameOf here.in_group kind bytes name
  pub entered_is : front ≡ Level (step_of head name) (entered here id) used

-- the bytes are no name of the kind
pub record Unnamed (here : Place) (kind : Kind) (head bytes : List ℕ) (front : Front) : Type 0 where
  pub none : (name : List ℕ) → ¬ (IsNameOf here.in_group kind bytes name)
  pub refused : front ≡ Refused why.BadValue (step_of head bytes)

abbrev pub IsNamedLevel : Place → ℕ → Kind → List ℕ → List ℕ → ℕ → Front → Type 0
IsNamedLevel here id kind head bytes used front = Named here id kind head bytes used front ⊎ Unnamed here kind head bytes front

-- a word is of the kind, and then the only one; or it isn't
pub record IsLeaf (kind : Kind) (step : Step) (bytes : List ℕ) (count : ℕ) (front : Front) : Type 0 where
  pub word : List ℕ
  pub spelled : IsCanonicalOf kind bytes word
  pub only : MatchBool (count == 1) (front ≡ Statement step (word ∷ [])) (front ≡ Refused why.Extra step)

pub record IsNoLeaf (kind : Kind) (step : Step) (bytes : List ℕ) (front : Front) : Type 0 where
  pub none : ¬ (IsSpelling kind bytes)
  pub refused : front ≡ Refused why.BadValue step

abbrev pub IsLeafWord : Kind → Step → List ℕ → ℕ → Front → Type 0
IsLeafWord kind step bytes count front = IsLeaf kind step bytes count front ⊎ IsNoLeaf kind step bytes front

-- the words' spellings, where each word has one
abbrev pub SpelledAll : Kind → List (List ℕ) → Option (List (List ℕ)) → Type 0
SpelledAll kind bytes (Some words) = AllSpelled kind bytes words
SpelledAll kind bytes None = (place : ℕ) × (place < length bytes) × ¬ (IsSpelling kind (slice_index_or bytes place []))

pub record IsMany (kind : Kind) (step : Step) (bytes : List (List ℕ)) (front : Front) : Type 0 where
  pub words : List (List ℕ)
  pub spelled : AllSpelled kind bytes words
  pub whole : front ≡ Statement step words

-- one of them isn't
pub record IsNoMany (kind : Kind) (step : Step) (bytes : List (List ℕ)) (front : Front) : Type 0 where
  pub place : ℕ
  pub within : place < length bytes
  pub none : ¬ (IsSpelling kind (slice_index_or bytes place []))
  pub refused : front ≡ Refused why.BadValue step

abbrev pub AreManyWords : Kind → Step → List (List ℕ) → Front → Type 0
AreManyWords kind step bytes front = IsMany kind step bytes front ⊎ IsNoMany kind step bytes front

-- what a statement of a row is, where `rest` follows its first word
abbrev pub IsStatement : Place → ℕ → Kind → Kind → Shape → List ℕ → List (List ℕ) → Front → Type 0
IsStatement here id name_kind value_kind Container word rest front = front ≡ Level (step_of word []) (entered here id) 1
IsStatement here id name_kind value_kind Fixed word rest front = front ≡ Level (step_of word (first_of rest)) (entered here id) 2
IsStatement here id name_kind value_kind Keyed word rest front =
    MatchBool (length rest == 0) (front ≡ Refused why.Incomplete (step_of word []))
    (IsNamedLevel here id name_kind word (first_of rest) 2 front)
IsStatement here id name_kind value_kind Bare word rest front = IsNamedLevel here id name_kind [] word 1 front
IsStatement here id name_kind value_kind Flag word rest front =
    MatchBool (length rest == 0) (front ≡ Statement (step_of word []) []) (front ≡ Refused why.Extra (step_of word []))
IsStatement here id name_kind value_kind Leaf word rest front =
    MatchBool (length rest == 0) (front ≡ Statement (step_of word []) [])
    (IsLeafWord value_kind (step_of word []) (first_of rest) (length rest) front)
IsStatement here id name_kind value_kind Many word rest front = AreManyWords value_kind (step_of word []) rest front

abbrev pub IsStatementOf : Place → Row → List ℕ → List (List ℕ) → Front → Type 0
IsStatementOf here row word rest front = IsStatement here row.id row.name_kind row.value_kind row.shape word rest front

-- a Fixed statement without its name
abbrev pub IsBadName : List ℕ → List (List ℕ) → Front → Type 0
IsBadName word rest front =
    MatchBool (length rest == 0) (front ≡ Refused why.Incomplete (step_of word []))
    (front ≡ Refused why.BadValue (step_of word (first_of rest)))

-- what the first word begins: nothing, a Fixed statement without its name, or a statement of a row
abbrev pub IsBegun : Place → Child → List ℕ → List (List ℕ) → Front → Type 0
IsBegun here begun.Unknown word rest front = front ≡ Refused why.Unknown (step_of word [])
IsBegun here (begun.BadName id) word rest front = IsBadName word rest front
IsBegun here (begun.Row id) word rest front = IsStatementOf here (row_of id) word rest front

-- what the words at the front say below a place
abbrev pub IsFront : Place → List (List ℕ) → Front → Type 0
IsFront here words front =
    IsBegun here (child_of here.row here.in_group (first_of words) (first_of (drop 1 words))) (first_of words) (drop 1 words) front

-- the refusal with its path
abbrev pub fault_of : Why → List Step → WordsFault
fault_of why.Unknown path = Unknown path
fault_of why.BadValue path = BadValue path
fault_of why.Incomplete path = Incomplete path
fault_of why.Extra path = Extra path

abbrev pub target : List Step → List (List ℕ) → Target
target path words = record { path = path; words = words }

-- the words of a statement of a shape that words may name: at most one of a Leaf, any of a Many, else none
abbrev pub AreGiven : Shape → List (List ℕ) → Type 0
AreGiven Leaf words = length words ≤ 1
AreGiven Many words = Unit {0}
AreGiven _ words = words ≡ []

-- a statement below a level, of a path that a typed map may have, with words of its row's kind
pub record IsTargetBelow (level : List Step) (target : Target) : Type 0 where
  pub rest : List Step
  pub steps : 0 < length rest
  pub below : target.path ≡ level ++ rest
  pub typed : IsTypedPath target.path
  pub given : (here : Place) → place_of target.path ≡ Some here → AreGiven (row_of here.row).shape target.words
  pub canonical : (here : Place) → place_of target.path ≡ Some here → AreCanonical (row_of here.row).value_kind target.words

-- what words say from a path on, read from the left: levels are entered until the words or a statement end
pub data Reads : List Step → Place → List (List ℕ) → Result Target WordsFault → Type 0 where
  no_words : (path : List Step) (here : Place) → Reads path here [] (Err (Incomplete path))
  refused : (path : List Step) (here : Place) (words : List (List ℕ)) (reason : Why) (step : Step)
      → 0 < length words → IsFront here words (Refused reason step)
      → Reads path here words (Err (fault_of reason (path ++ step ∷ [])))
  whole : (path : List Step) (here : Place) (words values : List (List ℕ)) (step : Step)
      → 0 < length words → IsFront here words (Statement step values)
      → Reads path here words (Ok (target (path ++ step ∷ []) values))
  ended : (path : List Step) (here next : Place) (words : List (List ℕ)) (step : Step) (used : ℕ)
      → 0 < length words → IsFront here words (Level step next used) → length words ≤ used
      → Reads path here words (Ok (target (path ++ step ∷ []) []))
  goes_on : (path : List Step) (here next : Place) (words : List (List ℕ)) (step : Step) (used : ℕ)
      (answer : Result Target WordsFault)
      → 0 < length words → IsFront here words (Level step next used) → used < length words
      → Reads (path ++ step ∷ []) next (drop used words) answer → Reads path here words answer

-- what the words say, or that memory ran out
abbrev pub IsReadingOf : List Step → Place → List (List ℕ) → Result Target WordsFault → Type 0
IsReadingOf path here words (Ok found) = Reads path here words (Ok found)
IsReadingOf path here words (Err (Unknown at)) = Reads path here words (Err (Unknown at))
IsReadingOf path here words (Err (BadValue at)) = Reads path here words (Err (BadValue at))
IsReadingOf path here words (Err (Incomplete at)) = Reads path here words (Err (Incomplete at))
IsReadingOf path here words (Err (Extra at)) = Reads path here words (Err (Extra at))
IsReadingOf path here words (Err NoMemory) = Unit {0}

-- what the words say below a level
abbrev pub ResolvesTo : List Step → List (List ℕ) → Result Target WordsFault → Type 0
ResolvesTo level words answer = (here : Place) → place_of level ≡ Some here → IsReadingOf level here words answer
