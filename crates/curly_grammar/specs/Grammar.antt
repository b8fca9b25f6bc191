-- Curly text: statements that end in a semicolon, or hold others in braces. Junos OS CLI User Guide, on the statement hierarchy and on
-- inactive and protected statements; that several steps may stand in one statement, and which words a step has, is this project's own.
--
--     text      = { statement }
--     statement = { "inactive:" | "protect:" | "replace:" } step { step } end
--     end       = ";" | "{" text "}"
use Rattle.std.specs.Prelude.{◌≡◌, ◌<◌, ℕ, List, [], ◌∷◌, ◌++◌, length, map, Bool, true, false, ◌||◌, if◌then◌else◌}
use Rattle.std.specs.List.{flat_map, list_any, AllByRecursion}
use Rattle.cfg_base.specs.declared.kind.Kind.{Kind}
use Rattle.cfg_base.specs.declared.kind.Shape.{Shape}
use Rattle.cfg_base.specs.declared.kind.Shape.TheVariants.{Container, Fixed, Keyed, Bare, Leaf, Flag, Many}
use Rattle.cfg_base.specs.declared.path.Step.{Step}
use Rattle.cfg_base.specs.declared.value.Value.{Value}
use Rattle.cfg_base.specs.Words.{joined}
use Rattle.cfg_entries.specs.EntryMap.{Pair}
use Rattle.cfg_lex.specs.declared.token.Token.{Token}
use Rattle.cfg_lex.specs.declared.token.TokenKind.{TokenKind}
use Rattle.cfg_lex.specs.declared.token.TokenKind.TheVariants as kind
use Rattle.cfg_lex.specs.declared.mark.Mark.TheVariants.{Inactive, Protect, Replace}
use Rattle.cfg_lex.specs.Lexed.{Lexed, lexed, lexed_in, is_word_kind, is_bare_word}
use Rattle.cfg_lex.specs.Mark.{mark_word}
use Rattle.cfg_lex.specs.Tokens.{IsTokens}
use Rattle.cfg_schema.specs.declared.answer.Child.TheVariants as begun
use Rattle.cfg_schema.specs.Profile.{row_of, is_level}
use Rattle.cfg_schema.specs.Child.{child_of}
use Rattle.cfg_schema.specs.Place.{top_place, entered}
use Rattle.cfg_values.specs.Spelling.{IsCanonicalOf}
use Rattle.cfg_tree.specs.Statements.{Statements}
use Rattle.cfg_tree.specs.Stated.{stated_from_none}
use Rattle.cfg_tree.specs.Tree.{step_of}
use Rattle.cfg_tree.specs.Typed.{IsNameOf, AllSpelled}
pub use Rattle.curly_grammar.specs.declared.level.Level.{Level}

-- the signs
abbrev pub sign : TokenKind → Lexed
sign kind = lexed kind []

-- the token is a word
abbrev pub IsWord : Lexed → Type 0
IsWord token = is_word_kind token.kind ≡ true

-- the marks that a statement may have before it; the same words in quotes are none
abbrev pub is_inactive : Lexed → Bool
is_inactive token = is_bare_word (mark_word Inactive) token

abbrev pub is_protect : Lexed → Bool
is_protect token = is_bare_word (mark_word Protect) token

abbrev pub is_replace : Lexed → Bool
is_replace token = is_bare_word (mark_word Replace) token

abbrev pub is_mark : Lexed → Bool
is_mark token = is_inactive token || (is_protect token || is_replace token)

-- how a step is written: one word, two words, or a head and words in brackets
pub data Part : Type 0 where
  One : (word : Lexed) → Part
  Two : (head word : Lexed) → Part
  Listed : (head : Lexed) (words : List Lexed) → Part

-- a text as it is written: nothing more; or a statement with its marks and steps, that ends in `;` or holds statements in braces, and then
-- more text
pub data Text : Type 0 where
  End : Text
  Short : (marks : List Lexed) (first : Part) (more : List Part) (rest : Text) → Text
  Block : (marks : List Lexed) (first : Part) (more : List Part) (body rest : Text) → Text

-- the tokens of a step
abbrev pub spell_part : Part → List Lexed
spell_part (One word) = word ∷ []
spell_part (Two head word) = head ∷ word ∷ []
spell_part (Listed head words) = head ∷ sign kind.OpenBracket ∷ (words ++ sign kind.CloseBracket ∷ [])

-- the tokens of a text
abbrev pub spell : Text → List Lexed
spell End = []
spell (Short marks first more rest) = marks ++ (flat_map spell_part (first ∷ more) ++ sign kind.Semicolon ∷ spell rest)
spell (Block marks first more body rest) =
    marks ++ (flat_map spell_part (first ∷ more) ++ sign kind.OpenBrace ∷ (spell body ++ sign kind.CloseBrace ∷ spell rest))

-- the first word of a step, and the word after it, if there is one alone
abbrev pub head_of : Part → Lexed
head_of (One word) = word
head_of (Two head word) = head
head_of (Listed head words) = head

abbrev pub next_of : Part → List ℕ
next_of (One word) = []
next_of (Two head word) = word.word
next_of (Listed head words) = []

-- each token of a step that stands for a word is one
abbrev pub AreWords : Part → Type 0
AreWords (One word) = IsWord word
AreWords (Two head word) = IsWord head × IsWord word
AreWords (Listed head words) = IsWord head × (0 < length words) × AllByRecursion IsWord words

-- a value of one word
pub record IsValue (kind : Kind) (bytes : List ℕ) (words : List (List ℕ)) : Type 0 where
  pub word : List ℕ
  pub canonical : IsCanonicalOf kind bytes word
  pub alone : words ≡ word ∷ []

-- a value of several words, each once
pub record AreValues (kind : Kind) (bytes : List (List ℕ)) (words : List (List ℕ)) : Type 0 where
  pub all : List (List ℕ)
  pub canonical : AllSpelled kind bytes all
  pub once : words ≡ joined [] all

abbrev pub word_of : Lexed → List ℕ
word_of token = token.word

-- a step as it is written stands for this step with these words, at a row of this shape with these kinds of names and values
abbrev pub StandsFor : Shape → Kind → Kind → Bool → Part → Step → List (List ℕ) → Type 0
StandsFor Container name_kind value_kind in_group (One word) step words = (step ≡ step_of word.word []) × (words ≡ [])
StandsFor Fixed name_kind value_kind in_group (Two head name) step words = (step ≡ step_of head.word name.word) × (words ≡ [])
StandsFor Keyed name_kind value_kind in_group (Two head name) step words =
    (step.head ≡ head.word) × IsNameOf in_group name_kind name.word step.name × (words ≡ [])
StandsFor Bare name_kind value_kind in_group (One name) step words =
    (step.head ≡ []) × IsNameOf in_group name_kind name.word step.name × (words ≡ [])
StandsFor Leaf name_kind value_kind in_group (Two head value) step words =
    (step ≡ step_of head.word []) × IsValue value_kind value.word words
StandsFor Flag name_kind value_kind in_group (One word) step words = (step ≡ step_of word.word []) × (words ≡ [])
StandsFor Many name_kind value_kind in_group (Two head value) step words =
    (step ≡ step_of head.word []) × IsValue value_kind value.word words
StandsFor Many name_kind value_kind in_group (Listed head values) step words =
    (step ≡ step_of head.word []) × AreValues value_kind (map word_of values) words
StandsFor _ _ _ _ _ _ _ = ⊥

-- a level that a text stands in has its path, and its row
abbrev pub top_level : Level
top_level = record { path = []; place = top_place }

-- a step as it is written leads from a level to this statement of this row, with these words
pub record LeadsTo (here : Level) (part : Part) (next : Level) (words : List (List ℕ)) : Type 0 where
  pub row : ℕ
  pub step : Step
  pub are_words : AreWords part
  pub begins : child_of here.place.row here.place.in_group (head_of part).word (next_of part) ≡ begun.Row row
  pub stands_for : StandsFor (row_of row).shape (row_of row).name_kind (row_of row).value_kind here.place.in_group part step words
  pub next_is : next ≡ record { path = here.path ++ step ∷ []; place = entered here.place row }

-- the statement at a level is a level itself
abbrev pub is_open : Level → Bool
is_open level = is_level (row_of level.place.row).shape

-- the statement as it is said, with marks and words
abbrev pub said : List Lexed → Level → List (List ℕ) → Pair Value
said marks level words =
    (level.path, record { inactive = list_any is_inactive marks; protected = list_any is_protect marks; order = []; words = words })

-- the steps of a statement, the first with the marks: each but the last is a level, and is made where it is missing
abbrev pub LeadTo : Level → List Lexed → List Part → List (Pair Value) → Level → Type 0
LeadTo here marks [] items last = (items ≡ []) × (last ≡ here)
LeadTo here marks (part ∷ []) items last = (words : List (List ℕ)) × LeadsTo here part last words × (items ≡ said marks last words ∷ [])
LeadTo here marks (part ∷ next ∷ more) items last =
    (level : Level) × (words : List (List ℕ)) × (others : List (Pair Value))
    × LeadsTo here part level words × (is_open level ≡ true) × LeadTo level [] (next ∷ more) others last
    × (items ≡ said marks level words ∷ others)

-- a statement up to its end, with what it says: its marks are marks, and what follows them is none
pub record Says (here : Level) (marks : List Lexed) (first : Part) (more : List Part)
    (own : List (Pair Value)) (last : Level) : Type 0 where
  pub are_marks : AllByRecursion (λ token. is_mark token ≡ true) marks
  pub no_mark : is_mark (head_of first) ≡ false
  pub steps : LeadTo here marks (first ∷ more) own last

-- the paths that a statement tags: that of its first step, where `replace:` is among its marks
abbrev pub first_path : List (Pair Value) → List (List Step)
first_path [] = []
first_path (item ∷ items) = item.0 ∷ []

abbrev pub tagged : List Lexed → List (Pair Value) → List (List Step)
tagged marks items = if list_any is_replace marks then first_path items else []

-- what a text says at a level: the statements in the order in which they are met, and the paths that are tagged `replace:`
abbrev pub Tells : Text → Level → List (Pair Value) → List (List Step) → Type 0
Tells End here items tags = (items ≡ []) × (tags ≡ [])
Tells (Short marks first more rest) here items tags =
    (own : List (Pair Value)) × (last : Level) × (others : List (Pair Value)) × (other_tags : List (List Step))
    × Says here marks first more own last × Tells rest here others other_tags
    × (items ≡ own ++ others) × (tags ≡ tagged marks own ++ other_tags)
Tells (Block marks first more body rest) here items tags =
    (own : List (Pair Value)) × (last : Level) × (inner : List (Pair Value)) × (inner_tags : List (List Step))
    × (others : List (Pair Value)) × (other_tags : List (List Step))
    × Says here marks first more own last × (is_open last ≡ true) × Tells body last inner inner_tags × Tells rest here others other_tags
    × (items ≡ own ++ (inner ++ others)) × (tags ≡ tagged marks own ++ (inner_tags ++ other_tags))

-- tokens are derived by the grammar, and say these statements with these tags
pub record Derives (tokens : List Lexed) (items : List (Pair Value)) (tags : List (List Step)) : Type 0 where
  pub text : Text
  pub spelled : tokens ≡ spell text
  pub tells : Tells text top_level items tags

-- a text reads as these statements, joined, with these tags
pub record Reads (text : List ℕ) (m : Statements) (tags : List (List Step)) : Type 0 where
  pub tokens : List Token
  pub are_tokens : IsTokens text tokens
  pub items : List (Pair Value)
  pub derives : Derives (map (lexed_in text) tokens) items tags
  pub joins : m ≡ stated_from_none items

-- tokens begin a text: with some others after them they are derived by the grammar
pub record Begins (tokens : List Lexed) : Type 0 where
  pub more : List Lexed
  pub items : List (Pair Value)
  pub tags : List (List Step)
  pub derives : Derives (tokens ++ more) items tags
