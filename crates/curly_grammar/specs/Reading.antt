-- What a reader of a curly text has in mind between two tokens, and which token it takes next. It reads one token after another, and says
-- each statement at the token with which its step is whole. This is this project's own.
use Rattle.std.specs.Prelude.{◌≡◌, ◌<◌, ℕ, List, [], ◌∷◌, ◌++◌, length, Bool, true, false, ◌||◌, if◌then◌else◌}
use Rattle.cfg_base.specs.declared.kind.Kind.{Kind}
use Rattle.cfg_base.specs.declared.kind.Shape.{Shape}
use Rattle.cfg_base.specs.declared.kind.Shape.TheVariants.{Container, Fixed, Keyed, Bare, Leaf, Flag, Many}
use Rattle.cfg_base.specs.declared.path.Step.{Step}
use Rattle.cfg_base.specs.declared.value.Value.{Value}
use Rattle.cfg_base.specs.Words.{joined}
use Rattle.cfg_entries.specs.EntryMap.{Pair}
use Rattle.cfg_lex.specs.declared.token.TokenKind.{TokenKind}
use Rattle.cfg_lex.specs.declared.token.TokenKind.TheVariants as kind
use Rattle.cfg_lex.specs.Lexed.{Lexed}
use Rattle.cfg_schema.specs.declared.answer.Child.{Child}
use Rattle.cfg_schema.specs.declared.answer.Child.TheVariants as begun
use Rattle.cfg_schema.specs.Profile.{row_of, rows_below}
use Rattle.cfg_schema.specs.Child.{child_of}
use Rattle.cfg_schema.specs.Place.{entered}
use Rattle.cfg_values.specs.Spelling.{IsCanonicalOf}
use Rattle.cfg_tree.specs.Gather.{is_many}
use Rattle.cfg_tree.specs.Tree.{step_of}
use Rattle.cfg_tree.specs.Typed.{IsNameOf}
use Rattle.curly_grammar.specs.declared.phase.Marks.{Marks}
use Rattle.curly_grammar.specs.declared.phase.Phase.{Phase}
use Rattle.curly_grammar.specs.declared.phase.Phase.TheVariants.{Between, Marked, Naming, Valuing, Listing, After}
use Rattle.curly_grammar.specs.Grammar.{Level, top_level, is_open, is_inactive, is_protect, is_replace, is_mark}

abbrev pub no_marks : Marks
no_marks = record { inactive = false; protected = false; replace = false }

-- the marks with one more
abbrev pub with_mark : Marks → Lexed → Marks
with_mark marks token = record {
  inactive = marks.inactive || is_inactive token;
  protected = marks.protected || is_protect token;
  replace = marks.replace || is_replace token;
}

-- between two tokens: the level whose text is read, those around it from the inside, and what has been read of a statement
pub record ReadState : Type 0 where
  pub here : Level
  pub outer : List Level
  pub phase : Phase

abbrev pub state : Level → List Level → Phase → ReadState
state here outer phase = record { here = here; outer = outer; phase = phase }

-- before the first token
abbrev pub start : ReadState
start = state top_level [] Between

-- a text may end here
pub record IsFinal (s : ReadState) : Type 0 where
  pub closed : s.outer ≡ []
  pub whole : s.phase ≡ Between

-- what tokens lead to, with the statements that they say and the paths that they tag
pub record Run : Type 0 where
  pub state : ReadState
  pub items : List (Pair Value)
  pub tags : List (List Step)

-- nothing is said
abbrev pub silent : ReadState → Run
silent s = record { state = s; items = []; tags = [] }

-- one run after another
abbrev pub and_then : Run → Run → Run
and_then one two = record { state = two.state; items = one.items ++ two.items; tags = one.tags ++ two.tags }

-- a word changes what has been read of a statement, and may say one
pub record Turn : Type 0 where
  pub phase : Phase
  pub items : List (Pair Value)
  pub tags : List (List Step)

abbrev pub turned : ReadState → Turn → Run
turned s turn = record { state = state s.here s.outer turn.phase; items = turn.items; tags = turn.tags }

-- nothing is said yet
abbrev pub quiet : Phase → Turn
quiet phase = record { phase = phase; items = []; tags = [] }

-- a statement with its marks and words
abbrev pub item_of : Marks → Level → List (List ℕ) → Pair Value
item_of marks level words = (level.path, record { inactive = marks.inactive; protected = marks.protected; order = []; words = words })

-- its path, where it is tagged
abbrev pub tag_of : Marks → Level → List (List Step)
tag_of marks level = if marks.replace then level.path ∷ [] else []

-- a step is whole, and says its statement
abbrev pub whole : Marks → Level → List (List ℕ) → Turn
whole marks level words = record { phase = After level; items = item_of marks level words ∷ []; tags = tag_of marks level }

-- the statement of a row and a step below a level
abbrev pub below : Level → ℕ → Step → Level
below at row step = record { path = at.path ++ step ∷ []; place = entered at.place row }

-- the row that a word begins at a level, where another follows it
abbrev pub child_at : Level → List ℕ → List ℕ → Child
child_at at word next = child_of at.place.row at.place.in_group word next

-- a level that can have children: rows stand there
abbrev pub HasRows : Level → Type 0
HasRows here = 0 < length (rows_below here.place.row here.place.in_group)

-- a word is a name of a kind, which makes this of it
pub record IsNamed (in_group : Bool) (kind : Kind) (bytes : List ℕ) (marks : Marks) (level : List ℕ → Level) (turn : Turn) : Type 0 where
  pub name : List ℕ
  pub is_name : IsNameOf in_group kind bytes name
  pub makes : turn ≡ whole marks (level name) []

-- the first word of a step, at a row of this shape
abbrev pub BeginsAs : Shape → Kind → ℕ → Level → Marks → List ℕ → Turn → Type 0
BeginsAs Container name_kind row at marks word turn = turn ≡ whole marks (below at row (step_of word [])) []
BeginsAs Flag name_kind row at marks word turn = turn ≡ whole marks (below at row (step_of word [])) []
BeginsAs Bare name_kind row at marks word turn =
    IsNamed at.place.in_group name_kind word marks (λ name. below at row (step_of [] name)) turn
BeginsAs Keyed name_kind row at marks word turn = turn ≡ quiet (Naming marks at word)
BeginsAs Fixed name_kind row at marks word turn = turn ≡ quiet (Naming marks at word)
BeginsAs Leaf name_kind row at marks word turn = turn ≡ quiet (Valuing marks (below at row (step_of word [])))
BeginsAs Many name_kind row at marks word turn = turn ≡ quiet (Valuing marks (below at row (step_of word [])))

abbrev pub BeginsStep : Child → Level → Marks → List ℕ → Turn → Type 0
BeginsStep begun.Unknown at marks word turn = ⊥
BeginsStep (begun.BadName row) at marks word turn = turn ≡ quiet (Naming marks at word)
BeginsStep (begun.Row row) at marks word turn = BeginsAs (row_of row).shape (row_of row).name_kind row at marks word turn

-- the name after a head
abbrev pub NamesAs : Shape → Kind → ℕ → Level → Marks → List ℕ → List ℕ → Turn → Type 0
NamesAs Keyed name_kind row at marks head word turn =
    IsNamed at.place.in_group name_kind word marks (λ name. below at row (step_of head name)) turn
NamesAs Fixed name_kind row at marks head word turn = turn ≡ whole marks (below at row (step_of head word)) []
NamesAs _ name_kind row at marks head word turn = ⊥

abbrev pub NamesStep : Child → Level → Marks → List ℕ → List ℕ → Turn → Type 0
NamesStep (begun.Row row) at marks head word turn = NamesAs (row_of row).shape (row_of row).name_kind row at marks head word turn
NamesStep _ at marks head word turn = ⊥

-- a word that may be a mark, where a statement begins; the test says whether it is one
abbrev pub TakesFirst : Bool → Level → Marks → Lexed → Turn → Type 0
TakesFirst true here marks token turn = HasRows here × (turn ≡ quiet (Marked (with_mark marks token)))
TakesFirst false here marks token turn = BeginsStep (child_at here token.word []) here marks token.word turn

-- a word after a whole step; the test says whether that is a level
abbrev pub TakesAfter : Bool → Level → List ℕ → Turn → Type 0
TakesAfter true level word turn = BeginsStep (child_at level word []) level no_marks word turn
TakesAfter false level word turn = ⊥

-- the kind of a statement's values
abbrev pub value_kind_of : Level → Kind
value_kind_of level = (row_of level.place.row).value_kind

-- a value of a statement, which makes this of it
pub record IsValued (level : Level) (bytes : List ℕ) (make : List ℕ → Turn) (turn : Turn) : Type 0 where
  pub word : List ℕ
  pub spelled : IsCanonicalOf (value_kind_of level) bytes word
  pub makes : turn ≡ make word

-- a word is taken in a level's text
abbrev pub TakesWord : Phase → Level → Lexed → Turn → Type 0
TakesWord Between here token turn = TakesFirst (is_mark token) here no_marks token turn
TakesWord (Marked marks) here token turn = TakesFirst (is_mark token) here marks token turn
TakesWord (Naming marks at head) here token turn = NamesStep (child_at at head token.word) at marks head token.word turn
TakesWord (Valuing marks level) here token turn = IsValued level token.word (λ word. whole marks level (word ∷ [])) turn
TakesWord (Listing marks level words) here token turn =
    IsValued level token.word (λ word. quiet (Listing marks level (words ++ word ∷ []))) turn
TakesWord (After level) here token turn = TakesAfter (is_open level) level token.word turn

-- the signs
abbrev pub TakesSemicolon : Phase → ReadState → Run → Type 0
TakesSemicolon (After level) s run = run ≡ silent (state s.here s.outer Between)
TakesSemicolon _ s run = ⊥

abbrev pub TakesOpenBrace : Phase → ReadState → Run → Type 0
TakesOpenBrace (After level) s run = (is_open level ≡ true) × (run ≡ silent (state level (s.here ∷ s.outer) Between))
TakesOpenBrace _ s run = ⊥

abbrev pub Leaves : List Level → Run → Type 0
Leaves [] run = ⊥
Leaves (here ∷ outer) run = run ≡ silent (state here outer Between)

abbrev pub TakesCloseBrace : Phase → ReadState → Run → Type 0
TakesCloseBrace Between s run = Leaves s.outer run
TakesCloseBrace _ s run = ⊥

abbrev pub TakesOpenBracket : Phase → ReadState → Run → Type 0
TakesOpenBracket (Valuing marks level) s run =
    (is_many (row_of level.place.row).shape ≡ true) × (run ≡ silent (state s.here s.outer (Listing marks level [])))
TakesOpenBracket _ s run = ⊥

abbrev pub TakesCloseBracket : Phase → ReadState → Run → Type 0
TakesCloseBracket (Listing marks level words) s run = (0 < length words) × (run ≡ turned s (whole marks level (joined [] words)))
TakesCloseBracket _ s run = ⊥

pub record TakesWordTo (s : ReadState) (token : Lexed) (run : Run) : Type 0 where
  pub turn : Turn
  pub taken : TakesWord s.phase s.here token turn
  pub makes : run ≡ turned s turn

-- a token of this kind is taken
abbrev pub TakesBy : TokenKind → ReadState → Lexed → Run → Type 0
TakesBy kind.Semicolon s token run = TakesSemicolon s.phase s run
TakesBy kind.OpenBrace s token run = TakesOpenBrace s.phase s run
TakesBy kind.CloseBrace s token run = TakesCloseBrace s.phase s run
TakesBy kind.OpenBracket s token run = TakesOpenBracket s.phase s run
TakesBy kind.CloseBracket s token run = TakesCloseBracket s.phase s run
TakesBy kind.Bare s token run = TakesWordTo s token run
TakesBy kind.Quoted s token run = TakesWordTo s token run

-- a token is taken in a state, and leads to another one
abbrev pub Takes : ReadState → Lexed → Run → Type 0
Takes s token run = TakesBy token.kind s token run

-- tokens are taken one after another
abbrev pub Goes : ReadState → List Lexed → Run → Type 0
Goes s [] run = run ≡ silent s
Goes s (token ∷ tokens) run = (one : Run) × (more : Run) × Takes s token one × Goes one.state tokens more × (run ≡ and_then one more)

-- the paths of statements that have begun without being said: a Leaf and a Many are met at their heads
abbrev pub begun_paths : Phase → List (List Step)
begun_paths Between = []
begun_paths (Marked marks) = []
begun_paths (Naming marks at head) = []
begun_paths (Valuing marks level) = level.path ∷ []
begun_paths (Listing marks level words) = level.path ∷ []
begun_paths (After level) = []
