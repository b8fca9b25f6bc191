-- What is in a form. Junos OS CLI User Guide, on the commands of operational and of configuration mode.
use Rattle.std.specs.Prelude.{◌≡◌, ℕ, List, [], ◌∷◌, ◌++◌, Bool, true, false, not, ◌&&◌, ◌||◌, map, is_some}
use Rattle.std.specs.List.{list_all, Contains}
use Rattle.cfg_lex.specs.Lexed.{is_word_kind, is_open_bracket, is_close_bracket, is_this_word, is_bare_word}
use Rattle.shell_words.specs.declared.form.Symbol.{Symbol}
use Rattle.shell_words.specs.declared.form.Symbol.TheVariants.{Keyword, Mark, Word, Neither, Number, Time, OpenBracket, CloseBracket}
use Rattle.shell_words.specs.declared.form.Part.{Part}
use Rattle.shell_words.specs.declared.form.Part.TheVariants.{Nothing, One, Many}
use Rattle.shell_words.specs.declared.form.CommandForm.{CommandForm}
use Rattle.shell_words.specs.declared.form.TheConstants.{OPERATIONAL, CONFIGURING}
use Rattle.shell_words.specs.declared.keyword.Keyword as keywords
use Rattle.shell_words.specs.Item.{Item}
use Rattle.shell_words.specs.Keyword.{spelled}
use Rattle.shell_words.specs.Number.{number_of, is_between}
use Rattle.shell_words.specs.Time.{when_of}

-- the token is this word, bare or in quotes
abbrev pub is_keyword : keywords.Keyword → Item → Bool
is_keyword keyword item = is_this_word (spelled keyword) item.token

-- the token is this word, and bare
abbrev pub is_mark : keywords.Keyword → Item → Bool
is_mark keyword item = is_bare_word (spelled keyword) item.token

-- the token is one of these
abbrev pub is_of : Symbol → Item → Bool
is_of (Keyword keyword) item = is_keyword keyword item
is_of (Mark keyword) item = is_mark keyword item
is_of Word item = is_word_kind item.token.kind
is_of (Neither one other) item = is_word_kind item.token.kind && not (is_mark one item || is_mark other item)
is_of (Number low high) item = is_word_kind item.token.kind && is_between low high (number_of item.token.word)
is_of Time item = is_word_kind item.token.kind && is_some (when_of item.token.word)
is_of OpenBracket item = is_open_bracket item.token.kind
is_of CloseBracket item = is_close_bracket item.token.kind

-- such a token names something: it is no word of the form itself
abbrev pub names : Symbol → Bool
names (Keyword keyword) = false
names (Mark keyword) = false
names Word = true
names (Neither one other) = true
names (Number low high) = true
names Time = true
names OpenBracket = false
names CloseBracket = false

-- the words that tokens of a symbol give
abbrev pub given_by : Bool → List Item → List (List ℕ)
given_by false items = []
given_by true items = map (λ (item : Item). item.token.word) items

-- the first of the tokens is of this symbol, and what follows is as it says
pub record IsLed (symbol : Symbol) (Rest : List Item → List (List ℕ) → Type 0) (items : List Item) (words : List (List ℕ)) : Type 0 where
  pub first : Item
  pub rest : List Item
  pub others : List (List ℕ)
  pub joined : items ≡ first ∷ rest
  pub given : words ≡ given_by (names symbol) (first ∷ []) ++ others
  pub is : is_of symbol first ≡ true
  pub behind : Rest rest others

-- tokens at the front are of this symbol, and what follows is as it says
pub record IsRun (symbol : Symbol) (Rest : List Item → List (List ℕ) → Type 0) (items : List Item) (words : List (List ℕ)) : Type 0 where
  pub run : List Item
  pub rest : List Item
  pub others : List (List ℕ)
  pub joined : items ≡ run ++ rest
  pub given : words ≡ given_by (names symbol) run ++ others
  pub all : list_all (is_of symbol) run ≡ true
  pub behind : Rest rest others

-- the tokens are what these parts are, one after another, and give these words
abbrev pub FitsParts : List Part → List Item → List (List ℕ) → Type 0
FitsParts [] items words = (items ≡ []) × (words ≡ [])
FitsParts (Nothing ∷ parts) items words = FitsParts parts items words
FitsParts (One symbol ∷ parts) items words = IsLed symbol (FitsParts parts) items words
FitsParts (Many symbol ∷ parts) items words = IsRun symbol (FitsParts parts) items words

-- the parts of a line of a form
abbrev pub parts_of : CommandForm → List Part
parts_of form = form.first ∷ form.second ∷ form.third ∷ form.fourth ∷ form.fifth ∷ form.sixth ∷ form.seventh ∷ []

-- the forms of configuration mode, or of operational mode
unfoldable pub forms_of : Bool → List CommandForm
forms_of true = CONFIGURING
forms_of false = OPERATIONAL

-- the tokens of a line are in one of its mode's forms, and give it these words
pub record IsIn (configuring : Bool) (items : List Item) (form : CommandForm) (words : List (List ℕ)) : Type 0 where
  pub served : Contains (forms_of configuring) form
  pub fits : FitsParts (parts_of form) items words

-- tokens that a line of the mode begins with
pub record Begins (configuring : Bool) (items : List Item) : Type 0 where
  pub more : List Item
  pub form : CommandForm
  pub words : List (List ℕ)
  pub line : IsIn configuring (items ++ more) form words
