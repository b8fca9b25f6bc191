-- The forms of lines that change statements. Junos OS CLI User Guide, on set, delete, activate, deactivate, protect, unprotect, rename,
-- copy and insert.
use Rattle.std.specs.Prelude.{◌≡◌, ◌⊎◌, ◌<◌, ◌&&◌, ℕ, Bool, true, false, List, [], ◌∷◌, ◌++◌, length, map, filter, find}
use Rattle.std.specs.Prelude.{Option, Some, None, is_none, if◌then◌else◌}
use Rattle.std.specs.List.{list_all}
use Rattle.cfg_base.specs.Words.{same_word}
use Rattle.commands.specs.declared.command.Op.{Op}
use Rattle.cfg_lex.specs.declared.token.Token.{Token}
use Rattle.cfg_lex.specs.declared.token.TokenKind.{TokenKind}
use Rattle.cfg_lex.specs.declared.token.TokenKind.TheVariants.{OpenBracket, CloseBracket}
use Rattle.cfg_lex.specs.Lexed.{Lexed, lexed_in, is_word_kind, is_bare_word}
use Rattle.set_text.specs.declared.form.Form.{Form}
use Rattle.set_text.specs.declared.form.Form.TheVariants.{OneList, TwoLists}
use Rattle.set_text.specs.declared.form.TheConstants.{FORMS}
use Rattle.commands.specs.Verb.{keyword, op_of}
use Rattle.commands.specs.declared.mover.Mover.{Mover}
use Rattle.commands.specs.Mover as moves

-- the word that a line of a form begins with
abbrev pub keyword_of : Form → List ℕ
keyword_of (OneList verb brackets) = keyword verb
keyword_of (TwoLists one other) = moves.keyword one

-- the form that a keyword begins, where there is one
abbrev pub form_of : List ℕ → Option Form
form_of word = find (λ form. same_word (keyword_of form) word) FORMS

-- the parts of a line: its tokens as they are read
abbrev pub parts_in : List ℕ → List Token → List Lexed
parts_in text tokens = map (lexed_in text) tokens

abbrev pub kinds_of : List Lexed → List TokenKind
kinds_of parts = map (λ part. part.kind) parts

abbrev pub AreWords : List TokenKind → Type 0
AreWords kinds = list_all is_word_kind kinds ≡ true

-- one or more words
pub record IsPlain (kinds : List TokenKind) : Type 0 where
  pub words : AreWords kinds
  pub some : 0 < length kinds

-- words, and then one or more words in brackets
pub record IsBracketed (kinds : List TokenKind) : Type 0 where
  pub front : List TokenKind
  pub inside : List TokenKind
  pub joined : kinds ≡ front ++ OpenBracket ∷ (inside ++ CloseBracket ∷ [])
  pub front_words : AreWords front
  pub inside_words : AreWords inside
  pub some : 0 < length inside

-- one or more words, and where brackets may stand, the last ones of them may be in brackets
abbrev pub IsTail : Bool → List TokenKind → Type 0
IsTail true kinds = IsPlain kinds ⊎ IsBracketed kinds
IsTail false kinds = IsPlain kinds

-- the words among the parts of a line: its brackets are none
abbrev pub words_among : List Lexed → List (List ℕ)
words_among parts = map (λ part. part.word) (filter (λ part. is_word_kind part.kind) parts)

-- the kind of change whose mark a part is, of two kinds: a mark is bare
abbrev pub mover_of : Mover → Mover → Lexed → Option Mover
mover_of one other part =
    if is_bare_word (moves.mark one) part then Some one else (if is_bare_word (moves.mark other) part then Some other else None)

-- a word that is none of their marks
abbrev pub is_name : Mover → Mover → Lexed → Bool
is_name one other part = is_word_kind part.kind && is_none (mover_of one other part)

-- one or more words, the first mark among them, and one or more words after it
pub record AreTwoLists (one other : Mover) (parts : List Lexed) (change : Op) : Type 0 where
  pub front : List Lexed
  pub mark : Lexed
  pub behind : List Lexed
  pub joined : parts ≡ front ++ mark ∷ behind
  pub names : list_all (is_name one other) front ≡ true
  pub some : 0 < length front
  pub mover : Mover
  pub marked : mover_of one other mark ≡ Some mover
  pub words : IsPlain (kinds_of behind)
  pub asked : change ≡ moves.op_of mover (words_among front) (words_among behind)

-- what the parts after the keyword of a form ask
abbrev pub AsksBehind : Form → List Lexed → Op → Type 0
AsksBehind (OneList verb brackets) parts change = IsTail brackets (kinds_of parts) × (change ≡ op_of verb (words_among parts))
AsksBehind (TwoLists one other) parts change = AreTwoLists one other parts change

-- the parts are a line of a form: its keyword, and what stands after it
pub record Spells (parts : List Lexed) (change : Op) : Type 0 where
  pub first : Lexed
  pub rest : List Lexed
  pub joined : parts ≡ first ∷ rest
  pub word : is_word_kind first.kind ≡ true
  pub form : Form
  pub begun : form_of first.word ≡ Some form
  pub asked : AsksBehind form rest change

-- a line of a form begins with these parts
pub record Begins (parts : List Lexed) : Type 0 where
  pub more : List Lexed
  pub change : Op
  pub spelled : Spells (parts ++ more) change

-- the parts are no line of any form
abbrev pub IsNoLine : List Lexed → Type 0
IsNoLine parts = (change : Op) → ¬ (Spells parts change)
