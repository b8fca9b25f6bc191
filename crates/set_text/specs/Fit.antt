-- How the tokens of a line fit the forms, as the code finds it. No public clause cites it.
use Rattle.std.specs.Prelude.{◌≡◌, ◌<◌, ◌≤◌, ◌+◌, ◌-◌, ℕ, Bool, true, false, List, ◌∷◌, ◌++◌, length, take, drop, Option, None}
use Rattle.std.specs.List.{list_all}
use Rattle.cfg_lex.specs.declared.token.Token.{Token}
use Rattle.cfg_lex.specs.Lexed.{Lexed, lexed_in}
use Rattle.commands.specs.declared.command.Op.{Op}
use Rattle.commands.specs.declared.mover.Mover.{Mover}
use Rattle.commands.specs.declared.verb.Verb.{Verb}
use Rattle.commands.specs.Verb.{op_of}
use Rattle.commands.specs.Mover as moves
use Rattle.set_text.specs.declared.form.Form.{Form}
use Rattle.set_text.specs.declared.phase.Phase.{Phase}
use Rattle.set_text.specs.declared.phase.Phase.TheVariants.{Bare}
use Rattle.set_text.specs.declared.fit.Fit.{Fit}
use Rattle.set_text.specs.declared.fit.Fit.TheVariants.{Stops, More, Whole, Around}
use Rattle.set_text.specs.Form.{parts_in, form_of, is_name, words_among, AsksBehind, Spells, Begins, IsNoLine}
use Rattle.set_text.specs.Phase.{PhaseLeads, StopsFrom, ends_at, kinds_in}

-- the form that a token begins: one that is no word begins none
abbrev pub form_at : Bool → List ℕ → Option Form
form_at true word = form_of word
form_at false word = None

-- the tokens after a keyword lead to a phase where a line may end, or may not
pub record Reaches (brackets : Bool) (tokens : List Token) (ends : Bool) : Type 0 where
  pub phase : Phase
  pub leads : PhaseLeads brackets Bare (kinds_in tokens) phase
  pub ends_there : ends_at phase ≡ ends

-- how the tokens after the keyword of a list of words fit its form
abbrev pub FitsOneList : Verb → Bool → List Token → Fit → Type 0
FitsOneList verb brackets tokens (Stops count) = (place : ℕ) × (count ≡ place + 1) × StopsFrom brackets tokens place
FitsOneList verb brackets tokens More = Reaches brackets tokens false
FitsOneList verb brackets tokens (Whole kind) = Reaches brackets tokens true × (kind ≡ verb)
FitsOneList verb brackets tokens (Around mover at) = ⊥

-- so many tokens at the front are words and no marks, and the next one, where there is one, isn't
pub record AreNames (text : List ℕ) (one other : Mover) (tokens : List Token) (count : ℕ) : Type 0 where
  pub within : count ≤ length tokens
  pub names : list_all (is_name one other) (parts_in text (take count tokens)) ≡ true
  pub ends : (token : Token) (rest : List Token) → drop count tokens ≡ token ∷ rest → is_name one other (lexed_in text token) ≡ false

-- what stands after the keyword of a form begins with these parts
pub record BeginsBehind (form : Form) (parts : List Lexed) : Type 0 where
  pub more : List Lexed
  pub change : Op
  pub asked : AsksBehind form (parts ++ more) change

-- so many of the tokens after the keyword begin what may stand there, and with the next one they don't
pub record StopsIn (text : List ℕ) (form : Form) (tokens : List Token) (place : ℕ) : Type 0 where
  pub within : place < length tokens
  pub begun : BeginsBehind form (parts_in text (take place tokens))
  pub not_more : ¬ (BeginsBehind form (parts_in text (take (place + 1) tokens)))

-- the tokens after the keyword ask for a change of two statements, with its mark at a place
pub record IsAround (text : List ℕ) (form : Form) (tokens : List Token) (mover : Mover) (place : ℕ) : Type 0 where
  pub within : place + 1 < length tokens
  pub asked : AsksBehind form (parts_in text tokens)
      (moves.op_of mover (words_among (parts_in text (take place tokens))) (words_among (parts_in text (drop (place + 1) tokens))))

-- how the tokens after the keyword of a form fit it
abbrev pub FitsBehind : List ℕ → Form → List Token → Fit → Type 0
FitsBehind text form tokens (Stops count) = (place : ℕ) × (count ≡ place + 1) × StopsIn text form tokens place
FitsBehind text form tokens More =
    BeginsBehind form (parts_in text tokens) × ((change : Op) → ¬ (AsksBehind form (parts_in text tokens) change))
FitsBehind text form tokens (Whole verb) = AsksBehind form (parts_in text tokens) (op_of verb (words_among (parts_in text tokens)))
FitsBehind text form tokens (Around mover at) = (place : ℕ) × (at ≡ place + 1) × IsAround text form tokens mover place

-- so many parts begin a line, and with the next one they begin none
pub record StopsBehind (text : List ℕ) (tokens : List Token) (count : ℕ) : Type 0 where
  pub within : count < length tokens
  pub begun : Begins (parts_in text (take count tokens))
  pub not_more : ¬ (Begins (parts_in text (take (count + 1) tokens)))

-- the tokens are a line that asks for a change of two statements, with its mark at a place
pub record SpellsAround (text : List ℕ) (tokens : List Token) (mover : Mover) (at : ℕ) : Type 0 where
  pub behind : 1 ≤ at
  pub within : at + 1 < length tokens
  pub spelled : Spells (parts_in text tokens)
      (moves.op_of mover (words_among (parts_in text (take (at - 1) (drop 1 tokens)))) (words_among (parts_in text (drop (at + 1) tokens))))

-- how the tokens of a line fit the forms: the first so many begin a line, and one more doesn't; all of them begin a line and are none;
-- they are one of a list of words; or they are one with a mark at a place
abbrev pub FitsForms : List ℕ → List Token → Fit → Type 0
FitsForms text tokens (Stops count) = StopsBehind text tokens count
FitsForms text tokens More = Begins (parts_in text tokens) × IsNoLine (parts_in text tokens)
FitsForms text tokens (Whole verb) =
    (0 < length tokens) × Spells (parts_in text tokens) (op_of verb (words_among (parts_in text (drop 1 tokens))))
FitsForms text tokens (Around mover at) = SpellsAround text tokens mover at
