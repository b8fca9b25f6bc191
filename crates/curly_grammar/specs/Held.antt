-- What a reader holds, as a run over the tokens that it has read, and what it makes of the next one.
use Rattle.std.specs.Prelude.{◌≡◌, List, [], ◌∷◌, ◌++◌, ℕ, ◌<◌, length, reverse, Result, Ok, Err}
use Rattle.cfg_base.specs.Words.{joined}
use Rattle.cfg_lex.specs.Lexed.{Lexed}
use Rattle.cfg_values.specs.Spelling.{IsSpelling, IsCanonicalOf}
use Rattle.curly_grammar.specs.declared.effect.Effect.{Effect}
use Rattle.curly_grammar.specs.declared.fault.Why.{Why}
use Rattle.curly_grammar.specs.declared.fault.Why.TheVariants.{Unexpected, BadValue}
use Rattle.curly_grammar.specs.declared.reader.Reader.{Reader}
use Rattle.curly_grammar.specs.declared.stop.Stop.{Stop}
use Rattle.curly_grammar.specs.declared.stop.Stop.TheVariants.{Refused, NoMemory}
use Rattle.curly_grammar.specs.declared.phase.Marks.{Marks}
use Rattle.curly_grammar.specs.declared.phase.Phase.{Phase}
use Rattle.curly_grammar.specs.declared.phase.Phase.TheVariants.{Between, Naming, After}
use Rattle.curly_grammar.specs.Answer.{IsPlaced, turn_of}
use Rattle.curly_grammar.specs.Fault.{why_by, why_no_word}
use Rattle.curly_grammar.specs.Grammar.{Level}
use Rattle.curly_grammar.specs.Reading.{ReadState, state, Run, Turn, turned, whole, and_then, value_kind_of, TakesWord, Takes}

abbrev pub state_in : Reader → ReadState
state_in reader = record { here = reader.here; outer = reverse reader.outer.items; phase = reader.phase }

abbrev pub run_in : Reader → Run
run_in reader = record { state = state_in reader; items = reader.items.items; tags = reader.tags.items }

-- a reader after a turn
abbrev pub IsTurned : Reader → Turn → Reader → Type 0
IsTurned old turn new = run_in new ≡ and_then (run_in old) (turned (state_in old) turn)

-- what has been read is the same
abbrev pub IsSame : Reader → Reader → Type 0
IsSame old new = run_in new ≡ run_in old

-- an effect is carried out, or its refusal handed on
abbrev pub Follows : Reader → Result Effect Stop → Reader → Result (Unit {0}) Stop → Type 0
Follows old (Ok effect) new (Ok done) = IsTurned old (turn_of effect) new
Follows old (Err (Refused reason)) new (Err (Refused told)) = (told ≡ reason) × IsSame old new
Follows old answer new (Err NoMemory) = Unit {0}
Follows old answer new result = ⊥

-- a token is taken, or refused with its reason, or memory ran out
pub record IsTaken (old : Reader) (token : Lexed) (new : Reader) : Type 0 where
  pub one : Run
  pub takes : Takes (state_in old) token one
  pub made : run_in new ≡ and_then (run_in old) one

pub record IsNotTaken (old : Reader) (token : Lexed) (reason : Why) (new : Reader) : Type 0 where
  pub why : reason ≡ why_by token.kind (state_in old) token
  pub never : (one : Run) → Takes (state_in old) token one → ⊥
  pub same : IsSame old new

abbrev pub HasTaken : Reader → Lexed → Reader → Result (Unit {0}) Stop → Type 0
HasTaken old token new (Ok done) = IsTaken old token new
HasTaken old token new (Err (Refused reason)) = IsNotTaken old token reason new
HasTaken old token new (Err NoMemory) = Unit {0}

-- the level at which a step begins has the path that leads to its row
abbrev pub IsPlacedPhase : Phase → Type 0
IsPlacedPhase (Naming marks at head) = IsPlaced at
IsPlacedPhase (After level) = IsPlaced level
IsPlacedPhase _ = Unit {0}

pub record IsPlacedReader (reader : Reader) : Type 0 where
  pub here : IsPlaced reader.here
  pub phase : IsPlacedPhase reader.phase

-- a value is put at the end of a list, or it is none
abbrev pub IsListed : Level → List (List ℕ) → List ℕ → List (List ℕ) → Result (Unit {0}) Stop → Type 0
IsListed level old bytes new (Ok done) = (word : List ℕ) × IsCanonicalOf (value_kind_of level) bytes word × (new ≡ old ++ word ∷ [])
IsListed level old bytes new (Err (Refused reason)) = (reason ≡ BadValue) × (new ≡ old) × ¬ (IsSpelling (value_kind_of level) bytes)
IsListed level old bytes new (Err NoMemory) = Unit {0}

-- the same of a word
pub record IsWordTaken (old : Reader) (token : Lexed) (new : Reader) : Type 0 where
  pub turn : Turn
  pub takes : TakesWord old.phase old.here token turn
  pub made : IsTurned old turn new

pub record IsWordRefused (old : Reader) (token : Lexed) (reason : Why) (new : Reader) : Type 0 where
  pub why : reason ≡ why_no_word old.phase old.here token
  pub never : (turn : Turn) → TakesWord old.phase old.here token turn → ⊥
  pub same : IsSame old new

abbrev pub HasTakenWord : Reader → Lexed → Reader → Result (Unit {0}) Stop → Type 0
HasTakenWord old token new (Ok done) = IsWordTaken old token new
HasTakenWord old token new (Err (Refused reason)) = IsWordRefused old token reason new
HasTakenWord old token new (Err NoMemory) = Unit {0}

-- a reader in the text of a level
abbrev pub HasEntered : Reader → Level → Reader → Type 0
HasEntered old level new =
    run_in new ≡ record { state = state level (old.here ∷ reverse old.outer.items) Between; items = old.items.items; tags = old.tags.items }

-- a reader in the text of the level around, where there is one
pub record Around (old new : Reader) : Type 0 where
  pub around : Level
  pub rest : List Level
  pub outer : old.outer.items ≡ rest ++ around ∷ []
  pub left : run_in new ≡ record { state = state around (reverse rest) old.phase; items = old.items.items; tags = old.tags.items }

abbrev pub HasLeft : Reader → Reader → Result (Unit {0}) Stop → Type 0
HasLeft old new (Ok done) = Around old new
HasLeft old new (Err (Refused reason)) = (reason ≡ Unexpected) × (old.outer.items ≡ []) × IsSame old new
HasLeft old new (Err NoMemory) = Unit {0}

-- a list of values is whole: it has some
abbrev pub IsListEnd : Marks → Level → List (List ℕ) → Turn → Type 0
IsListEnd marks level words turn = (0 < length words) × (turn ≡ whole marks level (joined [] words))
