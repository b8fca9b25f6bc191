-- Changes made in turn.
use Rattle.std.proofs.Common.{◌≡◌, ℕ, suc, ◌+◌, ◌<◌, Bool, List, [], ◌∷◌, ◌++◌, length, take, drop, get_or, refl, sym, ap, subst, ◌∙◌, Result, Ok, Err}
use Rattle.std.specs.Prelude.{IfOk, IfErr}
use Rattle.std.proofs.lemmas.List.{take_more, take-append-drop}
use Rattle.std.proofs.Math.Seq.{drop-cons}
use Rattle.cfg_tree.specs.Statements.{Statements}
use Rattle.edit_ops.specs.Answer.{IsChange}
use Rattle.set_text.specs.declared.op_lines.OpLine.{OpLine}
use Rattle.set_text.specs.Lines.{AsksFor}
use Rattle.load_ops.specs.declared.fault.LoadFault.{LoadFault}
use Rattle.load_ops.specs.declared.fault.LoadFault.TheVariants.{Text, Line, Edit, Protected, TooMany, NoMemory}
use Rattle.load_ops.specs.Lines.{AreMade, IsFirstUnmade, IsLineLoad, IsLineLoadFault}
use Rattle.load_ops.specs.Parts.{IsOneFault, IsMakingFault}

-- one more
pub made_more : (old next new : Statements) (lines : List OpLine) (line : OpLine) (told : Bool) → AreMade old lines next → IsChange next new [] line.op told
    → AreMade old (lines ++ line ∷ []) new
made_more old next new [] line told e change = (new, told, subst (λ (m : Statements). IsChange m new [] line.op told) e change, refl)
made_more old next new (x ∷ lines) line told made change = (made.0, made.1, made.2, made_more made.0 next new lines line told made.3 change)

-- one that isn't made is the first
pub unmade : (old next : Statements) (lines before after : List OpLine) (line : OpLine) (fault : LoadFault) → lines ≡ before ++ line ∷ after
    → AreMade old before next → IsOneFault next line fault → IsMakingFault old lines fault
unmade old next lines before after line (Text f) e made h = absurd h
unmade old next lines before after line (Line f) e made h = absurd h
unmade old next lines before after line (Edit number f) e made h = record {
  before = before;
  refused = line;
  after = after;
  joined = e;
  next = next;
  made = made;
  cause = h.2;
  not_memory = h.1;
  numbered = h.0;
}
unmade old next lines before after line (Protected path) e made h = absurd h
unmade old next lines before after line TooMany e made h = absurd h
unmade old next lines before after line NoMemory e made h = tt

-- the lines around the one at a place
pub around : (lines : List OpLine) (i : ℕ) (d : OpLine) → i < length lines → lines ≡ take i lines ++ get_or lines i d ∷ drop (suc i) lines
around lines i d h = sym (take-append-drop i lines) ∙ ap (λ (xs : List OpLine). take i lines ++ xs) (drop-cons lines i d h)

pub made_at : (old next new : Statements) (lines : List OpLine) (i : ℕ) (line d : OpLine) → i < length lines → line ≡ get_or lines i d
    → AreMade old (take i lines) next → ((told : Bool) × IsChange next new [] line.op told) → AreMade old (take (i + 1) lines) new
made_at old next new lines i line d h e made change =
    subst (λ (xs : List OpLine). AreMade old xs new)
    (ap (λ (x : OpLine). take i lines ++ x ∷ []) e ∙ sym (take_more lines i d h))
    (made_more old next new (take i lines) line change.0 made change.1)

pub unmade_at : (old next : Statements) (lines : List OpLine) (i : ℕ) (line d : OpLine) (fault : LoadFault) → i < length lines → line ≡ get_or lines i d
    → AreMade old (take i lines) next → IsOneFault next line fault → IsMakingFault old lines fault
unmade_at old next lines i line d fault h e =
    unmade old next lines (take i lines) (drop (suc i) lines) line fault
    (around lines i d h ∙ ap (λ (x : OpLine). take i lines ++ x ∷ drop (suc i) lines) (sym e))

-- the changes that a text asks for are its lines'
module _ (old : Statements) (text : List ℕ) (lines slice : List OpLine) (asks : AsksFor text lines) (is : slice ≡ lines) where
  pub lines_made : (answer : Result Statements LoadFault) → IfOk answer (AreMade old slice) → IfOk answer (IsLineLoad old text)
  lines_made (Ok new) made = record { lines = lines; asks = asks; made = subst (λ (ls : List OpLine). AreMade old ls new) is made }
  lines_made (Err fault) made = tt

  by_fault : (fault : LoadFault) → IsMakingFault old slice fault → IsLineLoadFault old text fault
  by_fault (Text f) h = absurd h
  by_fault (Line f) h = absurd h
  by_fault (Edit number f) h =
      record { lines = lines; asks = asks; first = subst (λ (ls : List OpLine). IsFirstUnmade old ls number f) is h }
  by_fault (Protected path) h = absurd h
  by_fault TooMany h = absurd h
  by_fault NoMemory h = tt

  pub lines_unmade : (answer : Result Statements LoadFault) → IfErr answer (IsMakingFault old slice) → IfErr answer (IsLineLoadFault old text)
  lines_unmade (Ok new) h = tt
  lines_unmade (Err fault) h = by_fault fault h
