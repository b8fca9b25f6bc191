-- What the printer's parts make together.
use Rattle.std.proofs.Common.{◌≡◌, ℕ, ◌+◌, ◌<◌, ◌==◌, Bool, true, false, List, [], ◌∷◌, ◌++◌, length, refl, sym, ap, ◌∙◌, Option, Some, None, is_some, filter, if◌then◌else◌, arith, length-append}
use Rattle.std.specs.List.{flat_map}
use Rattle.std.specs.FinMap as map
use Rattle.std.specs.Ordering.{eq_by_cmp}
use Rattle.cfg_base.specs.Order.{step_cmp}
use Rattle.cfg_base.specs.declared.path.Step.{Step}
use Rattle.cfg_base.specs.declared.value.Value.{Value}
use Rattle.cfg_lex.specs.Printed.{printed_word}
use Rattle.cfg_tree.specs.Statements.{Statements}
use Rattle.cfg_tree.specs.Children.{step_if}
use Rattle.cfg_tree.specs.OwnWords.{own_words, word_if_any}
use Rattle.cfg_tree.proofs.MapLemmas.{same_step}
use Rattle.curly_print.specs.Printed.{line_of, spaces, ended, statement_text, text_below, words_line}
use Rattle.curly_print.specs.Printing.{blank_words, child_text}

-- a step whose head isn't empty begins with it
pub headed_line : (step : Step) → (length step.head == 0) ≡ false
    → words_line (own_words (step ∷ [])) ≡ printed_word step.head ++ blank_words (word_if_any step.name)
headed_line step e = headed step.head step.name e
  where
    headed : (head name : List ℕ) → (length head == 0) ≡ false
        → words_line (own_words (record { head = head; name = name } ∷ [])) ≡ printed_word head ++ blank_words (word_if_any name)
    headed [] name e = cc
    headed (h ∷ head) [] e = refl
    headed (h ∷ head) (n ∷ name) e = refl

ended_some : (indent : ℕ) (body : List ℕ) → 0 < length (ended indent body)
ended_some indent [] = omega arith
ended_some indent (byte ∷ body) = omega arith

-- what is printed of a statement that is there isn't empty
pub statement_some : (indent : ℕ) (step : Step) (value : Option Value) (body : List ℕ) → is_some value ≡ true → 0 < length (statement_text indent step value body)
statement_some indent step None body e = cc
statement_some indent step (Some value) body e =
    omega (
      arith,
      length-append (spaces indent) (line_of step value ++ ended indent body),
      length-append (line_of step value) (ended indent body),
      ended_some indent body,
    )

-- a step that is listed once is there
pub first_there : (step : Step) (steps : List Step) (there : Bool) → filter (eq_by_cmp step_cmp step) (step ∷ steps) ≡ step_if there step → there ≡ true
first_there step steps true e = refl
first_there step steps false e =
    let same = (same_step step step).1 refl
    in let kept = ap (λ (b : Bool). (if b then step ∷ filter (eq_by_cmp step_cmp step) steps else filter (eq_by_cmp step_cmp step) steps)) same
    in absurd (none (sym kept ∙ e))
  where
    none : {rest : List Step} → step ∷ rest ≡ [] → ⊥
    none f = cc

pub some_printed : (levels : ℕ) (m : Statements) (path steps : List Step) (indent : ℕ)
    → ((step : Step) → filter (eq_by_cmp step_cmp step) steps ≡ step_if (is_some (map.get m (path ++ step ∷ []))) step)
    → 0 < length steps → 0 < length (flat_map (child_text levels m path indent) steps)
some_printed levels m path [] indent once h = absurd (omega (arith, h))
some_printed levels m path (step ∷ steps) indent once h =
    let first = statement_some indent step (map.get m (path ++ step ∷ [])) (text_below levels m (path ++ step ∷ []) (indent + 4)) (first_there step steps _ (once step))
    in omega (arith, first, length-append (child_text levels m path indent step) (flat_map (child_text levels m path indent) steps))
