-- Answers of the functions that read a step.
use Rattle.std.proofs.Common.{◌≡◌, ℕ, Bool, List, [], Result, Err, ◌⊎◌, inl, inr, sym, subst, ◌∙◌}
use Rattle.cfg_base.specs.declared.kind.Kind.{Kind}
use Rattle.cfg_base.specs.declared.kind.Shape.{Shape}
use Rattle.cfg_base.specs.declared.kind.Shape.TheVariants.{Keyed, Bare}
use Rattle.cfg_schema.specs.declared.answer.Child.{Child}
use Rattle.cfg_schema.specs.declared.answer.Child.TheVariants as begun
use Rattle.cfg_schema.specs.declared.rows.Row.{Row}
use Rattle.cfg_schema.specs.Profile.{row_of}
use Rattle.cfg_tree.specs.Tree.{step_of}
use Rattle.curly_grammar.specs.declared.effect.Effect.{Effect}
use Rattle.curly_grammar.specs.declared.fault.Why.TheVariants.{BadValue}
use Rattle.curly_grammar.specs.declared.phase.Marks.{Marks}
use Rattle.curly_grammar.specs.declared.stop.Stop.{Stop}
use Rattle.curly_grammar.specs.declared.stop.Stop.TheVariants.{Refused, NoMemory}
use Rattle.curly_grammar.specs.Grammar.{Level}
use Rattle.curly_grammar.specs.Reading.{Turn, below, IsNamed, BeginsAs, NamesAs, NamesStep}
use Rattle.curly_grammar.specs.Answer.{Answers, IsNameGiven}

-- where a word is no name, it makes no turn
pub named_refused : (in_group : Bool) (kind : Kind) (bytes : List ℕ) (marks : Marks) (level : List ℕ → Level) (stop : Stop)
    → IsNameGiven in_group kind bytes (Err stop) → Answers (IsNamed in_group kind bytes marks level) BadValue (Err stop)
named_refused in_group kind bytes marks level (Refused reason) h = (h.0, λ turn named. h.1 named.name named.is_name)
named_refused in_group kind bytes marks level NoMemory h = tt

module _ (at : Level) (marks : Marks) (row : ℕ) (name_kind : Kind) (answer : Result Effect Stop) where
  -- a bare name
  pub bare_answers : (shape : Shape) (head word : List ℕ) → shape ≡ Bare → head ≡ []
      → Answers (IsNamed at.place.in_group name_kind word marks (λ name. below at row (step_of head name))) BadValue answer
      → Answers (BeginsAs shape name_kind row at marks word) BadValue answer
  bare_answers shape head word e f h =
      subst (λ (s : Shape). Answers (BeginsAs s name_kind row at marks word) BadValue answer) (sym e)
      (subst (λ (bytes : List ℕ). Answers (IsNamed at.place.in_group name_kind word marks (λ name. below at row (step_of bytes name))) BadValue answer) f h)

  -- a name after its head
  pub keyed_answers : (shape : Shape) (own head word : List ℕ) → shape ≡ Keyed → own ≡ head
      → Answers (IsNamed at.place.in_group name_kind word marks (λ name. below at row (step_of own name))) BadValue answer
      → Answers (NamesAs shape name_kind row at marks head word) BadValue answer
  keyed_answers shape own head word e f h =
      subst (λ (s : Shape). Answers (NamesAs s name_kind row at marks head word) BadValue answer) (sym e)
      (subst (λ (bytes : List ℕ). Answers (IsNamed at.place.in_group name_kind word marks (λ name. below at row (step_of bytes name))) BadValue answer) f h)

module _ (at : Level) (marks : Marks) (head word : List ℕ) where
  -- a name after the head of a row
  pub name_answers : (child : Child) (id : ℕ) (row : Row) (answer : Result Effect Stop) → child ≡ begun.Row id → row ≡ row_of id
      → Answers (NamesAs row.shape row.name_kind row.id at marks head word) BadValue answer
      → Answers (NamesStep child at marks head word) BadValue answer
  name_answers child id row answer e f h =
      subst (λ (c : Child). Answers (NamesStep c at marks head word) BadValue answer) (sym e)
      (subst (λ (r : Row). Answers (NamesAs r.shape r.name_kind r.id at marks head word) BadValue answer) f h)

  pub names_nothing : (child told : Child) → told ≡ child → ((id : ℕ) × (told ≡ begun.BadName id)) ⊎ (told ≡ begun.Unknown) → (turn : Turn) → NamesStep child at marks head word turn → ⊥
  names_nothing child told e (inl f) turn = subst (λ (c : Child). NamesStep c at marks head word turn → ⊥) (sym f.1 ∙ e) (λ h. h)
  names_nothing child told e (inr f) turn = subst (λ (c : Child). NamesStep c at marks head word turn → ⊥) (sym f ∙ e) (λ h. h)
