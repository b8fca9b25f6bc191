use Rattle.std.proofs.Common.{◌≡◌, [], length, ap, sym, ◌∙◌, arith, Result, Ok, Err}
use Rattle.std.specs.Prelude.{IfOk}
use Rattle.disk_model.proofs.MarkLemmas.{none_marked, not_empty}
use Rattle.disk_model.proofs.replay.chosen_image.Goals as goal

if_ok_map : {A E : Type 0} (r : Result A E) (P Q : A → Type 0) → ((x : A) → P x → Q x) → IfOk r P → IfOk r Q
if_ok_map (Ok x) P Q to has = to x has
if_ok_map (Err e) P Q to has = has

pub returns : goal.returns
returns c = if_ok_map c.torn_image.result _ _ (λ image torn s knows. record {
  calm = λ free.
      let none : c.args.replay.marks.items ≡ [] = none_marked c.args.replay.marks.items (λ k. sym (knows.pending k) ∙ free k) in
      let size = ap length none in
      absurd (not_empty _ _ c.is_empty.ensures c.if-is_empty.false (omega (arith, size)));
  torn_is = λ k is. torn s knows;
}) c.torn_image.ensures
