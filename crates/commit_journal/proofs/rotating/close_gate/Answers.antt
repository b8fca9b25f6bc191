use Rattle.std.proofs.Common.{◌∷◌, true, List, [], IsTrue, refl, sym, ◌∙◌, subst}
use Rattle.disk_model.specs.Disk.{Call, DiskGoesOn, History, MadePart, Sync, Write, contents_of}
use Rattle.commit_journal.specs.Rotation.{closing}
use Rattle.commit_journal.proofs.CallLemmas.{part_none}
use Rattle.commit_journal.proofs.RotateLemmas.{none_made, opened_calls, shut_calls, turning_stays}
use Rattle.commit_journal.proofs.rotating.close_gate.Goals as goal

pub returns-in-Some-false-clause-any_moment : goal.returns-in-Some-false-clause-any_moment
returns-in-Some-false-clause-any_moment g c = λ t quiet number next image. turning_stays _ number image next _ _ c.read_gate.ensures.history quiet refl (c.requires t)

pub returns-in-None-clause-any_moment : goal.returns-in-None-clause-any_moment
returns-in-None-clause-any_moment g c = λ t quiet number next image. turning_stays _ number image next _ _ c.read_gate.ensures.history quiet refl (c.requires t)

pub returns-in-Some-true-clause-file : goal.returns-in-Some-true-clause-file
returns-in-Some-true-clause-file g c =
    let view = g.D.Disk.view in
    let h = (view c.args.disk.now).history in
    let h' = (view c.shut_gate.new.disk).history in
    let two : List Call = Write 16 (0 ∷ []) ∷ (Sync true ∷ []) in
    let shut = c.shut_gate.ensures.file in
    let tells = c.read_gate.ensures.tells in
    let calls = λ (t : IsTrue (view c.args.disk.now).tells). opened_calls (contents_of h) (sym (c.in-Some-true.ensures.gate t) ∙ c.in-Some-true.field-0-test) in
    record {
      tells = shut.tells ∙ tells;
      part = λ t. subst (λ (l : List Call). MadePart h l h') (sym (calls t))
          (subst (λ (m : History). MadePart m two h') c.read_gate.ensures.history (shut.part (subst IsTrue (sym tells) t)));
      made = λ done t. subst (λ (l : List Call). DiskGoesOn h l h') (sym (calls t))
          (subst (λ (m : History). DiskGoesOn m two h') c.read_gate.ensures.history (shut.made done (subst IsTrue (sym tells) t)));
    }

pub returns-in-Some-false-clause-file : goal.returns-in-Some-false-clause-file
returns-in-Some-false-clause-file g c =
    let view = g.D.Disk.view in
    let h = (view c.args.disk.now).history in
    let h' = (view c.read_gate.new.disk).history in
    record {
      tells = c.read_gate.ensures.tells;
      part = λ t. part_none h h' (closing (contents_of h)) c.read_gate.ensures.history;
      made = λ done t. subst (λ (l : List Call). DiskGoesOn h l h') (sym (shut_calls (contents_of h) (sym (c.in-Some-false.ensures.gate t) ∙ c.in-Some-false.field-0-test)))
          (none_made h h' c.read_gate.ensures.history);
    }

pub returns-in-None-clause-file : goal.returns-in-None-clause-file
returns-in-None-clause-file g c = record {
  tells = c.read_gate.ensures.tells;
  part = λ t. part_none _ _ _ c.read_gate.ensures.history;
  made = λ done. absurd (cc);
}
