use Rattle.std.proofs.Common.{[], IsTrue, ◌∷◌, ◌++◌, true, sym, subst}
use Rattle.disk_model.specs.Disk.{Sync, Write, contents_of}
use Rattle.disk_model.proofs.Images.{leaves_then}
use Rattle.std.specs.Int.{w64, to_be_bytes}
use Rattle.commit_journal.specs.Rotation.{IsReplacing, closing, staging}
use Rattle.commit_journal.proofs.FileLemmas.{written_first, written_on}
use Rattle.commit_journal.proofs.rotating.rotate_to.Goals as goal

pub returns-in-Failed-done-clause-any_moment : goal.returns-in-Failed-done-clause-any_moment
returns-in-Failed-done-clause-any_moment g c = λ t quiet number next image is.
    let file = contents_of (g.D.Disk.view c.args.disk.now).history in
    let t1 = subst IsTrue (sym c.close_gate-closed.ensures.file.tells) t in
    leaves_then _ _ _ (IsReplacing file number image next) (c.close_gate-closed.ensures.any_moment t quiet number next image)
    (c.stage-staged.ensures.any_moment t1 file (c.close_gate-closed.ensures.done c.in_default.is t quiet) number next image)

pub returns-clause-any_moment : goal.returns-clause-any_moment
returns-clause-any_moment g c = λ t quiet number next image is.
    let file = contents_of (g.D.Disk.view c.args.disk.now).history in
    let t1 = subst IsTrue (sym c.close_gate-closed.ensures.file.tells) t in
    let t2 = subst IsTrue (sym c.stage-staged.ensures.file.tells) t1 in
    let shut = c.close_gate-closed.ensures.done c.in_default.is t quiet in
    leaves_then _ _ _ (IsReplacing file number image next)
    (leaves_then _ _ _ (IsReplacing file number image next) (c.close_gate-closed.ensures.any_moment t quiet number next image) (c.stage-staged.ensures.any_moment t1 file shut number next image))
    (c.open_gate-opened.ensures.any_moment t2 file (to_be_bytes w64 c.args.generation) c.args.records.now (c.stage-staged.ensures.done c.in_default-done.is t1 file shut) number next image (is (c.stage-staged.ensures.bound c.in_default-done.is)))

pub returns-clause-done : goal.returns-clause-done
returns-clause-done g c = λ done t quiet number next image is.
    let file = contents_of (g.D.Disk.view c.args.disk.now).history in
    let t1 = subst IsTrue (sym c.close_gate-closed.ensures.file.tells) t in
    let t2 = subst IsTrue (sym c.stage-staged.ensures.file.tells) t1 in
    let shut = c.close_gate-closed.ensures.done c.in_default.is t quiet in
    c.open_gate-opened.ensures.done done t2 file (to_be_bytes w64 c.args.generation) c.args.records.now (c.stage-staged.ensures.done c.in_default-done.is t1 file shut) number next image is

pub returns-in-Failed-clause-file : goal.returns-in-Failed-clause-file
returns-in-Failed-clause-file g c =
    let file = contents_of (g.D.Disk.view c.args.disk.now).history in
    written_first _ _ (closing file ++ staging c.args.generation c.args.records.now) (Write 16 (1 ∷ []) ∷ (Sync true ∷ [])) ⊥ _ (λ is. absurd (cc))
    (written_first _ _ (closing file) (staging c.args.generation c.args.records.now) _ ⊥ (λ is. is) c.close_gate-closed.ensures.file)

pub returns-in-Failed-done-clause-file : goal.returns-in-Failed-done-clause-file
returns-in-Failed-done-clause-file g c =
    let file = contents_of (g.D.Disk.view c.args.disk.now).history in
    written_first _ _ (closing file ++ staging c.args.generation c.args.records.now) (Write 16 (1 ∷ []) ∷ (Sync true ∷ [])) ⊥ _ (λ is. absurd (cc))
    (written_on _ _ _ (closing file) (staging c.args.generation c.args.records.now) _ _ ⊥ c.in_default.is (λ is. absurd is) c.close_gate-closed.ensures.file c.stage-staged.ensures.file)

pub returns-clause-file : goal.returns-clause-file
returns-clause-file g c =
    let file = contents_of (g.D.Disk.view c.args.disk.now).history in
    written_on _ _ _ (closing file ++ staging c.args.generation c.args.records.now) (Write 16 (1 ∷ []) ∷ (Sync true ∷ [])) _ _ _ c.in_default-done.is (λ is. is)
    (written_on _ _ _ (closing file) (staging c.args.generation c.args.records.now) _ _ _ c.in_default.is (λ is. is) c.close_gate-closed.ensures.file c.stage-staged.ensures.file)
    c.open_gate-opened.ensures.file
