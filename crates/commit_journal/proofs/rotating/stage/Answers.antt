use Rattle.std.proofs.Common.{ℕ, List, [], IsTrue, ◌∷◌, length, true, inl, inr, sym, ◌∙◌, ap, subst}
use Rattle.disk_model.specs.Disk.{DiskGoesOn, MadePart, Sync, Write}
use Rattle.commit_journal.proofs.CallLemmas.{goes_both, one_call, synced_called, synced_tried, two_calls, wrote_called, wrote_tried}
use Rattle.commit_journal.specs.Rotation.{IsStaged}
use Rattle.commit_journal.proofs.RotateLemmas.{stage_first, stage_second, stage_third, stage_done, wrote_long, sync_long}
use Rattle.commit_journal.proofs.rotating.stage.Goals as goal

pub returns-in-Failed-clause-any_moment : goal.returns-in-Failed-clause-any_moment
returns-in-Failed-clause-any_moment g c = λ t file shut number next image.
    stage_first file number image next _ shut _ c.args.records.now (ap length c.to_be_bytes.ensures) _ _ (c.write_at.ensures.written t)

pub write_at-requires-2 : goal.write_at-requires-2
write_at-requires-2 g c = λ t1.
    let t = subst IsTrue c.write_at.ensures.tells t1 in
    wrote_long 17 _ _ _ _ _ (c.requires t) (c.write_at.ensures.written t) c.in_default.is

pub returns-in-Failed-write_at-clause-any_moment : goal.returns-in-Failed-write_at-clause-any_moment
returns-in-Failed-write_at-clause-any_moment g c = λ t file shut number next image.
    let t1 = subst IsTrue (sym c.write_at.ensures.tells) t in
    stage_second file number image next _ shut _ c.args.records.now (ap length c.to_be_bytes.ensures) _ _ (c.write_at.ensures.written t) c.in_default.is _ _ (c.write_at-2.ensures.written t1)

pub returns-clause-long : goal.returns-clause-long
returns-clause-long g c = λ done t.
    let t1 = subst IsTrue (sym c.write_at.ensures.tells) t in
    let t2 = subst IsTrue (sym c.write_at-2.ensures.tells) t1 in
    sync_long 17 _ _ _ (wrote_long 17 _ _ _ _ _ (wrote_long 17 _ _ _ _ _ (c.requires t) (c.write_at.ensures.written t) c.in_default.is) (c.write_at-2.ensures.written t1) c.in_default-write_at.is) (c.sync-done.ensures.synced t2)

pub returns-clause-any_moment : goal.returns-clause-any_moment
returns-clause-any_moment g c = λ t file shut number next image.
    let t1 = subst IsTrue (sym c.write_at.ensures.tells) t in
    let t2 = subst IsTrue (sym c.write_at-2.ensures.tells) t1 in
    stage_third file number image next _ shut _ c.args.records.now (ap length c.to_be_bytes.ensures) _ _ (c.write_at.ensures.written t) c.in_default.is _ _ (c.write_at-2.ensures.written t1) c.in_default-write_at.is _ _ (c.sync-done.ensures.synced t2)

pub returns-clause-done : goal.returns-clause-done
returns-clause-done g c = λ done t file shut.
    let t1 = subst IsTrue (sym c.write_at.ensures.tells) t in
    let t2 = subst IsTrue (sym c.write_at-2.ensures.tells) t1 in
    subst (λ (gen : List ℕ). IsStaged file gen c.args.records.now (g.D.Disk.view c.sync-done.new.self).history) c.to_be_bytes.ensures
    (stage_done file 0 [] 0 _ shut _ c.args.records.now (ap length c.to_be_bytes.ensures) _ _ (c.write_at.ensures.written t) c.in_default.is _ _ (c.write_at-2.ensures.written t1) c.in_default-write_at.is _ _ (c.sync-done.ensures.synced t2) done)

pub returns-in-Failed-clause-file : goal.returns-in-Failed-clause-file
returns-in-Failed-clause-file g c =
    let h = (g.D.Disk.view c.args.disk.now).history in
    let h' = (g.D.Disk.view c.write_at.new.self).history in record {
      tells = c.write_at.ensures.tells;
      part = λ t. subst (λ (l : List ℕ). MadePart h (Write 8 l ∷ (Write 17 c.args.records.now ∷ (Sync true ∷ []))) h') c.to_be_bytes.ensures (inr (inl (wrote_tried _ _ _ _ _ (c.write_at.ensures.written t))));
      made = λ done. absurd (cc);
    }

pub returns-in-Failed-write_at-clause-file : goal.returns-in-Failed-write_at-clause-file
returns-in-Failed-write_at-clause-file g c =
    let h = (g.D.Disk.view c.args.disk.now).history in
    let h' = (g.D.Disk.view c.write_at-2.new.self).history in record {
      tells = c.write_at-2.ensures.tells ∙ c.write_at.ensures.tells;
      part = λ t.
          let t1 = subst IsTrue (sym c.write_at.ensures.tells) t in
          subst (λ (l : List ℕ). MadePart h (Write 8 l ∷ (Write 17 c.args.records.now ∷ (Sync true ∷ []))) h') c.to_be_bytes.ensures
          (inr (inr (_, wrote_called _ _ _ _ _ (c.write_at.ensures.written t) c.in_default.is, inr (inl (wrote_tried _ _ _ _ _ (c.write_at-2.ensures.written t1))))));
      made = λ done. absurd (cc);
    }

pub returns-clause-file : goal.returns-clause-file
returns-clause-file g c =
    let h = (g.D.Disk.view c.args.disk.now).history in
    let h' = (g.D.Disk.view c.sync-done.new.self).history in record {
      tells = c.sync-done.ensures.tells ∙ c.write_at-2.ensures.tells ∙ c.write_at.ensures.tells;
      part = λ t.
          let t1 = subst IsTrue (sym c.write_at.ensures.tells) t in
          let t2 = subst IsTrue (sym c.write_at-2.ensures.tells) t1 in
          subst (λ (l : List ℕ). MadePart h (Write 8 l ∷ (Write 17 c.args.records.now ∷ (Sync true ∷ []))) h') c.to_be_bytes.ensures
          (inr (inr (
            _,
            wrote_called _ _ _ _ _ (c.write_at.ensures.written t) c.in_default.is,
            inr (inr (_, wrote_called _ _ _ _ _ (c.write_at-2.ensures.written t1) c.in_default-write_at.is, inr (inl (synced_tried _ _ _ (c.sync-done.ensures.synced t2))))),
          )));
      made = λ done t.
          let t1 = subst IsTrue (sym c.write_at.ensures.tells) t in
          let t2 = subst IsTrue (sym c.write_at-2.ensures.tells) t1 in
          subst (λ (l : List ℕ). DiskGoesOn h (Write 8 l ∷ (Write 17 c.args.records.now ∷ (Sync true ∷ []))) h') c.to_be_bytes.ensures
          (goes_both _ _ _ (Write 8 _ ∷ []) (Write 17 c.args.records.now ∷ (Sync true ∷ []))
          (one_call _ _ _ (wrote_called _ _ _ _ _ (c.write_at.ensures.written t) c.in_default.is))
          (two_calls _ _ _ _ _ (wrote_called _ _ _ _ _ (c.write_at-2.ensures.written t1) c.in_default-write_at.is) (synced_called _ _ _ (c.sync-done.ensures.synced t2) done)));
    }
