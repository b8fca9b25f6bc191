use Rattle.std.proofs.Common.{[], ◌∷◌, IsTrue, true, subst, arith}
use Rattle.disk_model.specs.Disk.{Write, Sync}
use Rattle.commit_journal.proofs.FileLemmas.{written_first, written_long, written_on}
use Rattle.commit_journal.proofs.creating.write_files.Goals as goal

pub returns-in-Failed-write_and_sync-clause-a : goal.returns-in-Failed-write_and_sync-clause-a
returns-in-Failed-write_and_sync-clause-a g c =
    written_first _ _ (Write 0 c.args.image.now ∷ (Sync true ∷ [])) (Write 16 (1 ∷ []) ∷ (Sync true ∷ [])) _ _ (λ is. absurd (cc)) c.write_and_sync-2.ensures.file

pub returns-clause-a : goal.returns-clause-a
returns-clause-a g c =
    written_on _ _ _ (Write 0 c.args.image.now ∷ (Sync true ∷ [])) (Write 16 (1 ∷ []) ∷ (Sync true ∷ [])) _ _ _ c.in_default-write_and_sync.is (λ is. is)
    c.write_and_sync-2.ensures.file c.write_and_sync-3.ensures.file

pub write_and_sync-requires-3 : goal.write_and_sync-requires-3
write_and_sync-requires-3 g c = λ t.
    let there = c.write_and_sync-2.ensures.file.made c.in_default-write_and_sync.is (subst IsTrue c.write_and_sync-2.ensures.file.tells t) in
    omega (arith, c.requires, written_long _ _ c.args.image.now there)
