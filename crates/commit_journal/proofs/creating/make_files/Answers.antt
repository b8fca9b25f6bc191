use Rattle.std.proofs.Common.{◌≡◌, ◌++◌, ap, refl, ◌∙◌}
use Rattle.commit_journal.specs.Opening.{making, making_b}
use Rattle.commit_journal.specs.Pair.{head_a}
use Rattle.commit_journal.proofs.FileLemmas.{read_written}
use Rattle.commit_journal.proofs.creating.make_files.Goals as goal

pub returns-in-Done-clause-a : goal.returns-in-Done-clause-a
returns-in-Done-clause-a g c =
    let calls : making c.deref.result.now ≡ making (head_a ++ c.args.entry.now) = ap making (c.deref.ensures.value ∙ c.in-Ok.ensures) in
    read_written _ _ _ _ _ _ _ calls (λ ok. c.in-Done.is) c.find_journal.ensures.a c.write_files.ensures.a

pub returns-in-Done-clause-b : goal.returns-in-Done-clause-b
returns-in-Done-clause-b g c = read_written _ _ _ making_b making_b _ _ refl (λ ok. c.in-Done.is) c.find_journal.ensures.b c.write_files.ensures.b

pub returns-clause-a : goal.returns-clause-a
returns-clause-a g c =
    let calls : making c.deref.result.now ≡ making (head_a ++ c.args.entry.now) = ap making (c.deref.ensures.value ∙ c.in-Ok.ensures) in
    read_written _ _ _ _ _ _ _ calls (λ ok. absurd (cc)) c.find_journal.ensures.a c.write_files.ensures.a

pub returns-clause-b : goal.returns-clause-b
returns-clause-b g c = read_written _ _ _ making_b making_b _ _ refl (λ ok. absurd (cc)) c.find_journal.ensures.b c.write_files.ensures.b
