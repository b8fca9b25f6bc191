use Rattle.std.proofs.Common.{◌∷◌, [], ◌++◌, List, ℕ, false, length, IsTrue, refl, subst, ap, ◌∙◌, arith, rules}
use Rattle.disk_model.specs.Disk.{DiskGoesOn, MadePart}
use Rattle.commit_journal.specs.Opening.{making}
use Rattle.record_code.specs.Record.{Record, bodies, gated}
use Rattle.record_code.proofs.ReadingLemmas.{length-body}
use Rattle.commit_journal.specs.Pair.{head_a}
use Rattle.commit_journal.proofs.CreateLemmas.{made_number, made_rests, made_settled, made_spare}
use Rattle.commit_journal.proofs.PairLemmas.{the_one, sound_one, rests_only}
use Rattle.commit_journal.proofs.journal.Journal.create.Goals as goal

pub make_files-requires : goal.make_files-requires
make_files-requires g c =
    let one = the_one _ c.requires in
    let is = c.with_gate-entry.ensures.bytes ∙ ap (λ (l : List Record). gated (bodies l)) one.1 in
    let sound = sound_one _ one.0 c.with_gate-entry.ensures.sound one.1 in
    omega (arith, ap length is, length-body 0 one.0, sound)

pub invariant_of-result : goal.invariant_of-result
invariant_of-result g c =
    let one = the_one _ c.requires in
    let is = c.with_gate-entry.ensures.bytes ∙ ap (λ (l : List Record). gated (bodies l)) one.1 in
    let sound = sound_one _ one.0 c.with_gate-entry.ensures.sound one.1 in (
      (c.in-Ok.ensures.bound, λ t. (one.0 ∷ [], made_settled _ _ _ one.0 sound is (c.in-Ok.ensures.a.made refl (subst IsTrue c.make_files.ensures.a.tells t)))),
      (
        λ t. made_number _ _ _ one.0 sound is (c.in-Ok.ensures.a.made refl (subst IsTrue c.make_files.ensures.a.tells t)),
        λ t. made_spare _ _ 1 (c.in-Ok.ensures.b.made refl (subst IsTrue c.make_files.ensures.b.tells t)),
      ),
    )

pub returns-in-Ok-clause-made : goal.returns-in-Ok-clause-made
returns-in-Ok-clause-made g c =
    let view = g.D.Disk.view in
    let made = c.in-Ok.ensures in
    let bytes = c.with_gate-entry.ensures.bytes in
    let all_sound = c.with_gate-entry.ensures.sound in
    record {
      none_there = λ t u. made.free t u;
      has = λ t u r one. record {
        idle = refl;
        rests = made_rests _ _ _ r (sound_one _ r all_sound one) (bytes ∙ ap (λ (l : List Record). gated (bodies l)) one) (made.a.made refl t) _ _ (made.b.made refl u);
      };
      only = λ t u r one. rests_only false _ _ _ (r ∷ [])
          (made_rests _ _ _ r (sound_one _ r all_sound one) (bytes ∙ ap (λ (l : List Record). gated (bodies l)) one) (made.a.made refl t) _ _ (made.b.made refl u));
      made_a = λ t. subst (λ (l : List ℕ). DiskGoesOn (view c.args.a).history (making (head_a ++ l)) (view c.make_files.new.a).history) bytes (made.a.made refl t);
      made_b = λ u. made.b.made refl u;
    }

pub returns-in-Err-clause-err : goal.returns-in-Err-clause-err
returns-in-Err-clause-err g c =
    let view = g.D.Disk.view in record {
      exists = search rules;
      spared = search rules;
      unchanged = search rules;
      part_a = λ t. subst (λ (l : List ℕ). MadePart (view c.args.a).history (making (head_a ++ l)) (view c.make_files.new.a).history) c.with_gate-entry.ensures.bytes (c.make_files.ensures.a.part t);
      part_b = λ u. c.make_files.ensures.b.part u;
      b_first = λ u. c.make_files.ensures.b_first u;
      tells_a = c.make_files.ensures.a.tells;
      tells_b = c.make_files.ensures.b.tells;
      cause = search rules;
    }
