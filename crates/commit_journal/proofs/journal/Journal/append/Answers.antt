use Rattle.std.proofs.Common.{◌≡◌, inl, ◌+◌, ◌++◌, ◌∷◌, [], List, length, IsTrue, ℕ, refl, sym, subst, ap, ◌∙◌, arith}
use Rattle.record_code.specs.Record.{bodies}
use Rattle.commit_journal.specs.declared.flight.Flight.{Flight}
use Rattle.commit_journal.specs.declared.flight.Flight.TheVariants.{Nothing, Record as InFlight}
use Rattle.commit_journal.specs.Journal.{JournalView, IsBeside, IsWhole, PairCause, counted, disk_a, disk_b}
use Rattle.commit_journal.specs.Steps.{IsAppended, IsAppendFaulted, IsAppendSafe, Counts, Stays, appending}
use Rattle.disk_model.specs.Disk.{DiskGoesOn, MadePart}
use Rattle.commit_journal.proofs.CallLemmas.{counts_calls, no_calls}
use Rattle.commit_journal.proofs.JournalLemmas.{append_number}
use Rattle.commit_journal.proofs.PairLemmas.{append_leaves, append_waits, append_rests, rests_only, append_images, the_one, sound_one, behind_is}
use Rattle.commit_journal.proofs.StepLemmas.{moved, moved_cause, moved_counts, moved_stays}
use Rattle.commit_journal.proofs.journal.Journal.append.Goals as goal

pub invariant_of-self : goal.invariant_of-self
invariant_of-self g c =
    let view = g.D.Disk.view in
    let j = c.self.inside in
    let idle : j.flight ≡ Nothing = ap (λ (v : JournalView). v.flight) c.self.view_is ∙ c.requires.idle in
    let old = subst (λ (f : Flight). IsWhole (view j.counting) j.gate f) idle c.self.invariant.0 in
    let one = the_one _ c.requires.one in
    let is = c.as_bytes-entry.ensures.bytes ∙ ap bodies one.1 in
    let sound = sound_one _ one.0 c.as_bytes-entry.ensures.sound one.1 in (
      subst (λ (f : Flight). IsWhole (view c.append_to-tried.new.disk) (j.gate + length c.as_bytes-entry.result.now) f) (sym idle) (
        c.append_to-tried.ensures.bound c.in-Done.is,
        λ t. let t0 = subst IsTrue c.append_to-tried.ensures.file.tells t in
            let stands = old.1 t0 in
            (stands.0 ++ one.0 ∷ [], c.append_to-tried.ensures.done c.in-Done.is t0 stands.0 one.0 stands.1 sound is),
      ),
      (
        λ t. let t0 = subst IsTrue c.append_to-tried.ensures.file.tells t in
            let stands = old.1 t0 in
            append_number _ _ stands.0 one.0 j.gate _ (c.append_to-tried.ensures.any_moment t0 stands.0 one.0 stands.1 sound is) (c.self.invariant.1.0 t0),
        c.self.invariant.1.1,
      ),
    )

pub invariant_of-self-in-Failed : goal.invariant_of-self-in-Failed
invariant_of-self-in-Failed g c =
    let view = g.D.Disk.view in
    let j = c.self.inside in
    let idle : j.flight ≡ Nothing = ap (λ (v : JournalView). v.flight) c.self.view_is ∙ c.requires.idle in
    let old = subst (λ (f : Flight). IsWhole (view j.counting) j.gate f) idle c.self.invariant.0 in
    let one = the_one _ c.requires.one in
    let is = c.as_bytes-entry.ensures.bytes ∙ ap bodies one.1 in
    let sound = sound_one _ one.0 c.as_bytes-entry.ensures.sound one.1 in (
      (
        old.0,
        omega (arith, c.min.ensures),
        λ t. let t0 = subst IsTrue c.append_to-tried.ensures.file.tells t in
            let stands = old.1 t0 in (
              stands.0,
              one.0,
              c.min.ensures ∙ behind_is j.gate c.as_bytes-entry.result.now one.0 is,
              append_images _ _ stands.0 one.0 j.gate (c.append_to-tried.ensures.any_moment t0 stands.0 one.0 stands.1 sound is),
            ),
      ),
      (
        λ t. let t0 = subst IsTrue c.append_to-tried.ensures.file.tells t in
            let stands = old.1 t0 in
            append_number _ _ stands.0 one.0 j.gate _ (c.append_to-tried.ensures.any_moment t0 stands.0 one.0 stands.1 sound is) (c.self.invariant.1.0 t0),
        subst (λ (f : Flight). IsBeside (view j.other) j.generation f) idle c.self.invariant.1.1,
      ),
    )

pub returns-in-Done : goal.returns-in-Done
returns-in-Done g c =
    let view = g.D.Disk.view in
    let j = c.self.inside in
    let old : JournalView = record { counting = view j.counting; other = view j.other; b_counts = j.b_counts; gate = j.gate; flight = j.flight; limit = j.limit; counting_calls = j.counting_calls; other_calls = j.other_calls } in
    let h = (view j.counting).history in
    let h' = (view c.append_to-tried.new.disk).history in
    let o = (view j.other).history in
    let c1 = view c.append_to-tried.new.disk in
    let n = c.saturating_add-self-inside.result in
    let tried = c.append_to-tried.ensures in
    let more = c.saturating_add-self-inside.ensures in
    let bytes = c.as_bytes-entry.ensures.bytes in
    let all_sound = c.as_bytes-entry.ensures.sound in
    let new : JournalView = moved old c1 (view j.other) (j.gate + length c.as_bytes-entry.result.now) j.flight n j.other_calls in
    record {
      ok = subst (λ (v : JournalView). IsAppended v c.args.body.now new) c.self.view_is (record {
        has = λ rs r tell has one.
            let is = bytes ∙ ap bodies one in
            let sound = sound_one _ r all_sound one in
            let leaves = tried.any_moment tell.0 rs r has.rests.settled sound is in
            record {
              idle = has.idle;
              rests = append_rests j.b_counts h h' o rs r j.gate _ has.rests leaves (tried.done c.in-Done.is tell.0 rs r has.rests.settled sound is);
            };
        only = λ rs r tell has one.
            let is = bytes ∙ ap bodies one in
            let sound = sound_one _ r all_sound one in
            let leaves = tried.any_moment tell.0 rs r has.rests.settled sound is in
            rests_only j.b_counts h' o _ (rs ++ r ∷ [])
            (append_rests j.b_counts h h' o rs r j.gate _ has.rests leaves (tried.done c.in-Done.is tell.0 rs r has.rests.settled sound is));
        idle = ap (λ (v : JournalView). v.flight) c.self.view_is ∙ c.requires.idle;
        gate_is = ap (λ (l : List ℕ). j.gate + length l) bytes;
        made = λ t. subst (λ (l : List ℕ). DiskGoesOn h (appending j.gate l) h') bytes (tried.file.made c.in-Done.is t);
        four = more ∙ ap (counted j.counting_calls) (tried.four c.in-Done.is);
      });
      err = tt;
      safe = subst (λ (v : JournalView). IsAppendSafe v c.args.body.now new) c.self.view_is (record {
        crash = λ rs r tell has one.
            append_leaves j.b_counts h h' o rs r j.gate has.rests (tried.any_moment tell.0 rs r has.rests.settled (sound_one _ r all_sound one) (bytes ∙ ap bodies one));
        choice = refl;
        other_is = refl;
        other_calls_are = refl;
      });
      counts = subst (λ (v : JournalView). Counts v new) c.self.view_is (moved_counts old c1 (view j.other) (j.gate + length c.as_bytes-entry.result.now) j.flight n j.other_calls
          (λ t. counts_calls _ _ j.counting_calls c.append_to-tried.result.calls _ (tried.calls t) more) (λ t. no_calls o j.other_calls (omega (arith, c.self.ranges)))
          (omega (arith, more, c.self.ranges)) (omega arith));
      stays = subst (λ (v : JournalView). Stays v new) c.self.view_is (moved_stays old c1 (view j.other) (j.gate + length c.as_bytes-entry.result.now) j.flight n j.other_calls tried.file.tells refl);
      cause = subst (λ (v : JournalView). PairCause (disk_a v).faults (disk_a new).faults (disk_b v).faults (disk_b new).faults _) c.self.view_is
          (moved_cause old c1 (view j.other) (j.gate + length c.as_bytes-entry.result.now) j.flight n j.other_calls _ (record { later_a = tried.cause.later; later_b = omega arith; rose = λ e. absurd (cc) }));
    }

pub returns-in-Failed : goal.returns-in-Failed
returns-in-Failed g c =
    let view = g.D.Disk.view in
    let j = c.self.inside in
    let old : JournalView = record { counting = view j.counting; other = view j.other; b_counts = j.b_counts; gate = j.gate; flight = j.flight; limit = j.limit; counting_calls = j.counting_calls; other_calls = j.other_calls } in
    let h = (view j.counting).history in
    let h' = (view c.append_to-tried.new.disk).history in
    let o = (view j.other).history in
    let c1 = view c.append_to-tried.new.disk in
    let n = c.saturating_add-self-inside.result in
    let tried = c.append_to-tried.ensures in
    let more = c.saturating_add-self-inside.ensures in
    let bytes = c.as_bytes-entry.ensures.bytes in
    let all_sound = c.as_bytes-entry.ensures.sound in
    let new : JournalView = moved old c1 (view j.other) j.gate (InFlight c.min.result) n j.other_calls in
    record {
      ok = tt;
      err = subst (λ (v : JournalView). IsAppendFaulted v c.args.body.now new) c.self.view_is (record {
        awaits = λ rs r tell has one.
            let is = bytes ∙ ap bodies one in
            record {
              flight = ap InFlight (c.min.ensures ∙ behind_is j.gate c.as_bytes-entry.result.now r is);
              waits = append_waits j.b_counts h h' o rs r j.gate has.rests (tried.any_moment tell.0 rs r has.rests.settled (sound_one _ r all_sound one) is);
            };
        in_flight = tt;
        gate_is = refl;
        part = λ t. subst (λ (l : List ℕ). MadePart h (appending j.gate l) h') bytes (tried.file.part t);
      });
      safe = subst (λ (v : JournalView). IsAppendSafe v c.args.body.now new) c.self.view_is (record {
        crash = λ rs r tell has one.
            append_leaves j.b_counts h h' o rs r j.gate has.rests (tried.any_moment tell.0 rs r has.rests.settled (sound_one _ r all_sound one) (bytes ∙ ap bodies one));
        choice = refl;
        other_is = refl;
        other_calls_are = refl;
      });
      counts = subst (λ (v : JournalView). Counts v new) c.self.view_is (moved_counts old c1 (view j.other) j.gate (InFlight c.min.result) n j.other_calls
          (λ t. counts_calls _ _ j.counting_calls c.append_to-tried.result.calls _ (tried.calls t) more) (λ t. no_calls o j.other_calls (omega (arith, c.self.ranges)))
          (omega (arith, more, c.self.ranges)) (omega arith));
      stays = subst (λ (v : JournalView). Stays v new) c.self.view_is (moved_stays old c1 (view j.other) j.gate (InFlight c.min.result) n j.other_calls tried.file.tells refl);
      cause = subst (λ (v : JournalView). PairCause (disk_a v).faults (disk_a new).faults (disk_b v).faults (disk_b new).faults _) c.self.view_is
          (moved_cause old c1 (view j.other) j.gate (InFlight c.min.result) n j.other_calls _ (record { later_a = tried.cause.later; later_b = omega arith; rose = λ e. inl (tried.cause.rose c.in-Failed.is) }));
    }
