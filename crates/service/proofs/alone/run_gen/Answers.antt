use Rattle.std.proofs.Common.{◌≡◌, ◌++◌, ◌∷◌, [], remove, refl, sym, subst, ap, ◌∙◌}
use Rattle.cfg_values.specs.Number.{IsNumberWithin}
use Rattle.command_line.specs.declared.asked.RunMode.{RunMode}
use Rattle.command_line.specs.declared.asked.RunMode.TheVariants.{Gen}
use Rattle.disk_model.specs.Pair.{pair_of}
use Rattle.service.specs.Modes.{RunsIn}
use Rattle.service.specs.World.{told_of}
use Rattle.service.proofs.ModeLemmas.{gen_ran, the_one, untouched_end}
use Rattle.service.proofs.alone.run_gen.Goals as goal

pub returns : goal.returns
returns g c =
    let end = c.remove-end.result in
    let sink = c.tell_generated-status.new.sink in
    let new = record end { sink = sink } in
    let all = the_one c.args.ends.items end c.requires.one c.remove-end.ensures.value in
    let back = c.push_reserved.ensures.items ∙ ap (λ l. l ++ new ∷ []) (c.remove-end.ensures.items ∙ ap (λ l. remove l 0) all) in
    record {
      old = end;
      new = new;
      one = all;
      one_now = ap (λ v. v.items) c.closed.ensures.rest.0 ∙ back;
      alone = refl;
      ticker_same = c.closed.ensures.rest.1;
      disks_same = λ gen. (c.closed.ensures.did.2, c.closed.ensures.did.3, c.closed.ensures.did.1);
      no_turns = c.closed.ensures.rest.3;
      ran = subst (λ (m : RunMode). RunsIn (new ≡ end) m c.args.asked (g.K.Sink.view end.sink) (g.K.Sink.view sink)
          (pair_of g.D.Disk.view c.args.disk_a c.args.disk_b) (pair_of g.D.Disk.view c.closed.result.disk_a c.closed.result.disk_b)
          (told_of c.closed.result)) (sym c.requires.mode)
          (gen_ran (sink ≡ end.sink) (new ≡ end) (untouched_end end sink) c.args.asked.place c.count_of-count.result
          c.tell_generated-status.result.0 c.closed.result.status c.args.asked.users (g.K.Sink.view end.sink) (g.K.Sink.view sink)
          c.tell_generated-status.result.1 c.closed.result.history
          (subst (λ l. IsNumberWithin 1 3000 l c.count_of-count.result) c.as_bytes.ensures.bytes c.count_of-count.ensures)
          c.tell_generated-status.ensures c.closed.ensures.did.0 c.closed.ensures.rest.2);
    }
