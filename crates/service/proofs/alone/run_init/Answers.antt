use Rattle.std.proofs.Common.{◌≡◌, ◌++◌, ◌∷◌, [], remove, refl, sym, subst, ap, ◌∙◌}
use Rattle.command_line.specs.declared.asked.RunMode.{RunMode}
use Rattle.command_line.specs.declared.asked.RunMode.TheVariants.{Init}
use Rattle.disk_model.specs.Pair.{pair_of}
use Rattle.modes.specs.Modes.{IsInit}
use Rattle.service.specs.Modes.{RunsIn}
use Rattle.service.specs.Run.{IsEmpty}
use Rattle.service.specs.World.{told_of}
use Rattle.service.proofs.ModeLemmas.{init_by, handed_back, init_is_not_gen, the_one, untouched_end}
use Rattle.service.proofs.alone.run_init.Goals as goal

pub returns : goal.returns
returns g c =
    let end = c.remove-end.result in
    let sink = c.init-did.new.sink in
    let new = record end { sink = sink } in
    let all = the_one c.args.ends.items end c.requires.one c.remove-end.ensures.value in
    let back = c.push_reserved.ensures.items ∙ ap (λ l. l ++ new ∷ []) (c.remove-end.ensures.items ∙ ap (λ l. remove l 0) all) in
    let given = pair_of g.D.Disk.view c.args.disk_a c.args.disk_b in
    let came = handed_back g.D.Disk.view (λ disks status why. IsInit (new ≡ end) (g.K.Sink.view end.sink) (g.K.Sink.view sink) given disks status why)
    c.init-did.result.a c.closed.result.disk_a c.init-did.result.b c.closed.result.disk_b c.init-did.result.status c.closed.result.status c.init-did.result.why c.closed.result.why
    c.closed.ensures.did.2 c.closed.ensures.did.3 c.closed.ensures.did.0 c.closed.ensures.did.1
    (init_by (sink ≡ end.sink) (new ≡ end) (untouched_end end sink) (g.K.Sink.view end.sink) (g.K.Sink.view sink) given
    (pair_of g.D.Disk.view c.init-did.result.a c.init-did.result.b) c.init-did.result.status c.init-did.result.why c.init-did.ensures) in
    record {
      old = end;
      new = new;
      one = all;
      one_now = ap (λ v. v.items) c.closed.ensures.rest.0 ∙ back;
      alone = refl;
      ticker_same = c.closed.ensures.rest.1;
      disks_same = λ gen. absurd (init_is_not_gen (sym c.requires.mode ∙ gen));
      no_turns = c.closed.ensures.rest.3;
      ran = subst (λ (m : RunMode). RunsIn (new ≡ end) m c.args.asked (g.K.Sink.view end.sink) (g.K.Sink.view sink) given
          (pair_of g.D.Disk.view c.closed.result.disk_a c.closed.result.disk_b) (told_of c.closed.result)) (sym c.requires.mode)
          (came, subst IsEmpty (sym c.closed.ensures.rest.2) c.no_history.ensures);
    }
