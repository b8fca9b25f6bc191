use Rattle.std.proofs.Common.{◌≡◌, ◌∙◌, ap, length, refl, sym}
use Rattle.commit_ledger.specs.Checkpoint.{far_target, first_number}
use Rattle.commit_ledger.specs.Kept.{Kept}
use Rattle.commit_ledger.proofs.ImageLemmas.{keep_is}
use Rattle.commit_ledger.proofs.ledger.Ledger.keep.Goals as goal
use Rattle.commit_ledger.proofs.ledger.Ledger.keep.Goals.{in-Some, in-None}

pub returns : goal.returns
returns c =
    let far : c.match-far_target.far ≡ length (far_target (first_number c.args.self.now) c.args.self.now.pending) =
    elim c.match-far_target.branch [ in-Some w ↦ w.far-is ∙ sym (ap length w.in-Some.ensures.some) | in-None w ↦ w.far-is ∙ sym (ap length (w.in-None.ensures.none refl)) ] in
    let older : c.len.result ≡ length c.args.self.now.older = c.len.ensures ∙ c.self.inside.older.ok.0 ∙ ap (λ (k : Kept). length k.older) c.self.view_is in
    keep_is c.args.self.now c.stated_count.result c.target_number.result c.match-far_target.far c.len.result c.stated_count.ensures c.target_number.ensures far older
