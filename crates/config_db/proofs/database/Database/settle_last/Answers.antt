use Rattle.std.proofs.Common.{◌≡◌, None, sym, ap, subst, ⊎_elim, ◌∙◌}
use Rattle.std.specs.Prelude.{IsSome}
use Rattle.config_core.specs.declared.event.Event.TheVariants.{Revert, Carry}
use Rattle.config_core.specs.declared.event.Outcome.TheVariants.{Done}
use Rattle.config_db.specs.Moves.{Settles}
use Rattle.config_db.proofs.MachineLemmas.{carry_needed, none_before, none_waits, nothing_needed, revert_needed, settle_needed}
use Rattle.config_db.proofs.ClosingLemmas.{last_none, last_settled, last_unsettled}
use Rattle.config_db.proofs.database.Database.settle_last.Goals as goal

pub returns-in-Done : goal.returns-in-Done
returns-in-Done g c =
    let is_moment : c.greatest-moment.result ≡ c.args.self.now.state.greatest = c.greatest-moment.ensures ∙ ap (λ v. v.state.greatest) c.self.view_is in
    last_settled c.args.self.now c.settle.new.self
    (subst (λ m. Settles 0 m Done c.args.self.now c.settle.new.self) is_moment c.in-Done.ensures)

pub returns-in-Fault : goal.returns-in-Fault
returns-in-Fault g c =
    last_unsettled c.args.self.now c.settle.new.self
    (subst (λ v. IsSome v.state.flight) c.self.view_is (settle_needed c.self.inside.core c.greatest-moment.result (sym c.in-Settle.is ∙ c.next.ensures))) c.in-Fault.ensures

pub returns-in-Revert : goal.returns-in-Revert
returns-in-Revert g c =
    last_none c.args.self.now
    (subst (λ v. v.state.flight ≡ None) c.self.view_is (⊎_elim
    (λ is. none_before c.self.inside.core c.greatest-moment.result Revert (revert_needed c.self.inside.core c.greatest-moment.result (sym is ∙ c.next.ensures)))
    (⊎_elim (λ is. none_before c.self.inside.core c.greatest-moment.result Carry (carry_needed c.self.inside.core c.greatest-moment.result (sym is ∙ c.next.ensures)))
    (λ is. none_waits c.self.inside.core c.greatest-moment.result (nothing_needed c.self.inside.core c.greatest-moment.result (sym is ∙ c.next.ensures)))) c.in-Revert.is))
