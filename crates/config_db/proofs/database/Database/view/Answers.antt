use Rattle.std.proofs.Common.{ap, ◌∙◌}
use Rattle.config_db.proofs.ShownLemmas.{last_is_one}
use Rattle.config_db.proofs.database.Database.view.Goals as goal

pub returns : goal.returns
returns g c =
    last_is_one c.self.inside.shown.list _ c.self.inside.core.kept c.view.ensures.last c.self.invariant.0.shows.last ∙ ap (λ v. v.state.kept) c.self.view_is
