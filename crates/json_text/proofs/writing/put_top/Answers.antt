use Rattle.std.proofs.Common.{[], sym, ◌∙◌}
use Rattle.cfg_base.specs.declared.path.TheConstants.{MAX_STEPS}
use Rattle.serde_json.specs.View.{members_view}
use Rattle.json_text.proofs.WritingLemmas.{put_nothing, no_statements}
use Rattle.json_text.proofs.writing.put_top.Goals as goal

pub returns-then-count-eq0-clause-put : goal.returns-then-count-eq0-clause-put
returns-then-count-eq0-clause-put c =
    put_nothing (members_view c.args.members.now.entries) _ (no_statements MAX_STEPS c.args.tree.now [] (sym c.count.ensures.count ∙ c.if-count-eq0.true))
