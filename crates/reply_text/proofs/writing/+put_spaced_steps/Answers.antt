use Rattle.std.proofs.Common.{◌∷◌, ◌-◌, List, length, take, drop, subst}
use Rattle.std.specs.List.{flat_map}
use Rattle.io_edge.specs.Wrote.{Wrote, WrotePart}
use Rattle.io_edge.proofs.WroteLemmas.{wrote_then, wrote_part_of}
use Rattle.cfg_base.specs.declared.path.Step.{Step}
use Rattle.reply_text.specs.Texts.{printed_step}
use Rattle.reply_text.proofs.SliceLemmas.{item_back}
use Rattle.reply_text.proofs.writing.+put_spaced_steps.Goals as goal

pub returns-in-Ok-clause-wrote : goal.returns-in-Ok-clause-wrote
returns-in-Ok-clause-wrote g t c =
    let all : List Step = c.args.steps.now in
    let rest : List Step = take (length all - 1) (drop 1 all) in
    subst (λ xs. Wrote c.put_spaced_steps.result (flat_map (λ step. 32 ∷ printed_step step) xs) (g.K.Sink.view c.args.sink.now).held (g.K.Sink.view c.put_spaced_steps.new.sink).held) (item_back all c.step-item.result c.step-item.is c.in-len1-up.len_at_least)
    (wrote_then _ (32 ∷ printed_step c.step-item.result) (flat_map (λ step. 32 ∷ printed_step step) rest) _ _ _ c.in-Ok.ensures.wrote c.put_spaced_steps.ensures.wrote)

pub returns-in-Err-clause-wrote : goal.returns-in-Err-clause-wrote
returns-in-Err-clause-wrote g t c =
    let all : List Step = c.args.steps.now in
    let rest : List Step = take (length all - 1) (drop 1 all) in
    subst (λ xs. WrotePart (flat_map (λ step. 32 ∷ printed_step step) xs) (g.K.Sink.view c.args.sink.now).held (g.K.Sink.view c.put_spaced_step.new.sink).held) (item_back all c.step-item.result c.step-item.is c.in-len1-up.len_at_least)
    (wrote_part_of (32 ∷ printed_step c.step-item.result) (flat_map (λ step. 32 ∷ printed_step step) rest) _ _ c.in-Err.ensures.wrote)
