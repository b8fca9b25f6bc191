use Rattle.std.proofs.Common.{◌≡◌, ◌++◌, List, ℕ, codes, decimal, ap, ◌∙◌, subst, append_assoc}
use Rattle.cfg_base.specs.declared.path.Step.{Step}
use Rattle.io_edge.specs.Wrote.{Wrote, WrotePart}
use Rattle.io_edge.proofs.WroteLemmas.{wrote_then, wrote_part_of}
use Rattle.config_core.specs.declared.reply.Refusal.TheVariants.{Check}
use Rattle.reply_text.specs.Texts.{message_of, printed_path}
use Rattle.reply_text.proofs.refusal.put_check.Goals as goal

-- the text before the path
abbrev front : ℕ → List ℕ
front number = codes "check C" ++ (decimal number ++ codes " failed: ")

joined : (number other : ℕ) (path : List Step) → number ≡ other → front number ++ printed_path path ≡ message_of (Check other path)
joined number other path same =
    ap (λ text. codes "check C" ++ text) (append_assoc (decimal number) (codes " failed: ") (printed_path path)) ∙ ap (λ n. message_of (Check n path)) same

pub returns-in-Ok-clause-wrote : goal.returns-in-Ok-clause-wrote
returns-in-Ok-clause-wrote g c =
    subst (λ text. Wrote c.put_path.result text (g.K.Sink.view c.args.sink.now).held (g.K.Sink.view c.put_path.new.sink).held) (joined c.from.result c.args.number c.args.path.now c.from.ensures)
    (wrote_then _ (front c.from.result) (printed_path c.args.path.now) _ _ _ c.in-Ok.ensures.wrote c.put_path.ensures.wrote)

pub returns-in-Err-clause-wrote : goal.returns-in-Err-clause-wrote
returns-in-Err-clause-wrote g c =
    subst (λ text. WrotePart text (g.K.Sink.view c.args.sink.now).held (g.K.Sink.view c.put_number_between.new.sink).held) (joined c.from.result c.args.number c.args.path.now c.from.ensures)
    (wrote_part_of (front c.from.result) (printed_path c.args.path.now) _ _ c.in-Err.ensures.wrote)
