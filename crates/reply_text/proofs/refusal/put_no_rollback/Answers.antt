use Rattle.std.proofs.Common.{◌≡◌, ◌++◌, List, ℕ, codes, decimal, ap, subst, append_assoc}
use Rattle.io_edge.specs.Wrote.{Wrote, WrotePart}
use Rattle.io_edge.proofs.WroteLemmas.{wrote_then, wrote_part_of}
use Rattle.config_core.specs.declared.reply.Refusal.TheVariants.{NoRollback}
use Rattle.reply_text.specs.Texts.{message_of}
use Rattle.reply_text.proofs.refusal.put_no_rollback.Goals as goal

-- the text in two parts
abbrev front : ℕ → List ℕ
front n = codes "no rollback " ++ (decimal n ++ codes ", ")

abbrev back : ℕ → List ℕ
back kept = decimal kept ++ codes " kept"

joined : (n kept : ℕ) → front n ++ back kept ≡ message_of (NoRollback n kept)
joined n kept = ap (λ text. codes "no rollback " ++ text) (append_assoc (decimal n) (codes ", ") (back kept))

pub returns-in-Ok-clause-wrote : goal.returns-in-Ok-clause-wrote
returns-in-Ok-clause-wrote g c =
    subst (λ text. Wrote c.put_number_before.result text (g.K.Sink.view c.args.sink.now).held (g.K.Sink.view c.put_number_before.new.sink).held) (joined c.args.n c.args.kept)
    (wrote_then _ (front c.args.n) (back c.args.kept) _ _ _ c.in-Ok.ensures.wrote c.put_number_before.ensures.wrote)

pub returns-in-Err-clause-wrote : goal.returns-in-Err-clause-wrote
returns-in-Err-clause-wrote g c =
    subst (λ text. WrotePart text (g.K.Sink.view c.args.sink.now).held (g.K.Sink.view c.put_number_between.new.sink).held) (joined c.args.n c.args.kept)
    (wrote_part_of (front c.args.n) (back c.args.kept) _ _ c.in-Err.ensures.wrote)
