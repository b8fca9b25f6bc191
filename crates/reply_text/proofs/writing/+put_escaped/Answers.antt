use Rattle.std.proofs.Common.{ℕ, ◌-◌, List, length, get_or, take, drop, subst}
use Rattle.std.specs.List.{flat_map}
use Rattle.io_edge.specs.Wrote.{Wrote, WrotePart}
use Rattle.io_edge.proofs.WroteLemmas.{wrote_then, wrote_part_of}
use Rattle.cfg_lex.specs.Printed.{escaped}
use Rattle.reply_text.proofs.SliceLemmas.{front_back}
use Rattle.reply_text.proofs.writing.+put_escaped.Goals as goal

pub returns-in-Ok-clause-wrote : goal.returns-in-Ok-clause-wrote
returns-in-Ok-clause-wrote g t c =
    let all : List ℕ = c.args.bytes.now in
    let rest : List ℕ = take (length all - 1) (drop 1 all) in
    subst (λ xs. Wrote c.put_escaped.result (flat_map escaped xs) (g.K.Sink.view c.args.sink.now).held (g.K.Sink.view c.put_escaped.new.sink).held) (front_back all 0 c.in-len1-up.len_at_least)
    (wrote_then _ (escaped (get_or all 0 0)) (flat_map escaped rest) _ _ _ c.in-Ok.ensures.wrote c.put_escaped.ensures.wrote)

pub returns-in-Err-clause-wrote : goal.returns-in-Err-clause-wrote
returns-in-Err-clause-wrote g t c =
    let all : List ℕ = c.args.bytes.now in
    let rest : List ℕ = take (length all - 1) (drop 1 all) in
    subst (λ xs. WrotePart (flat_map escaped xs) (g.K.Sink.view c.args.sink.now).held (g.K.Sink.view c.put_escaped_byte.new.sink).held) (front_back all 0 c.in-len1-up.len_at_least)
    (wrote_part_of (escaped (get_or all 0 0)) (flat_map escaped rest) _ _ c.in-Err.ensures.wrote)
