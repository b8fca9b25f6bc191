use Rattle.std.proofs.Common.{map}
use Rattle.cfg_lex.specs.Lexed.{lexed_in}
use Rattle.curly_grammar.specs.Held.{run_in}
use Rattle.curly_grammar.proofs.ParseLemmas.{all_read, none_parse, read_said, some_parse, whole_parse}
use Rattle.curly_grammar.proofs.reading.outcome.Goals as goal

pub made-requires : goal.made-requires
made-requires c =
    read_said (map (lexed_in c.args.text.now) c.args.tokens.now) (run_in c.args.reader)
    (all_read (map (lexed_in c.args.text.now) c.args.tokens.now) c.args.end (run_in c.args.reader) c.in-None.is c.requires.read)

pub returns-then-is_final : goal.returns-then-is_final
returns-then-is_final c =
    whole_parse c.args.text.now c.args.tokens.now c.requires.tokens (run_in c.args.reader) c.made.result
    (all_read (map (lexed_in c.args.text.now) c.args.tokens.now) c.args.end (run_in c.args.reader) c.in-None.is c.requires.read)
    (c.is_final.ensures.0 c.if-is_final.true) c.made.ensures

pub returns-in-Some : goal.returns-in-Some
returns-in-Some c =
    some_parse c.args.text.now c.args.tokens.now c.requires.tokens c.args.end c.in-Some.end (run_in c.args.reader) c.byte_of-byte.result c.refusal.result
    c.in-Some.is c.requires.read c.byte_of-byte.ensures c.refusal.ensures

pub returns-else-is_final : goal.returns-else-is_final
returns-else-is_final c =
    none_parse c.args.text.now c.args.tokens.now c.requires.tokens (run_in c.args.reader) c.refusal-in-None.result
    (all_read (map (lexed_in c.args.text.now) c.args.tokens.now) c.args.end (run_in c.args.reader) c.in-None.is c.requires.read)
    (λ final. let yes_final = c.is_final.ensures.1 final in let not_final = c.if-is_final.false in cc) c.refusal-in-None.ensures
