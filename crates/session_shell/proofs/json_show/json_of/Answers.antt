use Rattle.std.proofs.Common.{[], sym, subst}
use Rattle.curly_grammar.specs.Grammar.{Reads}
use Rattle.session_shell.proofs.JsonLemmas.{json_is}
use Rattle.session_shell.proofs.json_show.json_of.Goals as goal

pub returns-in-Ok : goal.returns-in-Ok
returns-in-Ok c =
    let shown = c.requires in
    let marked = c.in-Ok.marked in
    let back : Reads c.args.curly.now shown.statements [] =
    subst (λ text. Reads text shown.statements []) (sym shown.is) (c.printed_text_is_read_back.ensures shown.statements shown.tree) in
    json_is c.args.curly.now c.write.result shown.statements marked.tree shown.tree shown.is
    (c.texts_say_one_thing.ensures.one_reading c.args.curly.now marked.tree shown.statements marked.replaced [] c.in-Ok.ensures.read back).0
    c.write.ensures.text
