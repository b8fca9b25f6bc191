use Rattle.std.proofs.Common.{◌≡◌, Err, sym, ap, subst, ◌∙◌, drop}
use Rattle.shell_words.specs.declared.reader.ReadFault.{ReadFault}
use Rattle.shell_words.specs.declared.reader.ReadFault.TheVariants.{Syntax}
use Rattle.shell_words.specs.Form.{forms_of}
use Rattle.shell_words.specs.Walk.{furthest}
use Rattle.shell_words.specs.Reading.{place_of, first_place, capped, Answers, Gives}
use Rattle.shell_words.proofs.ReadingLemmas.{misfit}
use Rattle.shell_words.proofs.reader.read_items.Goals as goal

pub returns-in-Some : goal.returns-in-Some
returns-in-Some c =
    let is : c.misfit.result ≡ Syntax (capped (first_place (drop (furthest (forms_of c.args.configuring) c.args.items.now) c.args.items.now) (place_of c.in-Some.fault))) =
    c.misfit.ensures ∙ ap (λ end. Syntax (capped (first_place (drop (furthest (forms_of c.args.configuring) c.args.items.now) c.args.items.now) end))) c.place_of.ensures in
    subst (λ (fault : ReadFault). Gives (Answers c.args.configuring c.args.items.now c.args.fault c.args.end) (Err fault)) (sym is)
    (subst (λ fault. Answers c.args.configuring c.args.items.now fault c.args.end (Err (capped (first_place (drop (furthest (forms_of c.args.configuring) c.args.items.now) c.args.items.now) (place_of c.in-Some.fault))))) (sym c.in-Some.is)
    (misfit c.args.configuring c.args.items.now (place_of c.in-Some.fault)))
