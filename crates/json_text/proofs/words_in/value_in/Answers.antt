use Rattle.std.proofs.Common.{rules, ◌≡◌, ◌∙◌, codes, option_map}
use Rattle.serde_json.specs.View.{view}
use Rattle.json_text.specs.Collecting.{has_mark}
use Rattle.json_text.proofs.CollectingLemmas.{marks_are}
use Rattle.json_text.proofs.words_in.value_in.Goals as goal

pub returns : goal.returns
returns c = λ i p h.
    let are = marks_are (option_map (λ v. view v.now) c.args.marks) i p h
    in let first : c.has_mark.result ≡ has_mark (codes "inactive") (option_map (λ v. view v.now) c.args.marks) = search rules
    in let second : c.has_mark-2.result ≡ has_mark (codes "protect") (option_map (λ v. view v.now) c.args.marks) = search rules
    in let none = c.new.ensures
    in λ k. record { inactive = (first ∙ are.0) k; protected = (second ∙ are.1) k; order = none k; words = c.args.words }
