use Rattle.std.proofs.Common.{Bool, sym, subst}
use Rattle.std.specs.Bool.{Decides}
use Rattle.serde_json.specs.View.{items_view}
use Rattle.json_text.proofs.MarksInLemmas.{ListOfMarks, one_value, two_values, no_value, many_values}
use Rattle.json_text.proofs.marks.are_marks.Goals as goal

pub returns-in-len1 : goal.returns-in-len1
returns-in-len1 c = one_value c.args.items.now c.one-item.result c.is_mark.result c.in-len1.len_at_least c.in-len1.len_below c.one-item.is c.is_mark.ensures

pub returns-in-len2 : goal.returns-in-len2
returns-in-len2 c =
    subst (λ (b : Bool). Decides b (ListOfMarks (items_view c.args.items.now))) (sym c.is_either_way.ensures)
    (two_values c.args.items.now c.one-item-then-items-lt3.result c.other-item.result _ _ _ _ c.in-len2.len_at_least c.in-len2.len_below
    c.one-item-then-items-lt3.is c.other-item.is c.is_inactive.ensures c.is_protect.ensures c.is_inactive-in-len2.ensures c.is_protect-in-len2.ensures)

pub returns-in_default : goal.returns-in_default
returns-in_default c = no_value c.args.items.now c.in_default.len_below

pub returns-in_default-2 : goal.returns-in_default-2
returns-in_default-2 c = many_values c.args.items.now c.in_default.len_at_least
