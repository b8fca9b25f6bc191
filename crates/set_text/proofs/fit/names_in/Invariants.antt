use Rattle.std.proofs.Common.{take, true, ◌≡◌}
use Rattle.std.specs.List.{list_all}
use Rattle.set_text.specs.Form.{is_name, parts_in}
use Rattle.set_text.proofs.fit.names_in.Given as goal

abbrev pub invariant-loop-place : goal.invariant-loop-place
invariant-loop-place l = list_all (is_name l.one l.other) (parts_in l.line (take l.place l.tokens)) ≡ true
