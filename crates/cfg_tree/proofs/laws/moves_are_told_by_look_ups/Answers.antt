use Rattle.cfg_tree.proofs.RenamedLemmas.{copied_moves, renamed_moves, one_move}
use Rattle.cfg_tree.proofs.laws.moves_are_told_by_look_ups.Goals as goal

pub returns : goal.returns
returns c = record { copied = copied_moves; renamed = renamed_moves; one_map = one_move }
