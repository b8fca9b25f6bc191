use Rattle.std.proofs.Common.{◌∙◌, sym}
use Rattle.cfg_tree.proofs.PutAnswerLemmas.{put_or_fault, one_fault}
use Rattle.cfg_tree.proofs.laws.puts_have_one_answer.Goals as goal

pub returns : goal.returns
returns c = record {
  one_map = λ m one other path value a b. a.put ∙ sym b.put;
  one_fault = one_fault;
  apart = put_or_fault;
}
