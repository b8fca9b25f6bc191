use Rattle.std.proofs.Common.{◌∙◌, ap, List, ℕ, refl}
use Rattle.std.specs.Borrow.{Bor}
use Rattle.clap.specs.Words.{found_of}
use Rattle.command_line.proofs.GivenLemmas.{text_is}
use Rattle.command_line.proofs.given.text.Goals as goal

pub returns : goal.returns
returns c =
    ap (λ (s : Bor (List ℕ)). s.now) c.unwrap_or.ensures
    ∙ text_is (found_of c.args.matches.now) c.args.id.now c.get_str.result _ c.get_str.ensures refl
