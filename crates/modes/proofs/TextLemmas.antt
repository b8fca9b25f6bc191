-- Texts that are put together of pieces.
use Rattle.std.proofs.Common.{◌≡◌, ◌+◌, ℕ, List, ◌++◌, sym, ap, ◌∙◌, append_assoc, add-one}
use Rattle.modes.specs.Generated.{interface_text, interfaces_text}

-- two pieces of two each
pub two_pieces : (text middle now a b c d : List ℕ) → middle ≡ text ++ (a ++ b) → now ≡ middle ++ (c ++ d) → now ≡ text ++ (a ++ (b ++ (c ++ d)))
two_pieces text middle now a b c d first second =
    second ∙ ap (λ (t : List ℕ). t ++ (c ++ d)) first ∙ append_assoc text (a ++ b) (c ++ d) ∙ ap (λ (t : List ℕ). text ++ t) (append_assoc a b (c ++ d))

-- one more interface
pub one_more : (text old now : List ℕ) (number : ℕ) → old ≡ text ++ interfaces_text number → now ≡ old ++ interface_text number → now ≡ text ++ interfaces_text (number + 1)
one_more text old now number so_far more =
    more ∙ ap (λ (t : List ℕ). t ++ interface_text number) so_far ∙ append_assoc text (interfaces_text number) (interface_text number)
    ∙ ap (λ (n : ℕ). text ++ interfaces_text n) (sym (add-one number))
