-- No fewer bytes than words and statements are printed in.
use Rattle.std.proofs.Common.{◌≡◌, ℕ, ◌+◌, ◌*◌, ◌≤◌, Bool, true, false, cond, ◌||◌, ◌==◌, List, [], ◌∷◌, ◌++◌, length, ap, subst, arith}
use Rattle.std.specs.List.{flat_map, sum_by}
use Rattle.std.specs.FinMap as map
use Rattle.std.proofs.lemmas.List.{length-append}
use Rattle.cfg_base.specs.declared.path.Step.{Step}
use Rattle.cfg_base.specs.declared.value.Value.{Value}
use Rattle.cfg_entries.specs.EntryMap.{Pair}
use Rattle.cfg_lex.specs.Printed.{is_plain, escaped, printed_word}
use Rattle.cfg_tree.specs.OwnWords.{own_words, word_if_any}
use Rattle.cfg_tree.specs.Statements.{Statements}
use Rattle.cfg_tree.specs.Tree.{IsTree}
use Rattle.curly_print.specs.Length.{entry_len}
use Rattle.curly_print.specs.Printed.{printed, words_line}
use Rattle.curly_print.proofs.LengthLemmas.{length-printed}

most_escaped : (word : List ℕ) → length (flat_map escaped word) ≤ 2 * length word
most_escaped [] = omega arith
most_escaped (b ∷ word) = by_test (b == 34 || b == 92) (most_escaped word)
  where
    by_test : (t : Bool) → length (flat_map escaped word) ≤ 2 * length word
        → length (cond t (92 ∷ b ∷ []) (b ∷ []) ++ flat_map escaped word) ≤ 2 * length (b ∷ word)
    by_test true h = omega (arith, h)
    by_test false h = omega (arith, h)

pub most_printed : (word : List ℕ) → length (printed_word word) ≤ 2 * length word + 2
most_printed word = by_test (is_plain word)
  where
    by_test : (t : Bool) → length (cond t word (34 ∷ (flat_map escaped word ++ 34 ∷ []))) ≤ 2 * length word + 2
    by_test true = omega arith
    by_test false = omega (arith, length-append (flat_map escaped word) (34 ∷ []), most_escaped word)

by_words : (head name : List ℕ) (h n : ℕ) → length (printed_word head) ≤ h → length (printed_word name) ≤ n
    → length (words_line ((word_if_any head ++ word_if_any name) ++ [])) ≤ h + 1 + n
by_words [] [] h n e f = omega arith
by_words [] (c ∷ name) h n e f = omega (arith, f, length-append (printed_word (c ∷ name)) [])
by_words (b ∷ head) [] h n e f = omega (arith, e, length-append (printed_word (b ∷ head)) [])
by_words (b ∷ head) (c ∷ name) h n e f =
    omega (
      arith,
      e,
      f,
      length-append (printed_word (b ∷ head)) ((32 ∷ printed_word (c ∷ name)) ++ []),
      length-append (32 ∷ printed_word (c ∷ name)) [],
    )

-- a step, by its head and its name
pub most_step : (step : Step) (head name : List ℕ) (h n : ℕ) → head ≡ step.head → name ≡ step.name → length (printed_word head) ≤ h
    → length (printed_word name) ≤ n → length (words_line (own_words (step ∷ []))) ≤ h + 1 + n
most_step step head name h n is_head is_name e f =
    by_words step.head step.name h n (subst (λ (word : List ℕ). length (printed_word word) ≤ h) is_head e)
    (subst (λ (word : List ℕ). length (printed_word word) ≤ n) is_name f)

-- where all statements have room
pub all_fit : (m : Statements) → IsTree m → (most free : ℕ) (left : List (Pair Value)) → left ≡ []
    → free + sum_by (entry_len m) (map.entries m) ≤ most + sum_by (entry_len m) left → length (printed m []) ≤ most
all_fit m tree most free left none h =
    let is = length-printed m tree in let no = ap (λ (es : List (Pair Value)). sum_by (entry_len m) es) none in omega (arith, is, no, h)
