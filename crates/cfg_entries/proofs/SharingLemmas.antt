-- An entry is determined by its path and its value.
use mathlib.Core.Bool.{beq}
use Rattle.std.specs.Bool.{Decides}
use Rattle.std.specs.Cmp.Lexicographic.{pointwise_decides}
use Rattle.std.proofs.lemmas.Bool.Decides.{Decides-and, Decides-like}
use Rattle.std.proofs.Common.{◌≡◌, Bool, false, ℕ, true, List, refl, sym, ap, ◌∙◌}
use Rattle.std.specs.Ordering.{eq_by_cmp}
use Rattle.cfg_base.specs.Order.{path_cmp, words_total, words_eq}
use Rattle.cfg_base.specs.declared.path.Step.{Step}
use Rattle.cfg_base.specs.declared.value.Value.{Value}
use Rattle.cfg_base.specs.contracts.value.ValuePartialEq.TheImpl as value
use Rattle.cfg_entries.specs.EntryMap.{Pair}
use Rattle.cfg_entries.proofs.OrderLemmas.{path_same, word_same, is_equal, ties_decide}

same_paths : (p q : List Step) → true ≡ eq_by_cmp path_cmp p q → p ≡ q
same_paths p q h = path_same p q (is_equal _ (sym h))

pub told_entry : {V : Type 0} (e : Pair V) (p q : List Step) (v w : V) → true ≡ eq_by_cmp path_cmp p q → p ≡ e.0 → v ≡ e.1 → v ≡ w → e ≡ (q, w)
told_entry e p q v w tie k l same =
    let a = sym k ∙ same_paths p q tie
    in let b = sym l ∙ same
    in λ i. (a i, b i)

same_words : (xs ys : List (List ℕ)) → Decides (words_eq xs ys) (xs ≡ ys)
same_words = pointwise_decides (ties_decide words_total word_same)

same_bool : (a b : Bool) → Decides (beq a b) (a ≡ b)
same_bool true true = (λ _. refl, λ _. refl)
same_bool true false = (λ e. cc, λ e. cc)
same_bool false true = (λ e. cc, λ e. cc)
same_bool false false = (λ _. refl, λ _. refl)

value_of : (v w : Value) → v.inactive ≡ w.inactive → v.protected ≡ w.protected → v.order ≡ w.order → v.words ≡ w.words → v ≡ w
value_of v w a b c d = λ i. record { inactive = a i; protected = b i; order = c i; words = d i }

pub same_value : (v w : Value) → Decides ((value.ghosts).eq v w) (v ≡ w)
same_value v w =
    Decides-like _
    (λ h. value_of v w h.0 h.1.0 h.1.1.0 h.1.1.1)
    (λ e. (ap (λ (x : Value). x.inactive) e, (ap (λ (x : Value). x.protected) e, (ap (λ (x : Value). x.order) e, ap (λ (x : Value). x.words) e))))
    (Decides-and _ _ (same_bool v.inactive w.inactive)
    (Decides-and _ _ (same_bool v.protected w.protected)
    (Decides-and _ _ (same_words v.order w.order) (same_words v.words w.words))))
