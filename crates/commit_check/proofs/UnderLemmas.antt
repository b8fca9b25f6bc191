-- The statements of a rule stand below one row at the top, and a walk that has left them doesn't come back to them.
use Rattle.std.proofs.Common.{◌≡◌, ◌⊎◌, inl, inr, ℕ, Bool, true, false, cond, T, List, [], ◌∷◌, filter, refl, ap, sym, subst, ◌∙◌, Option, Some, None}
use Rattle.std.specs.FinMap.Entries.{is_sorted, below_all}
use Rattle.std.specs.List.{AllByRecursion}
use Rattle.std.specs.Cmp.{tied_itself}
use Rattle.std.specs.Cmp.Lexicographic.{slice_cmp, bytes_decides}
use Rattle.std.specs.Ordering.{is_le, is_lt, ordering_then}
use Rattle.std.specs.declared.cmp.Ordering.{Ordering}
use Rattle.std.specs.declared.cmp.Ordering.TheVariants.{Less, Equal, Greater}
use Rattle.cfg_base.specs.Order.{word_cmp, step_cmp, path_cmp, words_total}
use Rattle.cfg_base.specs.Words.{lists}
use Rattle.cfg_base.specs.declared.path.Step.{Step}
use Rattle.cfg_base.proofs.OrderLemmas.{word_same}
use Rattle.cfg_schema.specs.Profile.{same_word, head_of}
use Rattle.cfg_tree.specs.declared.full.Given.{Given}
use Rattle.commit_check.specs.declared.rule.KeyRule.{KeyRule}
use Rattle.commit_check.specs.Kinds.{plain}
use Rattle.commit_check.specs.Repeats.{has_key, key_with, first_repeat}
use Rattle.commit_check.specs.First.{first_of, is_under}
use Rattle.commit_check.proofs.InOrderLemmas.{clash, both_hold, is_less}

abbrev Entry : Type 0
Entry = List Step × Given

-- a step with the head of a row comes at the row's own step or after it
at_or_after : (name : List ℕ) (rest : List Step) → is_le (ordering_then (ordering_then Equal (word_cmp [] name)) (slice_cmp step_cmp [] rest)) ≡ true
at_or_after [] [] = refl
at_or_after [] (s ∷ ss) = refl
at_or_after (n ∷ ns) rest = refl

pub under_after : (row : ℕ) (path : List Step) → is_under row path ≡ true → is_le (path_cmp (plain row ∷ []) path) ≡ true
under_after row [] h = cc
under_after row (s ∷ ss) h =
    let same : head_of row ≡ s.head = (bytes_decides _ _).0 h
    in let tie : word_cmp (head_of row) s.head ≡ Equal = ap (word_cmp (head_of row)) (sym same) ∙ tied_itself words_total (head_of row)
    in ap (λ (o : Ordering). is_le (ordering_then (ordering_then o (word_cmp [] s.name)) (slice_cmp step_cmp [] ss))) tie
    ∙ at_or_after s.name ss

-- the first of three orders, where the whole isn't greater
first_le : (o n r : Ordering) → is_le (ordering_then (ordering_then o n) r) ≡ true → (o ≡ Less) ⊎ (o ≡ Equal)
first_le Less n r h = inl refl
first_le Equal n r h = inr refl
first_le Greater n r h = cc

first_less : (o n r : Ordering) → ordering_then (ordering_then o n) r ≡ Less → (o ≡ Less) ⊎ (o ≡ Equal)
first_less Less n r h = inl refl
first_less Equal n r h = inr refl
first_less Greater n r h = cc

untied : (one two : List ℕ) → word_cmp one two ≡ Less → same_word one two ≡ false
untied one two less = by (same_word one two) refl
  where
    by : (b : Bool) → same_word one two ≡ b → b ≡ false
    by false e = refl
    by true e =
        let same : one ≡ two = (bytes_decides one two).0 e
        in let tie : word_cmp one two ≡ Equal = ap (word_cmp one) (sym same) ∙ tied_itself words_total one
        in let c = sym less ∙ tie in cc

-- after a path that has left the row comes none of it
pub left_after : (row : ℕ) (p q : List Step) → is_le (path_cmp (plain row ∷ []) p) ≡ true → is_under row p ≡ false → path_cmp p q ≡ Less
    → is_under row q ≡ false
left_after row [] q le out less = cc
left_after row (s ∷ ss) [] le out less = refl
left_after row (s ∷ ss) (t ∷ ts) le out less =
    untied (head_of row) t.head (further (first_le (word_cmp (head_of row) s.head) _ _ le) (first_less (word_cmp s.head t.head) _ _ less))
  where
    further : ((word_cmp (head_of row) s.head ≡ Less) ⊎ (word_cmp (head_of row) s.head ≡ Equal))
        → ((word_cmp s.head t.head ≡ Less) ⊎ (word_cmp s.head t.head ≡ Equal)) → word_cmp (head_of row) t.head ≡ Less
    further (inl l) (inl k) = words_total.trans (head_of row) s.head t.head l k
    further (inl l) (inr k) = subst (λ (w : List ℕ). word_cmp (head_of row) w ≡ Less) (word_same s.head t.head k) l
    further (inr e) k = absurd (clash (is_under row (s ∷ ss)) ((bytes_decides _ _).1 (word_same (head_of row) s.head e)) out)

-- entries of which none is of the row, and entries where none of it comes after one that isn't
abbrev pub AreOut : ℕ → List Entry → Type 0
AreOut row es = AllByRecursion (λ e. is_under row e.0 ≡ false) es

abbrev pub IsGrouped : ℕ → List Entry → Type 0
IsGrouped row [] = Unit {0}
IsGrouped row (e ∷ es) = (is_under row e.0 ≡ false → AreOut row es) × IsGrouped row es

-- the entries from a row's own path on are grouped
all_out : (row : ℕ) (a : List Step) (kept : Entry → Bool) (es : List Entry) → is_le (path_cmp (plain row ∷ []) a) ≡ true → is_under row a ≡ false
    → T (below_all path_cmp a es) → AreOut row (filter kept es)
all_out row a kept [] le out below = tt
all_out row a kept (e ∷ es) le out below =
    let parts = both_hold (is_lt (path_cmp a e.0)) (below_all path_cmp a es) below
    in by (kept e) (left_after row a e.0 le out (is_less _ parts.0)) (all_out row a kept es le out parts.1)
  where
    by : (b : Bool) → is_under row e.0 ≡ false → AreOut row (filter kept es) → AreOut row (cond b (e ∷ filter kept es) (filter kept es))
    by true here rest = (here, rest)
    by false here rest = rest

abbrev from : ℕ → List Entry → List Entry
from row es = filter (λ e. is_le (path_cmp (plain row ∷ []) e.0)) es

pub grouped : (row : ℕ) (es : List Entry) → T (is_sorted path_cmp es) → IsGrouped row (filter (λ e. is_le (path_cmp (plain row ∷ []) e.0)) es)
grouped row [] sorted = tt
grouped row (e ∷ es) sorted =
    let parts = both_hold (below_all path_cmp e.0 es) (is_sorted path_cmp es) sorted
    in by (is_le (path_cmp (plain row ∷ []) e.0)) refl parts.0 (grouped row es parts.1)
  where
    by : (b : Bool) → is_le (path_cmp (plain row ∷ []) e.0) ≡ b → T (below_all path_cmp e.0 es) → IsGrouped row (from row es)
        → IsGrouped row (cond b (e ∷ from row es) (from row es))
    by true le below rest = (λ out. all_out row e.0 (λ x. is_le (path_cmp (plain row ∷ []) x.0)) es le out below, rest)
    by false le below rest = rest

-- what is asked of a row's statements alone holds of no entry outside
never : (a b : Bool) → (a ≡ true → b ≡ true) → b ≡ false → a ≡ false
never false b h out = refl
never true b h out = let k = h refl in cc

pub none_first : (row : ℕ) (test : Entry → Bool) (es : List Entry) → ((e : Entry) → test e ≡ true → is_under row e.0 ≡ true) → AreOut row es
    → first_of test es ≡ None
none_first row test [] only out = refl
none_first row test (e ∷ es) only out =
    ap (λ (b : Bool). cond b (Some e.0) (first_of test es)) (never (test e) _ (only e) out.0) ∙ none_first row test es only out.1

pub none_repeats : (row : ℕ) (rule : KeyRule) (met : List (List ℕ)) (es : List Entry) → ((path : List Step) → has_key rule path ≡ true → is_under row path ≡ true)
    → AreOut row es → first_repeat rule met es ≡ None
none_repeats row rule met [] only out = refl
none_repeats row rule met (e ∷ es) only out =
    ap
    (λ (b : Bool). cond b (cond (lists met (key_with rule e.0 e.1.words)) (Some e.0) (first_repeat rule (key_with rule e.0 e.1.words ∷ met) es)) (first_repeat rule met es))
    (never (has_key rule e.0) _ (only e.0) out.0)
    ∙ none_repeats row rule met es only out.1

-- entries that are never asked for may be left out
pub first_of-filter : (test kept : Entry → Bool) (es : List Entry) → ((e : Entry) → test e ≡ true → kept e ≡ true) → first_of test (filter kept es) ≡ first_of test es
first_of-filter test kept [] h = refl
first_of-filter test kept (e ∷ es) h = by (kept e) refl (test e) refl (first_of-filter test kept es h)
  where
    by : (b : Bool) → kept e ≡ b → (t : Bool) → test e ≡ t → first_of test (filter kept es) ≡ first_of test es
        → first_of test (cond b (e ∷ filter kept es) (filter kept es)) ≡ first_of test (e ∷ es)
    by true k t l rest = ap (λ (o : Option (List Step)). cond (test e) (Some e.0) o) rest
    by false k true l rest = let c = sym k ∙ h e l in cc
    by false k false l rest = rest ∙ ap (λ (c : Bool). cond c (Some e.0) (first_of test es)) (sym l)

pub first_repeat-filter : (rule : KeyRule) (kept : Entry → Bool) (es : List Entry) (met : List (List ℕ)) → ((e : Entry) → has_key rule e.0 ≡ true → kept e ≡ true)
    → first_repeat rule met (filter kept es) ≡ first_repeat rule met es
first_repeat-filter rule kept [] met h = refl
first_repeat-filter rule kept (e ∷ es) met h =
    by (kept e) refl (has_key rule e.0) refl (first_repeat-filter rule kept es (key_with rule e.0 e.1.words ∷ met) h) (first_repeat-filter rule kept es met h)
  where
    by : (b : Bool) → kept e ≡ b → (t : Bool) → has_key rule e.0 ≡ t
        → first_repeat rule (key_with rule e.0 e.1.words ∷ met) (filter kept es) ≡ first_repeat rule (key_with rule e.0 e.1.words ∷ met) es
        → first_repeat rule met (filter kept es) ≡ first_repeat rule met es
        → first_repeat rule met (cond b (e ∷ filter kept es) (filter kept es)) ≡ first_repeat rule met (e ∷ es)
    by true k t l with_key rest =
        ap (λ (o : Option (List Step)). cond (has_key rule e.0) (cond (lists met (key_with rule e.0 e.1.words)) (Some e.0) o) (first_repeat rule met (filter kept es))) with_key
        ∙ ap (λ (o : Option (List Step)). cond (has_key rule e.0) (cond (lists met (key_with rule e.0 e.1.words)) (Some e.0) (first_repeat rule (key_with rule e.0 e.1.words ∷ met) es)) o) rest
    by false k true l with_key rest = let c = sym k ∙ h e l in cc
    by false k false l with_key rest =
        rest
        ∙ ap
        (λ (c : Bool).
        cond c (cond (lists met (key_with rule e.0 e.1.words)) (Some e.0) (first_repeat rule (key_with rule e.0 e.1.words ∷ met) es)) (first_repeat rule met es))
        (sym l)
