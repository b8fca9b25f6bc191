-- The offers for a step say what the step has, and its place in the order of its level.
use Rattle.std.proofs.Common.{◌≡◌, ℕ, Bool, true, false, not, cond, List, [], ◌∷◌, ◌++◌, filter, map, refl, sym, ap, ◌∙◌, Option, Some, None, is_some}
use Rattle.std.specs.Prelude.{◌&&◌, ◌||◌}
use Rattle.std.specs.List.{AllByRecursion, list_any}
use Rattle.std.specs.Ordering.{eq_by_cmp}
use Rattle.cfg_base.specs.Order.{step_cmp}
use Rattle.cfg_base.specs.Words.{same_word, lists}
use Rattle.cfg_base.specs.declared.path.Step.{Step}
use Rattle.cfg_base.specs.declared.value.Value.{Value}
use Rattle.cfg_tree.specs.Statements.{last_of}
use Rattle.cfg_tree.specs.Tree.{step_of}
use Rattle.cfg_tree.specs.Children.{order_in, step_if}
use Rattle.group_expand.specs.Live.{Look, is_active, is_live, words_of}
use Rattle.group_expand.specs.Sources as given
use Rattle.group_expand.specs.Sources.{same_step, apply_step, except_step, is_outside, is_plain, is_wildcard, sources}
use Rattle.group_expand.specs.Expansion.{Gift, is_apply, is_own, first_gift, gift_at}
use Rattle.group_expand.specs.Front.{raw, live_kids, steps_at}
use Rattle.group_expand.specs.Made.{order_of}
use Rattle.group_expand.specs.Row.{StatementView}
use Rattle.group_expand.specs.Node.{Node}
use Rattle.group_expand.specs.Offer.{Offer, own_offer}
use Rattle.group_expand.specs.Level.{Level, is_at}
use Rattle.group_expand.specs.Runs.{steps_of, is_apply_step, own_of, source_gift, own_gift, run_gift, has_source, may_be_inherited, is_inherited, inherited_in, names_with, order_if, order_for}
use Rattle.group_expand.specs.Placed.{IsRight, value_in, node_at, kids_at, offer_at, run_at}
use Rattle.group_expand.proofs.StepLemmas.{last_is}
use Rattle.group_expand.proofs.PlacedLemmas.{live_more}
use Rattle.group_expand.proofs.RunLemmas.{live_once}
use Rattle.group_expand.proofs.GivenLemmas.{step_told}

words_in : (o : Option Value) → (value_in o).words ≡ words_of o
words_in None = refl
words_in (Some v) = refl

order_told : (o : Option Value) → (value_in o).order ≡ order_in o
order_told None = refl
order_told (Some v) = refl

apply_last : (p : List Step) (s : Step) → is_apply (p ++ s ∷ []) ≡ is_apply_step s
apply_last [] s = ap is_apply_step (last_is [] s)
apply_last (t ∷ p) s = ap is_apply_step (last_is (t ∷ p) s)

module _ (look : Look) (kids : List Step → List Step) (row : List StatementView) where
  abbrev at : List Step → Node
  at q = node_at look row q

  source_given : (s : Step) (xs : List given.Source) → source_gift (map (offer_at look row s) xs) ≡ first_gift look xs
  source_given s [] = refl
  source_given s (x ∷ xs) = ap (λ (ws : List (List ℕ)). Some (record { words = ws; group = x.group })) (words_in (look x.from))

  source_some : (s : Step) (xs : List given.Source) → has_source (map (offer_at look row s) xs) ≡ is_some (first_gift look xs)
  source_some s [] = refl
  source_some s (x ∷ xs) = refl

  -- what a path has, by whether it is the configuration's own and whether it may have sources
  abbrev chosen : List Step → Bool → Bool → Option Gift
  chosen q own with_sources = cond own (Some (record { words = words_of (look q); group = [] })) (first_gift look (cond with_sources (raw look kids q) []))

  abbrev run_of : List Step → Step → Bool → List Offer
  run_of q s live = cond live (own_offer (at q) ∷ []) [] ++ map (offer_at look row s) (raw look kids q)

  no_own : (s : Step) (xs : List given.Source) → own_gift (own_of (map (offer_at look row s) xs)) (source_gift (map (offer_at look row s) xs)) ≡ first_gift look xs
  no_own s [] = refl
  no_own s (x ∷ xs) = source_given s (x ∷ xs)

  told_by : (q : List Step) (s : Step) (o l a : Bool)
      → cond o (cond a (source_gift (run_of q s l)) (own_gift (own_of (run_of q s l)) (source_gift (run_of q s l)))) None ≡ chosen q (l && (o && not a)) (o && true)
  told_by q s true true true = source_given s (raw look kids q)
  told_by q s true true false = ap (λ (ws : List (List ℕ)). Some (record { words = ws; group = [] })) (words_in (look q))
  told_by q s true false true = source_given s (raw look kids q)
  told_by q s true false false = no_own s (raw look kids q)
  told_by q s false true a = refl
  told_by q s false false a = refl

  -- what the offers for a step give is what its path has
  pub gift_told : (p : List Step) (s : Step) → is_plain (p ++ s ∷ []) ≡ true
      → run_gift (p ++ s ∷ []) s (run_at look kids row p s) ≡ gift_at look kids (p ++ s ∷ [])
  gift_told p s plain =
      told_by (p ++ s ∷ []) s (is_outside (p ++ s ∷ [])) (is_live look (p ++ s ∷ [])) (is_apply_step s)
      ∙ ap (λ (b : Bool). chosen (p ++ s ∷ []) (is_live look (p ++ s ∷ []) && (is_outside (p ++ s ∷ []) && not b)) (is_outside (p ++ s ∷ []) && true)) (sym (apply_last p s))
      ∙ ap (λ (b : Bool). chosen (p ++ s ∷ []) (is_own look (p ++ s ∷ [])) (is_outside (p ++ s ∷ []) && b)) (sym plain)

  -- a step that is there and isn't the configuration's own
  inherited_by : (q : List Step) (s : Step) (same l a : Bool)
      → ((same && (a || not l)) && has_source (run_of q s l))
      ≡ (is_some (chosen q (l && (true && not a)) (true && true)) && (same && not (l && (true && not a))))
  inherited_by q s true true true = source_some s (raw look kids q) ∙ sym (and_true _)
    where
      and_true : (b : Bool) → (b && true) ≡ b
      and_true true = refl
      and_true false = refl
  inherited_by q s true true false = refl
  inherited_by q s true false true = source_some s (raw look kids q) ∙ sym (and_true _)
    where
      and_true : (b : Bool) → (b && true) ≡ b
      and_true true = refl
      and_true false = refl
  inherited_by q s true false false = source_some s (raw look kids q) ∙ sym (and_true _)
    where
      and_true : (b : Bool) → (b && true) ≡ b
      and_true true = refl
      and_true false = refl
  inherited_by q s false l a = sym (and_false _)
    where
      and_false : (b : Bool) → (b && false) ≡ false
      and_false true = refl
      and_false false = refl

  inherited_told : (level : Level) (p : List Step) (head : List ℕ) (s : Step) → is_outside (p ++ s ∷ []) ≡ true → IsRight look kids row level p s
      → is_inherited head s level.wild (filter (is_at s) level.plain) ≡ (is_some (gift_at look kids (p ++ s ∷ [])) && (same_word head s.head && not (is_own look (p ++ s ∷ []))))
  inherited_told level p head s outside h =
      ap (λ (run : List Offer). may_be_inherited head s (filter (is_at s) level.plain) && has_source run) h.run
      ∙ ap (λ (b : Bool). (same_word head s.head && (is_apply_step s || not b)) && has_source (run_at look kids row p s)) h.own
      ∙ inherited_by (p ++ s ∷ []) s (same_word head s.head) (is_live look (p ++ s ∷ [])) (is_apply_step s)
      ∙ ap (λ (b : Bool). is_some (chosen (p ++ s ∷ []) (is_live look (p ++ s ∷ []) && (true && not b)) (true && true)) && (same_word head s.head && not (is_live look (p ++ s ∷ []) && (true && not b)))) (sym (apply_last p s))
      ∙ ap (λ (b : Bool). is_some (chosen (p ++ s ∷ []) (is_live look (p ++ s ∷ []) && (b && not (is_apply (p ++ s ∷ [])))) (b && true)) && (same_word head s.head && not (is_live look (p ++ s ∷ []) && (b && not (is_apply (p ++ s ∷ [])))))) (sym outside)
      ∙ ap (λ (b : Bool). is_some (chosen (p ++ s ∷ []) (is_own look (p ++ s ∷ [])) (is_outside (p ++ s ∷ []) && b)) && (same_word head s.head && not (is_own look (p ++ s ∷ [])))) (sym h.plain)

  inherited_all : (level : Level) (p : List Step) (head : List ℕ) (ss : List Step) → ((s : Step) → is_outside (p ++ s ∷ []) ≡ true) → AllByRecursion (IsRight look kids row level p) ss
      → filter (λ s. is_inherited head s level.wild (filter (is_at s) level.plain)) ss
      ≡ filter (λ s. same_word head s.head && not (is_own look (p ++ s ∷ []))) (filter (λ s. is_some (gift_at look kids (p ++ s ∷ []))) ss)
  inherited_all level p head [] outside h = refl
  inherited_all level p head (s ∷ ss) outside h =
      ap (λ (b : Bool). cond b (s ∷ filter (λ s. is_inherited head s level.wild (filter (is_at s) level.plain)) ss) (filter (λ s. is_inherited head s level.wild (filter (is_at s) level.plain)) ss)) (inherited_told level p head s (outside s) h.0)
      ∙ by_tests (is_some (gift_at look kids (p ++ s ∷ []))) (same_word head s.head && not (is_own look (p ++ s ∷ []))) refl (inherited_all level p head ss outside h.1)
    where
      by_tests : (a b : Bool) → (same_word head s.head && not (is_own look (p ++ s ∷ []))) ≡ b
          → filter (λ s. is_inherited head s level.wild (filter (is_at s) level.plain)) ss
          ≡ filter (λ s. same_word head s.head && not (is_own look (p ++ s ∷ []))) (filter (λ s. is_some (gift_at look kids (p ++ s ∷ []))) ss)
          → cond (a && b) (s ∷ filter (λ s. is_inherited head s level.wild (filter (is_at s) level.plain)) ss) (filter (λ s. is_inherited head s level.wild (filter (is_at s) level.plain)) ss)
          ≡ filter (λ s. same_word head s.head && not (is_own look (p ++ s ∷ []))) (cond a (s ∷ filter (λ s. is_some (gift_at look kids (p ++ s ∷ []))) ss) (filter (λ s. is_some (gift_at look kids (p ++ s ∷ []))) ss))
      by_tests true true e go =
          ap (λ (xs : List Step). s ∷ xs) go
          ∙ sym (ap (λ (c : Bool). cond c (s ∷ filter (λ s. same_word head s.head && not (is_own look (p ++ s ∷ []))) (filter (λ s. is_some (gift_at look kids (p ++ s ∷ []))) ss))
          (filter (λ s. same_word head s.head && not (is_own look (p ++ s ∷ []))) (filter (λ s. is_some (gift_at look kids (p ++ s ∷ []))) ss))) e)
      by_tests true false e go =
          go
          ∙ sym (ap (λ (c : Bool). cond c (s ∷ filter (λ s. same_word head s.head && not (is_own look (p ++ s ∷ []))) (filter (λ s. is_some (gift_at look kids (p ++ s ∷ []))) ss))
          (filter (λ s. same_word head s.head && not (is_own look (p ++ s ∷ []))) (filter (λ s. is_some (gift_at look kids (p ++ s ∷ []))) ss))) e)
      by_tests false b e go = go

  module _ (once : (q : List Step) (s : Step) → filter (eq_by_cmp step_cmp s) (kids q) ≡ step_if (is_some (look (q ++ s ∷ []))) s) where
    abbrev some : List Step → Bool
    some [] = false
    some (s ∷ ss) = true

    any_some : (t : Step → Bool) (ss : List Step) → list_any t ss ≡ some (filter t ss)
    any_some t [] = refl
    any_some t (s ∷ ss) = by_test (t s) (any_some t ss)
      where
        by_test : (b : Bool) → list_any t ss ≡ some (filter t ss) → (b || list_any t ss) ≡ some (cond b (s ∷ filter t ss) (filter t ss))
        by_test true e = refl
        by_test false e = e

    named : (head name : List ℕ) (q : List Step) (ss : List Step)
        → lists (names_with head (map (λ r. at (q ++ r ∷ [])) ss)) name ≡ list_any (same_step (step_of head name)) ss
    named head name q [] = refl
    named head name q (r ∷ ss) =
        ap (λ (t : Step). lists (map (λ (n : Node). (last_of n.path).name) (cond (same_word head t.head) (at (q ++ r ∷ []) ∷ filter (λ (n : Node). same_word head (last_of n.path).head) (map (λ r. at (q ++ r ∷ [])) ss)) (filter (λ (n : Node). same_word head (last_of n.path).head) (map (λ r. at (q ++ r ∷ [])) ss)))) name) (last_is q r)
        ∙ by_test (same_word head r.head) (named head name q ss)
      where
        by_test : (b : Bool) → lists (names_with head (map (λ r. at (q ++ r ∷ [])) ss)) name ≡ list_any (same_step (step_of head name)) ss
            → lists (map (λ (n : Node). (last_of n.path).name) (cond b (at (q ++ r ∷ []) ∷ filter (λ (n : Node). same_word head (last_of n.path).head) (map (λ r. at (q ++ r ∷ [])) ss)) (filter (λ (n : Node). same_word head (last_of n.path).head) (map (λ r. at (q ++ r ∷ [])) ss)))) name
            ≡ ((b && same_word name r.name) || list_any (same_step (step_of head name)) ss)
        by_test true e = ap (λ (t : Step). same_word name t.name || lists (names_with head (map (λ r. at (q ++ r ∷ [])) ss)) name) (last_is q r) ∙ ap (λ (b : Bool). same_word name r.name || b) e
        by_test false e = e

    -- a name is one of a live child's, where it is a live child
    name_live : (head name : List ℕ) (q : List Step) → lists (names_with head (kids_at look kids row q)) name ≡ is_live look (q ++ step_of head name ∷ [])
    name_live head name q =
        named head name q (live_kids look kids q)
        ∙ (let same : same_step (step_of head name) ≡ eq_by_cmp step_cmp (step_of head name) = λ i r. step_told (step_of head name) r i
        in ap (λ (t : Step → Bool). list_any t (live_kids look kids q)) same)
        ∙ any_some (eq_by_cmp step_cmp (step_of head name)) (live_kids look kids q)
        ∙ ap some (live_once look kids row once q (step_of head name))
        ∙ by_live (is_live look (q ++ step_of head name ∷ []))
      where
        by_live : (b : Bool) → some (step_if b (step_of head name)) ≡ b
        by_live true = refl
        by_live false = refl

    none_live : (q : List Step) (head : List ℕ) → is_live look q ≡ false → (names : List (List ℕ)) → filter (λ name. is_live look (q ++ step_of head name ∷ [])) names ≡ []
    none_live q head dead [] = refl
    none_live q head dead (name ∷ names) =
        ap (λ (b : Bool). cond b (name ∷ filter (λ n. is_live look (q ++ step_of head n ∷ [])) names) (filter (λ n. is_live look (q ++ step_of head n ∷ [])) names))
        (live_more look q (step_of head name) ∙ ap (λ (b : Bool). b && is_active (look (q ++ step_of head name ∷ []))) dead)
        ∙ none_live q head dead names

    -- the order that the code makes is that of the level
    pub order_is : (q : List Step) (level : Level) (head : Option (List ℕ)) → ((s : Step) → is_outside (q ++ s ∷ []) ≡ true) → steps_of level.plain ≡ steps_at look kids q → AllByRecursion (IsRight look kids row level q) (steps_at look kids q)
        → order_for head (cond (is_live look q) (Some (at q)) None) (cond (is_live look q) (kids_at look kids row q) []) level ≡ order_of look kids q head
    order_is q level None outside steps right = refl
    order_is q level (Some head) outside steps right =
        ap (λ (names : List (List ℕ)). names ++ inherited_in head level) (by_live (is_live look q) refl)
        ∙ ap (λ (ss : List Step). filter (λ name. is_live look (q ++ step_of head name ∷ [])) (order_in (look q)) ++ map (λ s. s.name) (filter (λ s. is_inherited head s level.wild (filter (is_at s) level.plain)) ss)) steps
        ∙ ap (λ (ss : List Step). filter (λ name. is_live look (q ++ step_of head name ∷ [])) (order_in (look q)) ++ map (λ s. s.name) ss) (inherited_all level q head (steps_at look kids q) outside right)
      where
        by_live : (b : Bool) → is_live look q ≡ b
            → filter (lists (names_with head (cond b (kids_at look kids row q) []))) (order_if (cond b (Some (at q)) None)) ≡ filter (λ name. is_live look (q ++ step_of head name ∷ [])) (order_in (look q))
        by_live true e =
            (let same : lists (names_with head (kids_at look kids row q)) ≡ (λ (name : List ℕ). is_live look (q ++ step_of head name ∷ [])) = λ i name. name_live head name q i
            in ap (λ (t : List ℕ → Bool). filter t (value_in (look q)).order) same)
            ∙ ap (filter (λ name. is_live look (q ++ step_of head name ∷ []))) (order_told (look q))
        by_live false e = sym (none_live q head e (order_in (look q)))
