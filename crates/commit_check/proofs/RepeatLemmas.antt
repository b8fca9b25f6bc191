-- The first statement that has the key of an earlier one is the least one that has.
use Rattle.std.proofs.Common.{◌≡◌, ◌⊎◌, inl, inr, ℕ, Bool, true, false, cond, T, List, [], ◌∷◌, refl, sym, ap, subst, ◌∙◌, Option, Some, None}
use Rattle.std.specs.Prelude.{IsSome, ◌||◌, MatchOption}
use Rattle.std.specs.FinMap as map
use Rattle.std.specs.List.{AllByRecursion}
use Rattle.std.specs.FinMap.Entries.{find, is_sorted, below_all}
use Rattle.std.specs.declared.cmp.Ordering.TheVariants.{Less}
use Rattle.std.proofs.lemmas.Slice.Eq.{bytes_eq-Decides}
use Rattle.cfg_base.specs.Order.{path_cmp}
use Rattle.cfg_base.specs.Words.{same_word, lists}
use Rattle.cfg_base.specs.declared.path.Step.{Step}
use Rattle.cfg_tree.specs.Full.{Expansion}
use Rattle.cfg_tree.specs.declared.full.Given.{Given}
use Rattle.commit_check.specs.declared.rule.KeyRule.{KeyRule}
use Rattle.commit_check.specs.Least.{Nowhere, IsLeast}
use Rattle.commit_check.specs.Repeats.{has_key, key_of, key_with, words_in, Repeats, first_repeat}
use Rattle.printing_order.proofs.EntriesLemmas.{found_all}
use Rattle.commit_check.proofs.InOrderLemmas.{clash, both_hold, by_first, first_there, more_there, later, nothing_before}

abbrev Entry : Type 0
Entry = List Step × Given

-- which statements the rule is about, and their keys by their paths
module _ (keyed : List Step → Bool) (key : List Step → List ℕ) where
  -- the first one whose key was met
  abbrev repeat_in : List (List ℕ) → List Entry → Option (List Step)
  repeat_in met [] = None
  repeat_in met (e ∷ es) = cond (keyed e.0) (cond (lists met (key e.0)) (Some e.0) (repeat_in (key e.0 ∷ met) es)) (repeat_in met es)

  -- an earlier one among entries with the same key
  record Earlier (es : List Entry) (p : List Step) : Type 0 where
    other : List Step
    there : IsSome (find path_cmp other es)
    is_keyed : keyed other ≡ true
    same : key other ≡ key p
    before : path_cmp other p ≡ Less

  -- one among entries whose key was met, or is that of an earlier one among them
  record RepeatsIn (met : List (List ℕ)) (es : List Entry) (p : List Step) : Type 0 where
    there : IsSome (find path_cmp p es)
    is_keyed : keyed p ≡ true
    known : (lists met (key p) ≡ true) ⊎ Earlier es p

  either : (a b : Bool) → (a || b) ≡ true → (a ≡ true) ⊎ (b ≡ true)
  either true b e = inl refl
  either false b e = inr e

  or_first : (a b : Bool) → a ≡ true → (a || b) ≡ true
  or_first a b e = ap (λ (c : Bool). c || b) e

  or_second : (a b : Bool) → b ≡ true → (a || b) ≡ true
  or_second true b e = refl
  or_second false b e = e

  -- after an entry that is none of the rule
  passed : (e : Entry) (es : List Entry) (met : List (List ℕ)) (p : List Step) → keyed e.0 ≡ false → RepeatsIn met (e ∷ es) p → RepeatsIn met es p
  passed e es met p none r =
      by_first e es p _ r.there (λ same. absurd (clash _ r.is_keyed (ap keyed same ∙ none)))
      (λ _ more. record {
        there = more;
        is_keyed = r.is_keyed;
        known = elim r.known [
          | inl h ↦ inl h
          | inr k ↦ by_first e es k.other _ k.there (λ same. absurd (clash _ k.is_keyed (ap keyed same ∙ none)))
              (λ _ there. inr (record { other = k.other; there = there; is_keyed = k.is_keyed; same = k.same; before = k.before }))
        ];
      })

  unpassed : (e : Entry) (es : List Entry) (met : List (List ℕ)) (p : List Step) → RepeatsIn met es p → RepeatsIn met (e ∷ es) p
  unpassed e es met p r = record {
    there = more_there e es p r.there;
    is_keyed = r.is_keyed;
    known = elim r.known [
      | inl h ↦ inl h
      | inr k ↦ inr (record { other = k.other; there = more_there e es k.other k.there; is_keyed = k.is_keyed; same = k.same; before = k.before })
    ];
  }

  -- after one whose key is new
  noted : (e : Entry) (es : List Entry) (met : List (List ℕ)) (p : List Step) → T (below_all path_cmp e.0 es)
      → lists met (key e.0) ≡ false → RepeatsIn met (e ∷ es) p → RepeatsIn (key e.0 ∷ met) es p
  noted e es met p below new r =
      by_first e es p _ r.there
      (λ same. absurd (elim r.known [
        | inl h ↦ clash _ h (ap (λ (q : List Step). lists met (key q)) same ∙ new)
        | inr k ↦ nothing_before e es k.other below (subst (λ (q : List Step). path_cmp k.other q ≡ Less) same k.before) k.there
      ]))
      (λ _ more. record {
        there = more;
        is_keyed = r.is_keyed;
        known = elim r.known [
          | inl h ↦ inl (or_second (same_word (key p) (key e.0)) _ h)
          | inr k ↦ by_first e es k.other _ k.there
              (λ same. inl (or_first _ _ ((bytes_eq-Decides (key p) (key e.0)).1 (sym k.same ∙ ap key same))))
              (λ _ there. inr (record { other = k.other; there = there; is_keyed = k.is_keyed; same = k.same; before = k.before }))
        ];
      })

  unnoted : (e : Entry) (es : List Entry) (met : List (List ℕ)) (p : List Step) → T (below_all path_cmp e.0 es)
      → keyed e.0 ≡ true → RepeatsIn (key e.0 ∷ met) es p → RepeatsIn met (e ∷ es) p
  unnoted e es met p below own r = record {
    there = more_there e es p r.there;
    is_keyed = r.is_keyed;
    known = elim r.known [
      | inl h ↦ elim (either (same_word (key p) (key e.0)) _ h) [
        | inl k ↦ inr (record {
          other = e.0;
          there = first_there e es;
          is_keyed = own;
          same = sym ((bytes_eq-Decides (key p) (key e.0)).0 k);
          before = later es e.0 p below r.there;
        })
        | inr k ↦ inl k
      ]
      | inr k ↦ inr (record { other = k.other; there = more_there e es k.other k.there; is_keyed = k.is_keyed; same = k.same; before = k.before })
    ];
  }

  none_repeats : (es : List Entry) (met : List (List ℕ)) → T (is_sorted path_cmp es) → repeat_in met es ≡ None → (p : List Step) → RepeatsIn met es p → ⊥
  none_repeats [] met sorted f p r = let k = r.there in cc
  none_repeats (e ∷ es) met sorted f p r = by_tests _ _ refl refl f (λ s. none_repeats es s parts.1)
    where
      parts : T (below_all path_cmp e.0 es) × T (is_sorted path_cmp es)
      parts = both_hold _ _ sorted

      by_tests : (a b : Bool) → keyed e.0 ≡ a → lists met (key e.0) ≡ b
          → cond a (cond b (Some e.0) (repeat_in (key e.0 ∷ met) es)) (repeat_in met es) ≡ None
          → ((s : List (List ℕ)) → repeat_in s es ≡ None → (q : List Step) → RepeatsIn s es q → ⊥) → ⊥
      by_tests true true k l g go = cc
      by_tests true false k l g go = go _ g p (noted e es met p parts.0 l r)
      by_tests false b k l g go = go _ g p (passed e es met p k r)

  record IsFirstRepeat (met : List (List ℕ)) (es : List Entry) (p : List Step) : Type 0 where
    repeats : RepeatsIn met es p
    least : (q : List Step) → path_cmp q p ≡ Less → RepeatsIn met es q → ⊥

  first_repeats : (es : List Entry) (met : List (List ℕ)) (p : List Step) → T (is_sorted path_cmp es) → repeat_in met es ≡ Some p → IsFirstRepeat met es p
  first_repeats [] met p sorted f = cc
  first_repeats (e ∷ es) met p sorted f = by_tests _ _ refl refl f (λ s. first_repeats es s p parts.1)
    where
      parts : T (below_all path_cmp e.0 es) × T (is_sorted path_cmp es)
      parts = both_hold _ _ sorted

      by_tests : (a b : Bool) → keyed e.0 ≡ a → lists met (key e.0) ≡ b
          → cond a (cond b (Some e.0) (repeat_in (key e.0 ∷ met) es)) (repeat_in met es) ≡ Some p
          → ((s : List (List ℕ)) → repeat_in s es ≡ Some p → IsFirstRepeat s es p) → IsFirstRepeat met (e ∷ es) p
      by_tests true true k l g go =
          let same : e.0 ≡ p = cc
          in subst (λ (q : List Step). IsFirstRepeat met (e ∷ es) q) same
          (record { repeats = record { there = first_there e es; is_keyed = k; known = inl l }; least = λ q less r. nothing_before e es q parts.0 less r.there })
      by_tests true false k l g go =
          let m = go _ g
          in record { repeats = unnoted e es met p parts.0 k m.repeats; least = λ q less r. m.least q less (noted e es met q parts.0 l r) }
      by_tests false b k l g go =
          let m = go _ g in record { repeats = unpassed e es met p m.repeats; least = λ q less r. m.least q less (passed e es met q k r) }

-- what is told of an expansion is told of its entries
module _ (rule : KeyRule) (full : Expansion) where
  abbrev Within : List (List ℕ) → List Entry → List Step → Type 0
  Within = RepeatsIn (has_key rule) (key_of rule full)

  found : (p : List Step) → IsSome (map.get full p) → IsSome (find path_cmp p (map.entries full))
  found p there = subst (λ (o : Option Given). IsSome o) (map.get-entries full p) there

  kept : (p : List Step) → IsSome (find path_cmp p (map.entries full)) → IsSome (map.get full p)
  kept p there = subst (λ (o : Option Given). IsSome o) (sym (map.get-entries full p)) there

  to_entries : (p : List Step) → Repeats rule full p → Within [] (map.entries full) p
  to_entries p r = record {
    there = found p r.there;
    is_keyed = r.keyed;
    known = inr (record { other = r.other; there = found r.other r.other_there; is_keyed = r.other_keyed; same = r.same; before = r.earlier });
  }

  from_entries : (p : List Step) → Within [] (map.entries full) p → Repeats rule full p
  from_entries p r = by_known r.known
    where
      by_known : ((false ≡ true) ⊎ Earlier (has_key rule) (key_of rule full) (map.entries full) p) → Repeats rule full p
      by_known (inl e) = cc
      by_known (inr k) = record {
        there = kept p r.there;
        keyed = r.is_keyed;
        other = k.other;
        other_there = kept k.other k.there;
        other_keyed = k.is_keyed;
        same = k.same;
        earlier = k.before;
      }

  -- the key of an entry is that of its path
  own_key : (e : Entry) → map.get full e.0 ≡ Some e.1 → key_with rule e.0 e.1.words ≡ key_of rule full e.0
  own_key e f = ap (λ (o : Option Given). key_with rule e.0 (words_in o)) (sym f)

  by_keys : (es : List Entry) (met : List (List ℕ)) → AllByRecursion (λ e. map.get full e.0 ≡ Some e.1) es
      → first_repeat rule met es ≡ repeat_in (has_key rule) (key_of rule full) met es
  by_keys [] met f = refl
  by_keys (e ∷ es) met f =
      ap (λ (k : List ℕ). cond (has_key rule e.0) (cond (lists met k) (Some e.0) (first_repeat rule (k ∷ met) es)) (first_repeat rule met es)) (own_key e f.0)
      ∙ ap (λ (o : Option (List Step)). cond (has_key rule e.0) (cond (lists met (key_of rule full e.0)) (Some e.0) o) (first_repeat rule met es)) (by_keys es (key_of rule full e.0 ∷ met) f.1)
      ∙ ap (λ (o : Option (List Step)). cond (has_key rule e.0) (cond (lists met (key_of rule full e.0)) (Some e.0) (repeat_in (has_key rule) (key_of rule full) (key_of rule full e.0 ∷ met) es)) o) (by_keys es met f.1)

-- the first repeat that is met is the least of all, and where none is met there is none
pub repeat_least : (rule : KeyRule) (full : Expansion) (found : Option (List Step)) → found ≡ first_repeat rule [] (map.entries full)
    → MatchOption found (Nowhere (Repeats rule full)) (IsLeast (Repeats rule full))
repeat_least rule full None e =
    λ p r. none_repeats (has_key rule) (key_of rule full) (map.entries full) [] (map.entries_sorted full)
    (sym (e ∙ by_keys rule full (map.entries full) [] (found_all full))) p (to_entries rule full p r)
repeat_least rule full (Some p) e =
    let g = first_repeats (has_key rule) (key_of rule full) (map.entries full) [] p (map.entries_sorted full)
    (sym (e ∙ by_keys rule full (map.entries full) [] (found_all full)))
    in record { has = from_entries rule full p g.repeats; least = λ q less r. g.least q less (to_entries rule full q r) }
