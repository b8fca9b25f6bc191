-- Expansions: what a look-up in the entries gives, and how many they are.
use Rattle.std.proofs.Common.{◌≡◌, ℕ, ◌≤◌, cond, List, [], ◌∷◌, length, refl, sym, ap, subst, ◌∙◌, Some, arith, rules, Fits, w32, lit≤}
use Rattle.std.specs.FinMap as map
use Rattle.std.specs.FinMap.Entries.{by_order, put, find}
use Rattle.std.specs.Map.{lookup, keys_of}
use Rattle.std.specs.List.{AllByRecursion}
use Rattle.std.specs.List.Sorted.{IsStrictlySortedBy}
use Rattle.std.specs.declared.cmp.Ordering.{Ordering}
use Rattle.std.specs.declared.cmp.Ordering.TheVariants.{Less}
use Rattle.std.specs.Ordering.{is_eq}
use Rattle.std.proofs.lemmas.Map.Keys.{sorted_head, sorted_tail}
use Rattle.std.specs.Bool.{Decides}
use Rattle.std.specs.Cmp.Lexicographic.{pointwise_decides}
use Rattle.std.proofs.lemmas.Bool.Decides.{Decides-and, Decides-like}
use Rattle.cfg_base.specs.Order.{path_cmp, paths_total, words_total, words_eq}
use Rattle.cfg_base.specs.declared.path.Step.{Step}
use Rattle.cfg_entries.specs.EntryMap.{EntryMap, is_at, get, IsOrdered}
use Rattle.cfg_tree.specs.declared.full.Given.{Given}
use Rattle.cfg_tree.specs.contracts.full.GivenPartialEq.TheImpl as given
use Rattle.cfg_tree.proofs.MapLemmas.{word_same, ties_decide}
use Rattle.cfg_tree.specs.declared.limit.TheConstants.{MAX_EXPANDED}
use Rattle.cfg_tree.specs.Full.{IsWithin}

module _ {X : Type 0} where
  -- the first entry at a key, stated in two ways
  find_entry : (es : List (List Step × X)) (q : List Step) → find path_cmp q es ≡ lookup (is_at (path_cmp q)) es
  find_entry [] q = refl
  find_entry (e ∷ es) q = ap (cond (is_eq (path_cmp q e.0)) (Some e.1)) (find_entry es q)

  -- what a look-up in the entries gives
  pub get_from : (m : EntryMap (List Step) X) (q : List Step) → map.get (map.from_entries {R = path_cmp} m.entries) q ≡ get path_cmp m q
  get_from m q = map.get-from_entries paths_total m.entries q ∙ find_entry m.entries q

  put_front : (k : List Step) (v : X) (es : List (List Step × X)) → AllByRecursion (λ y. path_cmp k y ≡ Less) (keys_of es) → put path_cmp k v es ≡ (k, v) ∷ es
  put_front k v [] h = refl
  put_front k v (e ∷ es) h = ap (λ (o : Ordering). by_order o ((k, v) ∷ e ∷ es) ((e.0, v) ∷ es) (e ∷ put path_cmp k v es)) h.0

  none_at_all : (es : List (List Step × X)) → length es ≡ 0 → es ≡ []
  none_at_all [] e = refl
  none_at_all (x ∷ es) e = absurd (omega arith)

  -- entries in order are those of their map
  pub entries_from : (es : List (List Step × X)) → IsStrictlySortedBy path_cmp (keys_of es) → map.entries (map.from_entries {R = path_cmp} es) ≡ es
  entries_from [] h = none_at_all _ (sym (map.len-entries (map.empty {X = X} {R = path_cmp})) ∙ map.len-empty path_cmp X)
  entries_from (e ∷ es) h =
      map.entries-insert paths_total (map.from_entries es) e.0 e.1
      ∙ ap (put path_cmp e.0 e.1) (entries_from es (sorted_tail path_cmp e.0 (keys_of es) h))
      ∙ put_front e.0 e.1 es (sorted_head path_cmp e.0 (keys_of es) h)

  pub len_from : (es : List (List Step × X)) → IsStrictlySortedBy path_cmp (keys_of es) → map.len (map.from_entries {R = path_cmp} es) ≡ length es
  len_from es h = map.len-entries (map.from_entries es) ∙ ap (λ (xs : List (List Step × X)). length xs) (entries_from es h)

pub nothing_within : (es : List (List Step × Given)) → es ≡ [] → IsWithin (map.from_entries {R = path_cmp} es)
nothing_within es e =
    subst (λ (xs : List (List Step × Given)). IsWithin (map.from_entries {R = path_cmp} xs)) (sym e)
    (subst (λ (n : ℕ). n ≤ MAX_EXPANDED) (sym (map.len-empty path_cmp Given)) (lit≤ tt))

pub made_within : (es ms : List (List Step × Given)) → IsStrictlySortedBy path_cmp (keys_of ms) → length ms ≤ MAX_EXPANDED → es ≡ ms
    → IsWithin (map.from_entries {R = path_cmp} es)
made_within es ms sorted few e =
    subst (λ (xs : List (List Step × Given)). IsWithin (map.from_entries {R = path_cmp} xs)) (sym e)
    (subst (λ (n : ℕ). n ≤ MAX_EXPANDED) (sym (len_from ms sorted)) few)

fits : (n : ℕ) → n ≤ 65536 → Fits w32 n
fits n h = search rules

pub count_within : (m : EntryMap (List Step) Given) (n : ℕ) → n ≡ length m.entries → IsOrdered path_cmp m → IsWithin (map.from_entries {R = path_cmp} m.entries) → Fits w32 n
count_within m n e sorted within = fits _ (subst (λ (k : ℕ). k ≤ MAX_EXPANDED) (len_from m.entries sorted ∙ sym e) within)

same_words : (xs ys : List (List ℕ)) → Decides (words_eq xs ys) (xs ≡ ys)
same_words = pointwise_decides (ties_decide words_total word_same)

given_of : (g h : Given) → g.words ≡ h.words → g.order ≡ h.order → g.group ≡ h.group → g ≡ h
given_of g h a b c = λ i. record { words = a i; order = b i; group = c i }

-- what is given is determined by its words, its order and its group
pub same_given : (g h : Given) → Decides ((given.ghosts).eq g h) (g ≡ h)
same_given g h =
    Decides-like _
    (λ k. given_of g h k.0 k.1.0 k.1.1)
    (λ e. (ap (λ (x : Given). x.words) e, (ap (λ (x : Given). x.order) e, ap (λ (x : Given). x.group) e)))
    (Decides-and _ _ (same_words g.words h.words)
    (Decides-and _ _ (same_words g.order h.order) (ties_decide words_total word_same g.group h.group)))
