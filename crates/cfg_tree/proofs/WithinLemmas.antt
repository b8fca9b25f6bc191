-- An expansion stays within its limit where a path is put for which there is room, and where one is taken away.
use Rattle.std.proofs.Common.{◌≡◌, ℕ, ◌+◌, ◌-◌, ◌<◌, ◌≤◌, Bool, true, false, cond, List, sym, ap, subst, ◌∙◌, arith, Result, Ok, Err, OnOk, OnErr}
use Rattle.std.specs.FinMap as map
use Rattle.std.specs.FinMap.Entries.{put}
use Rattle.cfg_base.specs.Order.{path_cmp, paths_total}
use Rattle.cfg_base.specs.declared.path.Step.{Step}
use Rattle.cfg_entries.specs.EntryMap.{EntryMap, IsOrdered, without}
use Rattle.cfg_tree.specs.declared.full.Given.{Given}
use Rattle.cfg_tree.specs.declared.limit.TheConstants.{MAX_EXPANDED}
use Rattle.cfg_tree.specs.Full.{Expansion, IsWithin}
use Rattle.cfg_tree.proofs.EntryLemmas.{inserted, taken}

one_more : (b : Bool) (n k : ℕ) → n < k → cond b n (n + 1) ≤ k
one_more true n k h = omega (arith, h)
one_more false n k h = omega (arith, h)

one_less : (b : Bool) (n k : ℕ) → n ≤ k → cond b (n - 1) n ≤ k
one_less true n k h = omega (arith, h)
one_less false n k h = omega (arith, h)

pub put_within : {T E : Type 0} (m n : EntryMap (List Step) Given) (k : List Step) (v : Given) (full : Expansion) → map.from_entries {R = path_cmp} m.entries ≡ full
    → map.len full < MAX_EXPANDED → (r : Result T E) → IsOrdered path_cmp m → OnOk r (n.entries ≡ put path_cmp k v m.entries) → OnErr r (n ≡ m)
    → IsWithin (map.from_entries m.entries) → IsWithin (map.from_entries n.entries)
put_within m n k v full is room (Ok x) sorted ok err within =
    subst (λ (f : Expansion). IsWithin f) (sym (inserted m n k v sorted ok))
    (subst (λ (c : ℕ). c ≤ MAX_EXPANDED) (sym (map.len-insert paths_total (map.from_entries m.entries) k v))
    (one_more (map.contains_key (map.from_entries {R = path_cmp} m.entries) k) _ _ (subst (λ (f : Expansion). map.len f < MAX_EXPANDED) (sym is) room)))
put_within m n k v full is room (Err x) sorted ok err within = subst (λ (o : EntryMap (List Step) Given). IsWithin (map.from_entries o.entries)) (sym err) within

pub taken_within : {T E : Type 0} (m n : EntryMap (List Step) Given) (k : List Step) → (r : Result T E) → OnOk r (n.entries ≡ without path_cmp k m.entries) → OnErr r (n ≡ m)
    → IsWithin (map.from_entries m.entries) → IsWithin (map.from_entries n.entries)
taken_within m n k (Ok x) ok err within =
    subst (λ (f : Expansion). IsWithin f) (sym (taken m n k ok))
    (subst (λ (c : ℕ). c ≤ MAX_EXPANDED) (sym (map.len-remove paths_total (map.from_entries m.entries) k))
    (one_less (map.contains_key (map.from_entries {R = path_cmp} m.entries) k) _ _ within))
taken_within m n k (Err x) ok err within = subst (λ (o : EntryMap (List Step) Given). IsWithin (map.from_entries o.entries)) (sym err) within
