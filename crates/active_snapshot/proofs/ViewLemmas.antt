-- Lists of views: one more at the end, their fronts, and the entries that lead to them.
use Rattle.std.proofs.Common.{◌≡◌, ℕ, zero, suc, ◌+◌, ◌≤◌, ◌<◌, ◌^◌, List, [], ◌∷◌, ◌++◌, length}
use Rattle.std.proofs.Common.{Option, Some, None, refl, ap, sym, subst, ◌∙◌, arith}
use Rattle.std.specs.Prelude.{slice_get}
use Rattle.std.specs.List.{last_or}
use mathlib.Core.List.{IsPrefix}
use Rattle.commit_ledger.specs.declared.entry.Entry.{Entry}
use Rattle.commit_ledger.specs.declared.entry.Entry.TheVariants.{Commit as CommitOf, Confirm as ConfirmOf, Scheduled as ScheduledOf, Cleared as ClearedOf}
use Rattle.commit_ledger.specs.Kept.{Kept, append_entry, after_entries}
use Rattle.commit_ledger.specs.declared.limit.TheConstants.{MAX_ENTRIES}
use Rattle.active_snapshot.specs.Views.{AreViews, ComesNext, FollowsOn, IsLast, IsNextView}

some_inj : {A : Type 0} {x y : A} → Some x ≡ Some y → x ≡ y
some_inj e = cc e

-- the last of a list that grew by one
last_or-append : {A : Type 0} (o : Option A) (xs : List A) (x : A) → last_or o (xs ++ x ∷ []) ≡ Some x
last_or-append o [] x = refl
last_or-append o (y ∷ ys) x = last_or-append (Some y) ys x

pub IsLast-added : (views : List Kept) (next : Kept) → IsLast (views ++ next ∷ []) next
IsLast-added views next = last_or-append None views next

FollowsOn-added : (view last next : Kept) (more : List Kept) → FollowsOn view more
    → last_or (Some view) more ≡ Some last → IsNextView last next → FollowsOn view (more ++ next ∷ [])
FollowsOn-added view last next [] follows is_last comes =
    (subst (λ (v : Kept). IsNextView v next) (sym (some_inj is_last)) comes, tt)
FollowsOn-added view last next (v ∷ more) follows is_last comes = (follows.0, FollowsOn-added v last next more follows.1 is_last comes)

-- a view that comes next makes a longer list of views
pub AreViews-added : (views : List Kept) (next : Kept) → AreViews views → ComesNext views next
    → AreViews (views ++ next ∷ [])
AreViews-added [] next are comes = absurd are
AreViews-added (opening ∷ more) next are (last, is_last, is_next) = FollowsOn-added opening last next more are is_last is_next

-- one more entry is one more in the count
count-append_entry : (view : Kept) (entry : Entry) → (append_entry view entry).count ≡ view.count + 1
count-append_entry view (CommitOf commit) = refl
count-append_entry view (ConfirmOf confirm) = refl
count-append_entry view (ScheduledOf waiting) = refl
count-append_entry view (ClearedOf cleared) = refl

count-next : (view next : Kept) → IsNextView view next → next.count ≡ view.count + 1
count-next view next (entry, is) = ap (λ (k : Kept). k.count) is ∙ count-append_entry view entry

-- the count of the n-th view is the opening's and n
pub count-nth : (view nth : Kept) (more : List Kept) (n : ℕ) → FollowsOn view more
    → slice_get (view ∷ more) n ≡ Some nth → nth.count ≡ view.count + n
count-nth view nth more zero follows is = let same : view ≡ nth = cc is in omega (arith, ap (λ (k : Kept). k.count) same)
count-nth view nth [] (suc n) follows is = absurd (cc is)
count-nth view nth (v ∷ more) (suc n) follows is = omega (arith, count-nth v nth more n follows.1 is, count-next view v follows.0)

-- the count of the last view is the opening's and as many as there are views after the opening's
pub count-last : (view last : Kept) (more : List Kept) → FollowsOn view more → last_or (Some view) more ≡ Some last
    → last.count ≡ view.count + length more
count-last view last [] follows is = let same : view ≡ last = some_inj is in omega (arith, ap (λ (k : Kept). k.count) same)
count-last view last (v ∷ more) follows is = omega (arith, count-last v last more follows.1 is, count-next view v follows.0)

-- a list of views is no longer than its last one has entries, but for the opening's
pub length-views : (views : List Kept) (last : Kept) → AreViews views → IsLast views last
    → length views ≤ last.count + 1
length-views [] last are is = absurd are
length-views (opening ∷ more) last are is = omega (arith, count-last opening last more are is)

last_count-prefix : (view last later : Kept) (one more : List Kept) → FollowsOn view (one ++ more)
    → last_or (Some view) one ≡ Some last → last_or (Some view) (one ++ more) ≡ Some later → last.count ≤ later.count
last_count-prefix view last later [] more follows is is_later =
    let same : view ≡ last = some_inj is in omega (arith, ap (λ (k : Kept). k.count) same, count-last view later more follows is_later)
last_count-prefix view last later (v ∷ one) more follows is is_later =
    last_count-prefix v last later one more follows.1 is is_later

-- a longer list of views shows no smaller front
pub count-prefix : (one two : List Kept) (last later : Kept) → AreViews two → IsPrefix one two → IsLast one last
    → IsLast two later → last.count ≤ later.count
count-prefix [] two last later are (more, is) is_last is_later = absurd (cc is_last)
count-prefix (view ∷ one) two last later are (more, is) is_last is_later =
    last_count-prefix view last later one more (subst AreViews (sym is) are) is_last (ap (last_or None) is ∙ is_later)

-- the last view is what the entries leave that lead to it
pub entries-last : (view last : Kept) (more : List Kept) → FollowsOn view more → last_or (Some view) more ≡ Some last
    → (entries : List Entry) × (length entries ≡ length more) × (last ≡ after_entries view entries)
entries-last view last [] follows is = ([], refl, sym (some_inj is))
entries-last view last (v ∷ more) follows is =
    let rest = entries-last v last more follows.1 is in
    let entry = follows.0.0 in (
      entry ∷ rest.0,
      ap suc rest.1,
      rest.2 ∙ ap (λ (k : Kept). after_entries k rest.0) follows.0.1,
    )

-- the same of equal lists and views
pub ComesNext-same : (views views' : List Kept) (next next' : Kept) → views ≡ views' → next ≡ next'
    → ComesNext views' next' → ComesNext views next
ComesNext-same views views' next next' same_views same_next comes =
    subst (λ (p : List Kept × Kept). ComesNext p.0 p.1) (λ i. (sym same_views i, sym same_next i)) comes

-- a list whose last view has so few entries has room for one more view
pub length-room : (views seen : List Kept) (last shown : Kept) (front : ℕ) → AreViews views → IsLast views last
    → seen ≡ views → shown ≡ last → front ≡ shown.count → front ≤ MAX_ENTRIES + 1
    → length seen < 2 ^ 63
length-room views seen last shown front are is same_list same_view is_front within =
    let shorter : length seen ≤ last.count + 1 =
    omega (arith, length-views views last are is, ap (λ (l : List Kept). length l) same_list) in
    omega (arith, shorter, ap (λ (k : Kept). k.count) same_view, is_front, within)

-- a list with the view that comes next after it
pub Views-added : (views kept seen after : List Kept) (next value : Kept) → AreViews views → views ≡ kept
    → ComesNext kept next → seen ≡ views → value ≡ next → after ≡ seen ++ value ∷ []
    → AreViews after × IsLast after next
Views-added views kept seen after next value are same comes again is_value is_after =
    let whole : after ≡ views ++ next ∷ [] = is_after ∙ (λ i. again i ++ is_value i ∷ []) in (
      subst AreViews (sym whole) (AreViews-added views next are (ComesNext-same views kept next next same refl comes)),
      subst (λ (l : List Kept). IsLast l next) (sym whole) (IsLast-added views next),
    )
