-- What the carrier shows to readers once a slot was published, and where it wasn't.
use Rattle.std.proofs.Common.{◌≡◌, ◌++◌, ◌∷◌, [], List, ℕ, Option, Some, None, MatchOption, true, fold, ap, sym, subst, ◌∙◌, Result, Ok, Err, MatchResult, refl}
use Rattle.std.specs.Result.{is_ok}
use Rattle.commit_ledger.specs.Kept.{Kept}
use Rattle.active_snapshot.specs.States.{FrontView}
use Rattle.active_snapshot.specs.Views.{AreFirst}

-- of operations each of which takes the place of what was there, the last one stays
pub fold_last : {A : Type 0} (start : A) (older : List A) (last : A) → fold (λ before next. next) start (older ++ last ∷ []) ≡ last
fold_last start [] last = refl
fold_last start (x ∷ xs) last = fold_last x xs last

-- a publish that succeeds shows the slot that was appended last
pub last_shown : {U E : Type 0} (P : U → Type 0) (Q : E → Type 0) (result : Result U E) (shown start slot : FrontView) (pending older : List FrontView) → is_ok result ≡ true
    → MatchResult result (λ u. (shown ≡ fold (λ before next. next) start pending) × P u) Q → pending ≡ older ++ slot ∷ [] → shown ≡ slot
last_shown P Q (Ok _) shown start slot pending older ok values is =
    values.0 ∙ (ap (λ operations. fold (λ (before next : FrontView). next) start operations) is ∙ fold_last start older slot)
last_shown P Q (Err _) shown start slot pending older ok values is = absurd (cc ok)

-- what is shown still are still the first views of the list, so many
pub still_first : {W : Type 0} (shown : W → FrontView) (count : ℕ) (views : List Kept) (old new : Option W)
    → MatchOption old ⊥ (λ o. MatchOption new ⊥ (λ n. shown n ≡ shown o)) → MatchOption old ⊥ (λ o. AreFirst count views (shown o).list)
    → MatchOption new ⊥ (λ n. AreFirst count views (shown n).list)
still_first shown count views None new kept first = absurd first
still_first shown count views (Some o) None kept first = absurd kept
still_first shown count views (Some o) (Some n) kept first = subst (λ (b : FrontView). AreFirst count views b.list) (sym kept) first
