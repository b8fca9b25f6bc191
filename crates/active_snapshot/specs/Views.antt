-- The list of views that are kept from an opening on; the last one is what is shown. This is the project's own.
use Rattle.std.specs.Prelude.{◌≡◌, ◌⊎◌, ⊤, ℕ, length, List, [], ◌∷◌, ◌++◌, Option, Some, None}
use Rattle.std.specs.List.{last_or}
use mathlib.Core.List.{IsPrefix}
use Rattle.commit_ledger.specs.declared.entry.Entry.{Entry}
use Rattle.commit_ledger.specs.Kept.{Kept, append_entry}

-- the view after one more entry
abbrev pub IsNextView : Kept → Kept → Type 0
IsNextView view next = (entry : Entry) × (next ≡ append_entry view entry)

-- each view after one is the view after one more entry than the view before it
abbrev pub FollowsOn : Kept → List Kept → Type 0
FollowsOn view [] = ⊤
FollowsOn view (next ∷ more) = IsNextView view next × FollowsOn next more

-- views from an opening's on: there is one, and each further one is after one more entry
abbrev pub AreViews : List Kept → Type 0
AreViews [] = ⊥
AreViews (opening ∷ more) = FollowsOn opening more

-- the last of the views, which is the one that is shown
abbrev pub IsLast : List Kept → Kept → Type 0
IsLast views view = last_or None views ≡ Some view

-- the view after one more entry than the last one
abbrev pub ComesNext : List Kept → Kept → Type 0
ComesNext views next = (last : Kept) × IsLast views last × IsNextView last next

-- the views with a proposal after them, where there is one
abbrev pub with_proposal : List Kept → Option Kept → List Kept
with_proposal views None = views
with_proposal views (Some next) = views ++ next ∷ []

-- these are the first views of a list, so many
abbrev pub AreFirst : ℕ → List Kept → List Kept → Type 0
AreFirst count views first = IsPrefix first views × (length first ≡ count)

-- the longer of two beginnings of one list
abbrev pub IsLonger : List Kept → List Kept → List Kept → Type 0
IsLonger one two longer = IsPrefix one longer × IsPrefix two longer × ((longer ≡ one) ⊎ (longer ≡ two))
