-- A listing is one text, and how it grows by the lines of one commit more.
use Rattle.std.proofs.Common.{◌≡◌, ℕ, zero, suc, ◌+◌, ◌-◌, ◌<◌, arith, drop, get_or, length, refl, append_assoc, length-drop, length-append, List, [], ◌∷◌, ◌++◌, sym, ◌∙◌, ap}
use Rattle.commit_ledger.specs.declared.entry.Commit.{Commit}
use Rattle.commit_ledger.specs.Kept.{Kept}
use Rattle.commit_ledger.specs.Listing.{lines_of, all_lines, IsListing}

pub one_listing : (kept : Kept) (s t : List ℕ) → IsListing kept s → IsListing kept t → s ≡ t
one_listing kept s t one other = one ∙ sym other

-- a list from one place earlier on
drop_less : (k : ℕ) (commits : List Commit) (commit : Commit) → k < length commits → commit ≡ get_or commits (length commits - 1 - k) commit
    → drop (length commits - (k + 1)) commits ≡ commit ∷ drop (length commits - k) commits
drop_less k commits commit within is =
    let place : length commits - (k + 1) ≡ length commits - 1 - k = omega (arith, within) in
    let next : suc (length commits - 1 - k) ≡ length commits - k = omega (arith, within) in
    let early : length commits - 1 - k < length commits = omega (arith, within) in
    ap (λ i. drop i commits) place ∙ drop_at (length commits - 1 - k) commits commit early
    ∙ ap (λ c. c ∷ drop (suc (length commits - 1 - k)) commits) (sym is) ∙ ap (λ i. commit ∷ drop i commits) next
  where
    drop_at : (i : ℕ) (xs : List Commit) (x : Commit) → i < length xs → drop i xs ≡ get_or xs i x ∷ drop (suc i) xs
    drop_at i [] x small = absurd (omega (arith, small))
    drop_at zero (y ∷ xs) x small = refl
    drop_at (suc i) (y ∷ xs) x small = drop_at i xs x (omega (arith, small))

-- the lines of the commit before those that are listed stand after theirs
pub lines_more : (k : ℕ) (commits : List Commit) (last commit : Commit) (before after : List ℕ) → k < length commits → commit ≡ get_or commits (length commits - 1 - k) commit
    → before ≡ all_lines (drop (length commits - k) commits ++ last ∷ []) → after ≡ before ++ lines_of (k + 1) commit
    → after ≡ all_lines (drop (length commits - (k + 1)) commits ++ last ∷ [])
lines_more k commits last commit before after within is lists adds =
    adds ∙ ap (λ text. text ++ lines_of (k + 1) commit) lists
    ∙ ap (λ n. all_lines (drop (length commits - k) commits ++ last ∷ []) ++ lines_of n commit) count
    ∙ sym (ap (λ l. all_lines (l ++ last ∷ [])) (drop_less k commits commit within is))
  where
    count : k + 1 ≡ length (drop (length commits - k) commits ++ last ∷ [])
    count =
        let left : length (drop (length commits - k) commits) ≡ length commits - (length commits - k) = length-drop (length commits - k) commits in
        sym (length-append (drop (length commits - k) commits) (last ∷ []) ∙ omega (arith, left, within))

-- three pieces one after another
pub three : (t t1 t2 t3 a b c : List ℕ) → t1 ≡ t ++ a → t2 ≡ t1 ++ b → t3 ≡ t2 ++ c → t3 ≡ t ++ (a ++ (b ++ c))
three t t1 t2 t3 a b c first second third =
    third ∙ ap (λ l. l ++ c) (second ∙ ap (λ l. l ++ b) first ∙ append_assoc t a b) ∙ append_assoc t (a ++ b) c
    ∙ ap (λ l. t ++ l) (append_assoc a b c)
