-- The commits that are kept of a whole list.
use Rattle.std.proofs.Common.{◌≡◌, ◌≤◌, ◌+◌, ◌-◌, ℕ, List, [], ◌∷◌, ◌++◌, length, drop, sym, ◌∙◌, ap, arith, append_assoc, length-append, length-drop}
use Rattle.std.proofs.lemmas.List.{append-nil, drop-append-le, drop-drop}
use Rattle.commit_ledger.specs.declared.entry.Commit.{Commit}
use Rattle.commit_ledger.specs.declared.entry.Entry.{Entry}
use Rattle.commit_ledger.specs.declared.entry.Entry.TheVariants.{Commit as CommitOf, Confirm as ConfirmOf, Scheduled as ScheduledOf, Cleared as ClearedOf}
use Rattle.commit_ledger.specs.Kept.{Kept, newest, append_commit, append_confirm, append_scheduled, append_cleared, after_entries, commits_of, commits_in, kept_commits}

-- the newest of the newest with one more
newest_push : (commits : List Commit) (commit : Commit) → newest 49 (newest 49 commits ++ commit ∷ []) ≡ newest 49 (commits ++ commit ∷ [])
newest_push commits commit =
    let gone : ℕ = length commits - 49 in
    let size : length (drop gone commits ++ commit ∷ []) ≡ (length commits - gone) + 1 =
    length-append (drop gone commits) (commit ∷ []) ∙ ap (λ n. n + 1) (length-drop gone commits) in
    let all : length (commits ++ commit ∷ []) ≡ length commits + 1 = length-append commits (commit ∷ []) in
    let place : gone + (length (drop gone commits ++ commit ∷ []) - 49) ≡ length (commits ++ commit ∷ []) - 49 = omega (arith, size, all) in
    ap (λ l. drop (length (drop gone commits ++ commit ∷ []) - 49) l) (sym (drop-append-le gone commits (commit ∷ []) (omega arith)))
    ∙ drop-drop (length (drop gone commits ++ commit ∷ []) - 49) gone (commits ++ commit ∷ []) ∙ ap (λ n. drop n (commits ++ commit ∷ [])) place

newest_all : (commits : List Commit) (last : Commit) → newest 49 commits ++ last ∷ [] ≡ newest 50 (commits ++ last ∷ [])
newest_all commits last =
    let all : length (commits ++ last ∷ []) ≡ length commits + 1 = length-append commits (last ∷ []) in
    let place : length commits - 49 ≡ length (commits ++ last ∷ []) - 50 = omega (arith, all) in
    sym (drop-append-le (length commits - 49) commits (last ∷ []) (omega arith)) ∙ ap (λ n. drop n (commits ++ last ∷ [])) place

-- where the older commits are the newest of some, they are so after further entries, of those with the commits of the entries
window : (entries : List Entry) (kept : Kept) (before : List Commit) → kept.older ≡ newest 49 before → (all : List Commit) × ((after_entries kept entries).older ≡ newest 49 all)
    × (all ++ (after_entries kept entries).last ∷ [] ≡ (before ++ kept.last ∷ []) ++ commits_in entries)
window [] kept before is = (before, is, sym (append-nil (before ++ kept.last ∷ [])))
window (CommitOf commit ∷ entries) kept before is =
    let rest = window entries (append_commit kept commit) (before ++ kept.last ∷ []) (ap (λ l. newest 49 (l ++ kept.last ∷ [])) is ∙ newest_push before kept.last) in
    (rest.0, rest.1, rest.2 ∙ append_assoc (before ++ kept.last ∷ []) (commit ∷ []) (commits_in entries))
window (ConfirmOf confirm ∷ entries) kept before is = window entries (append_confirm kept confirm) before is
window (ScheduledOf waiting ∷ entries) kept before is = window entries (append_scheduled kept waiting) before is
window (ClearedOf cleared ∷ entries) kept before is = window entries (append_cleared kept cleared) before is

module _ (kept : Kept) (entries : List Entry) (few : kept_commits kept ≤ 50) where
  all_older : kept.older ≡ newest 49 kept.older
  all_older =
      let none_gone : length kept.older - 49 ≡ 0 = omega (arith, few) in
      sym (ap (λ n. drop n kept.older) none_gone)

  -- the last 50 commits of a list are kept
  pub fifty_are_kept : commits_of (after_entries kept entries) ≡ newest 50 (commits_of kept ++ commits_in entries)
  fifty_are_kept =
      let whole = window entries kept kept.older all_older in
      ap (λ l. l ++ (after_entries kept entries).last ∷ []) whole.1 ∙ newest_all whole.0 (after_entries kept entries).last ∙ ap (newest 50) whole.2

  -- and no more
  pub fifty_at_most : kept_commits (after_entries kept entries) ≤ 50
  fifty_at_most =
      let whole = window entries kept kept.older all_older in
      let size : length (after_entries kept entries).older ≡ length whole.0 - (length whole.0 - 49) = ap length whole.1 ∙ length-drop (length whole.0 - 49) whole.0 in
      omega (arith, size)
