-- What is kept, put together as the records of a checkpoint.
use Rattle.std.proofs.Common.{◌≡◌, ◌≤◌, ◌-◌, ◌∙◌, ap, sym, List, ℕ, [], ◌∷◌, ◌++◌, length, take, drop, get_or, map, append_assoc, length-append, arith, Option, Some, None, refl, subst, ◌+◌}
use Rattle.std.proofs.lemmas.List.{map-append, take_all}
use Rattle.record_code.specs.Record.{Record}
use Rattle.commit_ledger.specs.declared.entry.Commit.{Commit}
use Rattle.commit_ledger.specs.declared.entry.Scheduled.{Scheduled}
use Rattle.commit_ledger.specs.declared.entry.Entry.TheVariants.{Commit as CommitOf}
use Rattle.commit_ledger.specs.Kept.{Kept, commits_of}
use Rattle.commit_ledger.specs.Payload.{HasShortText, commit_bytes, form_of, scheduled_bytes, scheduled_form}
use Rattle.commit_ledger.specs.Checkpoint.{HaveShortTexts, checkpoint, commit_record, far_target, first_number, keep_bytes, keep_form, keep_record, listed, plain_checkpoint, stated, target_number, waiting_records, without}

pub commit_is : (commit : Commit) (payload : List ℕ) (image : List Record) → payload ≡ commit_bytes (form_of commit)
    → image ++ record { kind = 4; payload = payload } ∷ [] ≡ image ++ commit_record commit ∷ []
commit_is commit payload image is =
    let path : image ++ record { kind = 4; payload = payload } ∷ [] ≡ image ++ commit_record commit ∷ [] = ap (λ (p : List ℕ). image ++ record { kind = 4; payload = p } ∷ []) is in
    path

-- commits from their first one on
pub first_and_rest : (commits : List Commit) (first : Commit) → first ≡ get_or commits 0 first → 1 ≤ length commits → commits ≡ first ∷ take (length commits - 1) (drop 1 commits)
first_and_rest [] first is some = absurd (omega (arith, some))
first_and_rest (c ∷ commits) first is some =
    sym (ap (λ (d : Commit). d ∷ take (length (c ∷ commits) - 1) commits) is ∙ ap (λ (l : List Commit). c ∷ l) (take_all (length (c ∷ commits) - 1) commits (omega arith)))

-- one more row of them
pub more_records : (commits rest : List Commit) (first : Commit) (image longer e : List Record) → commits ≡ first ∷ rest → longer ≡ image ++ commit_record first ∷ []
    → e ≡ longer ++ map commit_record rest → e ≡ image ++ map commit_record commits
more_records commits rest first image longer e cut one is =
    is ∙ ap (λ (l : List Record). l ++ map commit_record rest) one ∙ append_assoc image (commit_record first ∷ []) (map commit_record rest)
    ∙ ap (λ (l : List Commit). image ++ map commit_record l) (sym cut)

-- the record of a scheduled commit
pub waiting_is : (waiting : Scheduled) (payload : List ℕ) (image : List Record) → payload ≡ scheduled_bytes (scheduled_form waiting)
    → image ++ record { kind = 5; payload = payload } ∷ [] ≡ image ++ waiting_records (Some waiting)
waiting_is waiting payload image is =
    let path : image ++ record { kind = 5; payload = payload } ∷ [] ≡ image ++ waiting_records (Some waiting) = ap (λ (p : List ℕ). image ++ record { kind = 5; payload = p } ∷ []) is in
    path

-- the texts of what is kept
short_front : (xs ys : List Commit) → HaveShortTexts (xs ++ ys) → HaveShortTexts xs
short_front [] ys each = tt
short_front (x ∷ xs) ys each = (each.0, short_front xs ys each.1)

short_back : (xs ys : List Commit) → HaveShortTexts (xs ++ ys) → HaveShortTexts ys
short_back [] ys each = each
short_back (x ∷ xs) ys each = short_back xs ys each.1

module _ (kept : Kept) (short : HaveShortTexts (listed kept)) where
  abbrev far : List Commit
  far = far_target (first_number kept) kept.pending

  short_kept : HaveShortTexts (commits_of kept)
  short_kept = short_back far (commits_of kept) short

  pub short_older : HaveShortTexts kept.older
  short_older = short_front kept.older (kept.last ∷ []) short_kept

  pub short_last : HasShortText (CommitOf kept.last)
  short_last = (short_back kept.older (kept.last ∷ []) short_kept).0

-- a scheduled commit changes the count alone
listed_stated : (kept : Kept) → listed (stated kept) ≡ listed kept
listed_stated kept = by kept.scheduled
  where
    by : (scheduled : Option Scheduled) → listed (without scheduled kept) ≡ listed kept
    by None = refl
    by (Some w) = refl

form_stated : (kept : Kept) → record { count = (stated kept).count; target = target_number kept.pending; commits = length (listed kept) } ≡ keep_form (stated kept)
form_stated kept = by kept.scheduled
  where
    by : (scheduled : Option Scheduled) → record { count = (without scheduled kept).count; target = target_number kept.pending; commits = length (listed kept) } ≡ keep_form (without scheduled kept)
    by None = refl
    by (Some w) = refl

pub count_with : (kept view : Kept) (waiting : Scheduled) → view ≡ kept → view.scheduled ≡ Some waiting → view.count - 1 ≡ (stated kept).count
count_with kept view waiting same is = subst (λ (k : Kept). view.count - 1 ≡ (stated k).count) same (ap (λ (o : Option Scheduled). (without o view).count) (sym is))

pub count_without : (kept view : Kept) → view ≡ kept → view.scheduled ≡ None → view.count ≡ (stated kept).count
count_without kept view same is = subst (λ (k : Kept). view.count ≡ (stated k).count) same (ap (λ (o : Option Scheduled). (without o view).count) (sym is))

-- what the first record states
pub keep_is : (kept : Kept) (count target far older : ℕ) → count ≡ (stated kept).count → target ≡ target_number kept.pending → far ≡ length (far_target (first_number kept) kept.pending)
    → older ≡ length kept.older → record { count = count; target = target; commits = far + older + 1 } ≡ keep_form (stated kept)
keep_is kept count target far older counted aimed first rest =
    let commits : far + older + 1 ≡ length (listed kept) =
    omega (arith, first, rest, length-append (far_target (first_number kept) kept.pending) (commits_of kept), length-append kept.older (kept.last ∷ [])) in
    let path : record { count = count; target = target; commits = far + older + 1 } ≡ keep_form (stated kept) =
    ap (λ (n : ℕ). record { count = n; target = target; commits = far + older + 1 }) counted
    ∙ ap (λ (n : ℕ). record { count = (stated kept).count; target = n; commits = far + older + 1 }) aimed
    ∙ ap (λ (n : ℕ). record { count = (stated kept).count; target = target_number kept.pending; commits = n }) commits ∙ form_stated kept in
    path

pub image_is : (kept : Kept) (payload : List ℕ) (one two three four image : List Record) → payload ≡ keep_bytes (keep_form (stated kept)) → one ≡ record { kind = 3; payload = payload } ∷ []
    → two ≡ one ++ map commit_record (far_target (first_number kept) kept.pending) → three ≡ two ++ map commit_record kept.older → four ≡ three ++ commit_record kept.last ∷ []
    → image ≡ four ++ waiting_records kept.scheduled → image ≡ checkpoint kept
image_is kept payload one two three four image bytes first second third fourth last =
    let far : List Commit = far_target (first_number kept) kept.pending in
    let older : List Record = map commit_record kept.older in
    let end : List Record = commit_record kept.last ∷ [] in
    let keep : one ≡ keep_record (keep_form (stated kept)) ∷ [] = first ∙ ap (λ (p : List ℕ). record { kind = 3; payload = p } ∷ []) bytes in
    let fronts : two ≡ keep_record (keep_form (stated kept)) ∷ map commit_record far = second ∙ ap (λ (l : List Record). l ++ map commit_record far) keep in
    let rows : four ≡ (keep_record (keep_form (stated kept)) ∷ (map commit_record far ++ older)) ++ end =
    fourth ∙ ap (λ (l : List Record). l ++ end) (third ∙ ap (λ (l : List Record). l ++ older) fronts) in
    let mapped : map commit_record (listed kept) ≡ map commit_record far ++ (older ++ end) =
    map-append commit_record far (commits_of kept) ∙ ap (λ (l : List Record). map commit_record far ++ l) (map-append commit_record kept.older (kept.last ∷ [])) in
    let plain : four ≡ plain_checkpoint (stated kept) =
    rows ∙ ap (λ (l : List Record). keep_record (keep_form (stated kept)) ∷ l) (append_assoc (map commit_record far) older end ∙ sym mapped ∙ ap (map commit_record) (sym (listed_stated kept))) in
    last ∙ ap (λ (l : List Record). l ++ waiting_records kept.scheduled) plain
