-- Fields one after another, each read in one way.
use Rattle.std.proofs.Common.{◌≡◌, ◌<◌, ◌^◌, ℕ, List, [], ◌∷◌, ◌++◌, length, refl, sym, ◌∙◌, ap, arith}
use Rattle.std.proofs.lemmas.List.{append-nil}
use Rattle.std.specs.Int.{w32, w64, to_be_bytes, from_be_bytes}
use Rattle.std.proofs.lemmas.Nat.{from_be_bytes-to_be_bytes_4, from_be_bytes-to_be_bytes_8}
use Rattle.commit_ledger.specs.declared.entry.Via.TheVariants.{Cli, Other}
use Rattle.commit_ledger.specs.declared.entry.Via.{Via}
use Rattle.cfg_tree.specs.Statements.{Statements}
use Rattle.commit_ledger.specs.declared.entry.Cleared.{Cleared}
use Rattle.commit_ledger.specs.declared.entry.Commit.{Commit}
use Rattle.commit_ledger.specs.declared.entry.Confirm.{Confirm}
use Rattle.commit_ledger.specs.declared.entry.Scheduled.{Scheduled}
use Rattle.commit_ledger.specs.Rules.{IsCommit, IsConfirm, IsScheduled, IsCleared}
use Rattle.commit_ledger.specs.Payload.{form_of, confirm_form, scheduled_form, cleared_form, CommitForm, ConfirmForm, ScheduledForm, commit_bytes, confirm_bytes, scheduled_bytes, CommitFits, ConfirmFits, ScheduledFits, short, long, via_byte}

-- two texts of one length, and what stands after them
pub same_cut : (xs ys r s : List ℕ) → length xs ≡ length ys → xs ++ r ≡ ys ++ s → (xs ≡ ys) × (r ≡ s)
same_cut [] [] r s size is = (refl, is)
same_cut [] (y ∷ ys) r s size is = absurd (omega (arith, size))
same_cut (x ∷ xs) [] r s size is = absurd (omega (arith, size))
same_cut (x ∷ xs) (y ∷ ys) r s size is =
    let tails : xs ++ r ≡ ys ++ s = cc in
    let head : x ≡ y = cc in
    let rest = same_cut xs ys r s (omega (arith, size)) tails in
    (ap (λ z. z ∷ xs) head ∙ ap (λ l. y ∷ l) rest.0, rest.1)

pub same_short : (xs ys r s : List ℕ) → short xs ++ r ≡ short ys ++ s → (xs ≡ ys) × (r ≡ s)
same_short xs ys r s is =
    let size : length xs ≡ length ys = cc in
    let rest : xs ++ r ≡ ys ++ s = cc in
    same_cut xs ys r s size rest

pub behind_64 : (m n : ℕ) (r s : List ℕ) → to_be_bytes w64 m ++ r ≡ to_be_bytes w64 n ++ s → r ≡ s
behind_64 m n r s is = (same_cut (to_be_bytes w64 m) (to_be_bytes w64 n) r s refl is).1

pub behind_32 : (m n : ℕ) (r s : List ℕ) → to_be_bytes w32 m ++ r ≡ to_be_bytes w32 n ++ s → r ≡ s
behind_32 m n r s is = (same_cut (to_be_bytes w32 m) (to_be_bytes w32 n) r s refl is).1

behind_one : (x y : ℕ) (r s : List ℕ) → x ∷ r ≡ y ∷ s → r ≡ s
behind_one x y r s is = cc

-- what stands after the four numbers
pub user_left : (bytes r1 r2 r3 r4 : List ℕ) (number moment minutes : ℕ) (via : Via) (f : CommitForm) → bytes ≡ to_be_bytes w64 number ++ r1 → r1 ≡ to_be_bytes w64 moment ++ r2 → r2 ≡ via_byte via ∷ r3
    → r3 ≡ to_be_bytes w32 minutes ++ r4 → bytes ≡ commit_bytes f → r4 ≡ short f.user ++ (short f.comment ++ (to_be_bytes w32 (length f.text) ++ f.text))
user_left bytes r1 r2 r3 r4 number moment minutes via f e1 e2 e3 e4 is =
    let s4 : List ℕ = short f.user ++ (short f.comment ++ (to_be_bytes w32 (length f.text) ++ f.text)) in
    let s3 : List ℕ = to_be_bytes w32 f.minutes ++ s4 in
    let s2 : List ℕ = via_byte f.via ∷ s3 in
    let s1 : List ℕ = to_be_bytes w64 f.moment ++ s2 in
    let one : r1 ≡ s1 = behind_64 number f.number r1 s1 (sym e1 ∙ is) in
    let two : r2 ≡ s2 = behind_64 moment f.moment r2 s2 (sym e2 ∙ one) in
    let three : r3 ≡ s3 = behind_one (via_byte via) (via_byte f.via) r3 s3 (sym e3 ∙ two) in
    behind_32 minutes f.minutes r4 s4 (sym e4 ∙ three)

pub short_left : (bytes rest text other more : List ℕ) → bytes ≡ short text ++ rest → bytes ≡ short other ++ more → rest ≡ more
short_left bytes rest text other more e is = (same_short text other rest more (sym e ∙ is)).1

-- one payload is of one form
number_64 : (m n : ℕ) → m < 2 ^ 64 → n < 2 ^ 64 → to_be_bytes w64 m ≡ to_be_bytes w64 n → m ≡ n
number_64 m n lm ln is = sym (from_be_bytes-to_be_bytes_8 m lm) ∙ ap (from_be_bytes w64) is ∙ from_be_bytes-to_be_bytes_8 n ln

number_32 : (m n : ℕ) → m < 2 ^ 32 → n < 2 ^ 32 → to_be_bytes w32 m ≡ to_be_bytes w32 n → m ≡ n
number_32 m n lm ln is = sym (from_be_bytes-to_be_bytes_4 m lm) ∙ ap (from_be_bytes w32) is ∙ from_be_bytes-to_be_bytes_4 n ln

one_via : (v w : Via) → via_byte v ≡ via_byte w → v ≡ w
one_via Cli Cli is = refl
one_via Other Other is = refl
one_via Cli Other is = absurd (omega (arith, is))
one_via Other Cli is = absurd (omega (arith, is))

heads : (x y : ℕ) (r s : List ℕ) → x ∷ r ≡ y ∷ s → x ≡ y
heads x y r s is = cc

same_form : (f g : CommitForm) → f.number ≡ g.number → f.moment ≡ g.moment → f.via ≡ g.via → f.minutes ≡ g.minutes → f.user ≡ g.user → f.comment ≡ g.comment → f.text ≡ g.text → f ≡ g
same_form f g a b c d e h i =
    let path : f ≡ g = ap (λ (z : ℕ). record { number = z; moment = f.moment; via = f.via; minutes = f.minutes; user = f.user; comment = f.comment; text = f.text }) a
    ∙ ap (λ (z : ℕ). record { number = g.number; moment = z; via = f.via; minutes = f.minutes; user = f.user; comment = f.comment; text = f.text }) b
    ∙ ap (λ (z : Via). record { number = g.number; moment = g.moment; via = z; minutes = f.minutes; user = f.user; comment = f.comment; text = f.text }) c
    ∙ ap (λ (z : ℕ). record { number = g.number; moment = g.moment; via = g.via; minutes = z; user = f.user; comment = f.comment; text = f.text }) d
    ∙ ap (λ (z : List ℕ). record { number = g.number; moment = g.moment; via = g.via; minutes = g.minutes; user = z; comment = f.comment; text = f.text }) e
    ∙ ap (λ (z : List ℕ). record { number = g.number; moment = g.moment; via = g.via; minutes = g.minutes; user = g.user; comment = z; text = f.text }) h
    ∙ ap (λ (z : List ℕ). record { number = g.number; moment = g.moment; via = g.via; minutes = g.minutes; user = g.user; comment = g.comment; text = z }) i in path

pub one_form : (f g : CommitForm) → CommitFits f → CommitFits g → commit_bytes f ≡ commit_bytes g → f ≡ g
one_form f g ff fg is =
    let first = same_cut (to_be_bytes w64 f.number) (to_be_bytes w64 g.number) _ _ refl is in
    let second = same_cut (to_be_bytes w64 f.moment) (to_be_bytes w64 g.moment) _ _ refl first.1 in
    let third = heads (via_byte f.via) (via_byte g.via) _ _ second.1 in
    let fourth = same_cut (to_be_bytes w32 f.minutes) (to_be_bytes w32 g.minutes) _ _ refl (behind_one _ _ _ _ second.1) in
    let fifth = same_short f.user g.user _ _ fourth.1 in
    let sixth = same_short f.comment g.comment _ _ fifth.1 in
    same_form f g (number_64 f.number g.number ff.number fg.number first.0) (number_64 f.moment g.moment ff.moment fg.moment second.0) (one_via f.via g.via third)
    (number_32 f.minutes g.minutes ff.minutes fg.minutes fourth.0) fifth.0 sixth.0 (behind_32 _ _ _ _ sixth.1)

-- a scheduled commit
pub waiting_left : (bytes r1 r2 r3 : List ℕ) (number moment at : ℕ) (f : ScheduledForm) → bytes ≡ to_be_bytes w64 number ++ r1 → r1 ≡ to_be_bytes w64 moment ++ r2 → r2 ≡ to_be_bytes w64 at ++ r3
    → bytes ≡ scheduled_bytes f → r3 ≡ short f.user ++ (short f.comment ++ long f.text)
waiting_left bytes r1 r2 r3 number moment at f e1 e2 e3 is =
    let s3 : List ℕ = short f.user ++ (short f.comment ++ long f.text) in
    let s2 : List ℕ = to_be_bytes w64 f.at ++ s3 in
    let s1 : List ℕ = to_be_bytes w64 f.moment ++ s2 in
    let one : r1 ≡ s1 = behind_64 number f.number r1 s1 (sym e1 ∙ is) in
    let two : r2 ≡ s2 = behind_64 moment f.moment r2 s2 (sym e2 ∙ one) in
    behind_64 at f.at r3 s3 (sym e3 ∙ two)

same_scheduled : (f g : ScheduledForm) → f.number ≡ g.number → f.moment ≡ g.moment → f.at ≡ g.at → f.user ≡ g.user → f.comment ≡ g.comment → f.text ≡ g.text → f ≡ g
same_scheduled f g a b c d e h =
    let path : f ≡ g = ap (λ (z : ℕ). record { number = z; moment = f.moment; at = f.at; user = f.user; comment = f.comment; text = f.text }) a
    ∙ ap (λ (z : ℕ). record { number = g.number; moment = z; at = f.at; user = f.user; comment = f.comment; text = f.text }) b
    ∙ ap (λ (z : ℕ). record { number = g.number; moment = g.moment; at = z; user = f.user; comment = f.comment; text = f.text }) c
    ∙ ap (λ (z : List ℕ). record { number = g.number; moment = g.moment; at = g.at; user = z; comment = f.comment; text = f.text }) d
    ∙ ap (λ (z : List ℕ). record { number = g.number; moment = g.moment; at = g.at; user = g.user; comment = z; text = f.text }) e
    ∙ ap (λ (z : List ℕ). record { number = g.number; moment = g.moment; at = g.at; user = g.user; comment = g.comment; text = z }) h in path

pub one_scheduled : (f g : ScheduledForm) → ScheduledFits f → ScheduledFits g → scheduled_bytes f ≡ scheduled_bytes g → f ≡ g
one_scheduled f g ff fg is =
    let first = same_cut (to_be_bytes w64 f.number) (to_be_bytes w64 g.number) _ _ refl is in
    let second = same_cut (to_be_bytes w64 f.moment) (to_be_bytes w64 g.moment) _ _ refl first.1 in
    let third = same_cut (to_be_bytes w64 f.at) (to_be_bytes w64 g.at) _ _ refl second.1 in
    let fourth = same_short f.user g.user _ _ third.1 in
    let fifth = same_short f.comment g.comment _ _ fourth.1 in
    same_scheduled f g (number_64 f.number g.number ff.number fg.number first.0) (number_64 f.moment g.moment ff.moment fg.moment second.0) (number_64 f.at g.at ff.at fg.at third.0)
    fourth.0 fifth.0 (behind_32 _ _ _ _ fifth.1)

-- a confirm
pub confirm_left : (bytes r1 r2 : List ℕ) (number moment : ℕ) (f : ConfirmForm) → bytes ≡ to_be_bytes w64 number ++ r1 → r1 ≡ to_be_bytes w64 moment ++ r2 → bytes ≡ confirm_bytes f → r2 ≡ short f.user
confirm_left bytes r1 r2 number moment f e1 e2 is =
    behind_64 moment f.moment r2 (short f.user) (sym e2 ∙ behind_64 number f.number r1 (to_be_bytes w64 f.moment ++ short f.user) (sym e1 ∙ is))

same_confirm : (f g : ConfirmForm) → f.number ≡ g.number → f.moment ≡ g.moment → f.user ≡ g.user → f ≡ g
same_confirm f g a b c =
    let path : f ≡ g = ap (λ (z : ℕ). record { number = z; moment = f.moment; user = f.user }) a
    ∙ ap (λ (z : ℕ). record { number = g.number; moment = z; user = f.user }) b
    ∙ ap (λ (z : List ℕ). record { number = g.number; moment = g.moment; user = z }) c in path

pub one_confirm : (f g : ConfirmForm) → ConfirmFits f → ConfirmFits g → confirm_bytes f ≡ confirm_bytes g → f ≡ g
one_confirm f g ff fg is =
    let first = same_cut (to_be_bytes w64 f.number) (to_be_bytes w64 g.number) _ _ refl is in
    let second = same_cut (to_be_bytes w64 f.moment) (to_be_bytes w64 g.moment) _ _ refl first.1 in
    let third = same_short f.user g.user [] [] (append-nil (short f.user) ∙ second.1 ∙ sym (append-nil (short g.user))) in
    same_confirm f g (number_64 f.number g.number ff.number fg.number first.0) (number_64 f.moment g.moment ff.moment fg.moment second.0) third.0

-- an entry's own ranges fit the places of its fields
pub commit_fits : (P : Statements → Type 0) (c : Commit) → IsCommit P c → CommitFits (form_of c)
commit_fits P c is = record {
  number = is.number.1;
  moment = omega (arith, is.moment);
  minutes = omega (arith, is.minutes);
  user = omega (arith, is.user.1);
  comment = omega (arith, is.comment.short);
  text = omega (arith, is.text);
}

pub confirm_fits : (c : Confirm) → IsConfirm c → ConfirmFits (confirm_form c)
confirm_fits c is = record { number = is.number.1; moment = omega (arith, is.moment); user = omega (arith, is.user.1) }

pub scheduled_fits : (P : Statements → Type 0) (w : Scheduled) → IsScheduled P w → ScheduledFits (scheduled_form w)
scheduled_fits P w is = record {
  number = is.number.1;
  moment = omega (arith, is.moment);
  at = omega (arith, is.at);
  user = omega (arith, is.user.1);
  comment = omega (arith, is.comment.short);
  text = omega (arith, is.text);
}

pub cleared_fits : (c : Cleared) → IsCleared c → ConfirmFits (cleared_form c)
cleared_fits c is = record { number = is.number.1; moment = omega (arith, is.moment); user = omega (arith, is.user.1) }
