-- Session words, read one after another.
use Rattle.std.proofs.Common.{◌≡◌, ℕ, zero, suc, ◌+◌, ◌<◌, Bool, true, false, ◌||◌, List, [], ◌∷◌, ◌++◌, length, take, drop, map, get_or, refl, sym, ap, ap₂, subst, ◌∙◌, arith}
use Rattle.std.specs.List.{All, AllByRecursion, IsDistinct, list_any}
use Rattle.std.specs.Cmp.{IsEquivalence, nat_eq_equiv}
use Rattle.std.specs.Cmp.Lexicographic.{lists_equiv, bytes_decides}
use Rattle.std.proofs.lemmas.List.{length-map}
use Rattle.std.proofs.lemmas.List.Elements.{All-push}
use Rattle.std.specs.Borrow.{Bor}
use Rattle.std.proofs.lemmas.Map.Keys.{IsDistinct-push, IsDistinct-head, IsDistinct-tail}
use Rattle.std.specs.BTreeSet.{BTreeSet, contains}
use Rattle.cfg_base.specs.Order.{word_cmp}
use Rattle.cfg_base.specs.Words.{same_word, lists, Knows}
use Rattle.clap.specs.Words.{Text}
use Rattle.command_line.specs.Asked.{AreSessions, IsSessionWord, file_in, user_in}

-- the first words are sessions, with these users and files
pub record Reads (words : List Text) (at : ℕ) (users files : List Text) (known : BTreeSet (List ℕ)) : Type 0 where
  pub each : All IsSessionWord (take at words)
  pub users_read : users ≡ map user_in (take at words)
  pub files_read : files ≡ map file_in (take at words)
  pub knows : Knows files known
  pub once : IsDistinct same_word files

words_equiv : IsEquivalence same_word
words_equiv = lists_equiv nat_eq_equiv

one_more : (n : ℕ) → n + 1 ≡ suc n
one_more n = omega arith

take_next : (words : List Text) (at : ℕ) (d : Text) → at < length words → take (suc at) words ≡ take at words ++ get_or words at d ∷ []
take_next [] at d less = absurd (omega (arith, less))
take_next (w ∷ words) zero d less = refl
take_next (w ∷ words) (suc at) d less = ap (λ ws. w ∷ ws) (take_next words at d (omega (arith, less)))

pub take_more : (words : List Text) (at : ℕ) (d : Text) → at < length words → take (at + 1) words ≡ take at words ++ get_or words at d ∷ []
take_more words at d less = ap (λ k. take k words) (one_more at) ∙ take_next words at d less

cut_at : (words : List Text) (at : ℕ) (d : Text) → at < length words → words ≡ take at words ++ get_or words at d ∷ drop (suc at) words
cut_at [] at d less = absurd (omega (arith, less))
cut_at (w ∷ words) zero d less = refl
cut_at (w ∷ words) (suc at) d less = ap (λ ws. w ∷ ws) (cut_at words at d (omega (arith, less)))

map_cut : (f : Text → Text) (front back : List Text) (w : Text) → map f (front ++ w ∷ back) ≡ map f front ++ f w ∷ map f back
map_cut f [] back w = refl
map_cut f (x ∷ front) back w = ap (λ ws. f x ∷ ws) (map_cut f front back w)

new_among : (x : Text) (front back : List Text) (w : Text) → AllByRecursion (λ y. same_word x y ≡ false) (front ++ w ∷ back) → same_word x w ≡ false
new_among x [] back w all = all.0
new_among x (y ∷ front) back w all = new_among x front back w all.1

apart : (x w : Text) → same_word x w ≡ false → same_word w x ≡ true → ⊥
apart x w other same =
    let e : w ≡ x = (bytes_decides w x).0 same in
    let bad : same_word x w ≡ true = (bytes_decides x w).1 (sym e) in
    cc

by_test : (x file : Text) (found b : Bool) → same_word x file ≡ false → (found ≡ true → ⊥) → same_word file x ≡ b → (b || found) ≡ true → ⊥
by_test x file found true other none is some = apart x file other is
by_test x file found false other none is some = none some

-- a file that comes again isn't the only one
comes_once : (files back : List Text) (file : Text) → IsDistinct same_word (files ++ file ∷ back) → lists files file ≡ true → ⊥
comes_once [] back file once found = cc
comes_once (x ∷ files) back file once found =
    by_test x file (lists files file) _ (new_among x files back file (IsDistinct-head same_word x (files ++ file ∷ back) once))
    (comes_once files back file (IsDistinct-tail same_word x (files ++ file ∷ back) once)) refl found

any_swapped : (x b c a : Bool) → b ≡ (c || a) → (x || b) ≡ (c || (x || a))
any_swapped true b true a is = refl
any_swapped true b false a is = refl
any_swapped false b c a is = is

any_push : (t : Text → Bool) (words : List Text) (w : Text) → list_any t (words ++ w ∷ []) ≡ (t w || list_any t words)
any_push t [] w = refl
any_push t (x ∷ words) w = any_swapped (t x) _ (t w) _ (any_push t words w)

pub nothing_read : (words users files : List Text) (known : BTreeSet (List ℕ)) → users ≡ [] → files ≡ [] → Knows [] known → Reads words 0 users files known
unfolding IsDistinct
nothing_read words users files known no_users no_files knows = record {
  each = λ k d less. absurd (omega (arith, less));
  users_read = no_users;
  files_read = no_files;
  knows = subst (λ fs. Knows fs known) (sym no_files) knows;
  once = subst (IsDistinct same_word) (sym no_files) tt;
}

pub inside : (ws : List (Bor Text)) (at : ℕ) → at < length ws → at < length (map (λ s. s.now) ws)
inside ws at less = let same = length-map ws (λ (s : Bor Text). s.now) in omega (arith, less, same)

pub there : (ws : List (Bor Text)) (at : ℕ) (d : Bor Text) → at < length ws → (get_or ws at d).now ≡ get_or (map (λ s. s.now) ws) at d.now
there [] at d less = refl
there (w ∷ ws) zero d less = refl
there (w ∷ ws) (suc at) d less = there ws at d (omega (arith, less))

module _ (words : List Text) (at : ℕ) (users files : List Text) (known : BTreeSet (List ℕ)) (read : Reads words at users files known)
    (d word : Text) (less : at < length words) (is_word : word ≡ get_or words at d) where
  files_around : map file_in words ≡ files ++ file_in word ∷ map file_in (drop (suc at) words)
  files_around =
      ap (map file_in) (cut_at words at d less) ∙ map_cut file_in (take at words) (drop (suc at) words) (get_or words at d)
      ∙ ap₂ (λ fs w. fs ++ file_in w ∷ map file_in (drop (suc at) words)) (sym read.files_read) (sym is_word)

  pub no_session : (IsSessionWord word → ⊥) → AreSessions words → ⊥
  no_session none are = none (subst IsSessionWord (sym is_word) (are.each at d less))

  pub no_new_file : (file : Text) → file ≡ file_in word → contains word_cmp known file ≡ true → AreSessions words → ⊥
  no_new_file file is found are =
      comes_once files (map file_in (drop (suc at) words)) (file_in word) (subst (IsDistinct same_word) files_around are.once)
      (subst (λ f. lists files f ≡ true) is (sym (read.knows file) ∙ found))

  next : take (at + 1) words ≡ take at words ++ word ∷ []
  next = take_more words at d less ∙ ap (λ w. take at words ++ w ∷ []) (sym is_word)

  push_map : (f : Text → Text) (so_far : List Text) (x : Text) → so_far ≡ map f (take at words) → x ≡ f word → so_far ++ x ∷ [] ≡ map f (take (at + 1) words)
  push_map f so_far x is e = ap₂ (λ xs y. xs ++ y ∷ []) is e ∙ sym (map_cut f (take at words) [] word) ∙ ap (map f) (sym next)

  one_read : (after : BTreeSet (List ℕ)) (user file : Text) → IsSessionWord word → user ≡ user_in word → file ≡ file_in word → contains word_cmp known file ≡ false
      → ((other : List ℕ) → contains word_cmp after other ≡ (same_word other file || contains word_cmp known other))
      → Reads words (at + 1) (users ++ user ∷ []) (files ++ file ∷ []) after
  one_read after user file is user_is file_is fresh knows = record {
    each = subst (All IsSessionWord) (sym next) (All-push IsSessionWord (take at words) word read.each is);
    users_read = push_map user_in users user read.users_read user_is;
    files_read = push_map file_in files file read.files_read file_is;
    knows = λ other. knows other ∙ ap (λ b. same_word other file || b) (read.knows other) ∙ sym (any_push (same_word other) files file);
    once = IsDistinct-push words_equiv files file read.once (sym (read.knows file) ∙ fresh);
  }

  pub one_more_read : (users_now files_now : List Text) (after : BTreeSet (List ℕ)) (user file : Text) → IsSessionWord word → user ≡ user_in word
      → file ≡ file_in word → contains word_cmp known file ≡ false
      → ((other : List ℕ) → contains word_cmp after other ≡ (same_word other file || contains word_cmp known other))
      → users_now ≡ users ++ user ∷ [] → files_now ≡ files ++ file ∷ [] → Reads words (at + 1) users_now files_now after
  one_more_read users_now files_now after user file is user_is file_is fresh knows users_are files_are =
      subst (λ us. Reads words (at + 1) us files_now after) (sym users_are)
      (subst (λ fs. Reads words (at + 1) (users ++ user ∷ []) fs after) (sym files_are) (one_read after user file is user_is file_is fresh knows))
