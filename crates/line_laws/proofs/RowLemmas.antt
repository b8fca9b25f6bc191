-- The rows of both tables that make changes, and what is known of their marks.
use Rattle.std.proofs.Common.{◌≡◌, ◌⊎◌, inl, inr, zero, List, [], ◌∷◌, ◌++◌, length, filter, drop, Bool, true, false, not, cond, ◌&&◌, ◌||◌, None, Some, is_none, refl, sym, ap, subst, ◌∙◌, arith}
use Rattle.std.specs.Prelude.{find}
use Rattle.std.specs.List.{list_all, AllByRecursion, Contains}
use Rattle.std.proofs.lemmas.Bool.{and_parts}
use Rattle.std.proofs.lemmas.List.{take_at, drop_at}
use Rattle.commands.specs.declared.mover.Mover.{Mover}
use Rattle.commands.specs.Mover as moves
use Rattle.cfg_base.specs.Words.{same_word}
use Rattle.cfg_lex.specs.declared.token.TokenKind.TheVariants as kind
use Rattle.cfg_lex.specs.Lexed.{Lexed, lexed, is_word_kind, is_bare_kind, is_bare_word}
use Rattle.set_text.specs.Form.{mover_of, is_name}
use Rattle.shell_words.proofs.Names.{mark_key, move_key, any, neither, keyword_of, mark_of}
use Rattle.shell_words.specs.Item.{Item}
use Rattle.shell_words.specs.Form.{is_keyword, is_mark, is_of}
use Rattle.shell_words.specs.Pair.{tokens_before, words_behind_first, change_in}
use Rattle.shell_words.proofs.FormTests.{disjoint}
use Rattle.shell_words.proofs.SymbolLemmas.{same_is}
use Rattle.shell_words.proofs.ApartLemmas.{split_contains}
use Rattle.shell_words.proofs.ReadingLemmas.{later}
use Rattle.shell_words.proofs.PairLemmas.{no_mark, passes_by, all_pass, before_is}
use Rattle.line_laws.proofs.TokenLemmas.{tokens_of, words_in, AreWords}

-- what holds of all holds of each
pub at_row : {X : Type 0} (P : X → Type 0) (xs : List X) → AllByRecursion P xs → (x : X) → Contains xs x → P x
at_row P [] rows x listed = absurd (omega (arith, listed.1))
at_row P (first ∷ xs) rows x listed =
    elim (split_contains first xs x listed) as (λ w. P x) [
      | inl same ↦ subst P same rows.0
      | inr there ↦ at_row P xs rows.1 x there
    ]

-- what holds of those that pass a test and of those that don't holds of each
pub at_tested : {X : Type 0} (P : X → Type 0) (test : X → Bool) (xs : List X) → AllByRecursion P (filter test xs) → ((x : X) → test x ≡ false → P x) → (x : X) → Contains xs x → P x
at_tested P test [] rows others x listed = absurd (omega (arith, listed.1))
at_tested P test (first ∷ xs) rows others x listed =
    elim (test first) as (λ t. test first ≡ t → AllByRecursion P (cond t (first ∷ filter test xs) (filter test xs)) → P x) [
      | true ↦ λ e held.
          elim (split_contains first xs x listed) as (λ w. P x) [
            | inl same ↦ subst P same held.0
            | inr there ↦ at_tested P test xs held.1 others x there
          ]
      | false ↦ λ e held.
          elim (split_contains first xs x listed) as (λ w. P x) [
            | inl same ↦ subst P same (others first e)
            | inr there ↦ at_tested P test xs held others x there
          ]
    ] refl rows

-- what is found is one of the list, and passes
pub found_in : {X : Type 0} (test : X → Bool) (xs : List X) (x : X) → find test xs ≡ Some x → Contains xs x × (test x ≡ true)
found_in test [] x e = cc
found_in test (first ∷ xs) x e =
    elim (test first) as (λ t. test first ≡ t → cond t (Some first) (find test xs) ≡ Some x → Contains (first ∷ xs) x × (test x ≡ true)) [
      | true ↦ λ passes is.
          let same : first ≡ x = cc in
          ((zero, omega arith, same), subst (λ y. test y ≡ true) same passes)
      | false ↦ λ fails is. let on = found_in test xs x is in (later first xs x on.0, on.1)
    ] refl e

-- the names of the one reader are those of the other
none_is : (a b : Bool) (one other : Mover) → is_none (cond a (Some one) (cond b (Some other) None)) ≡ not (a || b)
none_is true b one other = refl
none_is false true one other = refl
none_is false false one other = refl

pub names_are : (one other : Mover) (items : List Item) → list_all (is_name one other) (tokens_of items) ≡ list_all (is_of (neither one other)) items
names_are one other [] = refl
names_are one other (item ∷ items) =
    ap (λ t. (is_word_kind item.token.kind && t) && list_all (is_name one other) (tokens_of items)) (none_is (is_mark (mark_key one) item) (is_mark (mark_key other) item) one other)
    ∙ ap (λ t. is_of (neither one other) item && t) (names_are one other items)

pub neither_words : (one other : Mover) (items : List Item) → list_all (is_of (neither one other)) items ≡ true → AreWords items
neither_words one other [] all = refl
neither_words one other (item ∷ items) all =
    let both = and_parts (is_of (neither one other) item) (list_all (is_of (neither one other)) items) all in
    let word = (and_parts (is_word_kind item.token.kind) (not (is_mark (mark_key one) item || is_mark (mark_key other) item)) both.0).0 in
    ap (λ t. t && list_all (is_of any) items) word ∙ neither_words one other items both.1

-- a part is the mark of the one kind or of the other
pub mark_found : (one other mover : Mover) (part : Lexed) → mover_of one other part ≡ Some mover
    → ((one ≡ mover) × (is_bare_word (moves.mark one) part ≡ true)) ⊎ ((other ≡ mover) × (is_bare_word (moves.mark other) part ≡ true))
mark_found one other mover part e = by_tests (is_bare_word (moves.mark one) part) (is_bare_word (moves.mark other) part) e
  where
    by_tests : (a b : Bool) → cond a (Some one) (cond b (Some other) None) ≡ Some mover → ((one ≡ mover) × (a ≡ true)) ⊎ ((other ≡ mover) × (b ≡ true))
    by_tests true b is = inl (cc, refl)
    by_tests false true is = inr (cc, refl)
    by_tests false false is = cc

-- a mark of a kind is found
pub mark_is : (one other mover : Mover) (part : Lexed) → mover_of one other (lexed kind.Bare (moves.mark mover)) ≡ Some mover → is_bare_word (moves.mark mover) part ≡ true → mover_of one other part ≡ Some mover
mark_is one other mover part own is =
    let both = and_parts (is_bare_kind part.kind) (same_word (moves.mark mover) part.word) is in
    ap (λ t. cond (t && same_word (moves.mark one) part.word) (Some one) (cond (t && same_word (moves.mark other) part.word) (Some other) None)) both.0
    ∙ ap (λ word. cond (same_word (moves.mark one) word) (Some one) (cond (same_word (moves.mark other) word) (Some other) None)) (sym (same_is (moves.mark mover) part.word both.1))
    ∙ own

-- what is known of a row with a mark: neither its keyword nor a name is the mark
pub record IsApart (mover one other : Mover) : Type 0 where
  pub keyword : disjoint (keyword_of mover) (mark_of mover) ≡ true
  pub names : disjoint (neither one other) (mark_of mover) ≡ true

-- the change of two statements that a line asks
pub two_sides : (mover one other : Mover) → IsApart mover one other → (first : Item) (front : List Item) (mark : Item) (back : List Item) → is_keyword (move_key mover) first ≡ true → list_all (is_of (neither one other)) front ≡ true → is_mark (mark_key mover) mark ≡ true → change_in mover (first ∷ (front ++ mark ∷ back)) ≡ moves.op_of mover (words_in front) (words_in back)
two_sides mover one other apart first front mark back is names marked =
    let items : List Item = first ∷ (front ++ mark ∷ back) in
    let none : list_all (no_mark (mark_key mover)) (first ∷ front) ≡ true =
    ap (λ t. t && list_all (no_mark (mark_key mover)) front) (passes_by (mark_key mover) (keyword_of mover) first apart.keyword is)
    ∙ all_pass (mark_key mover) (neither one other) front apart.names names in
    let size : tokens_before (mark_key mover) items ≡ length (first ∷ front) = before_is (mark_key mover) (first ∷ front) back mark none marked in
    ap (λ ws. moves.op_of mover (words_behind_first ws) (words_behind_first (drop (tokens_before (mark_key mover) items) items))) (take_at (first ∷ front) (mark ∷ back) (tokens_before (mark_key mover) items) (sym size))
    ∙ ap (λ ws. moves.op_of mover (words_in front) (words_behind_first ws)) (drop_at (first ∷ front) (mark ∷ back) (tokens_before (mark_key mover) items) (sym size))
