-- What a line of a loaded text asks, it asks in configuration mode.
use Rattle.std.proofs.Common.{◌≡◌, ◌<◌, ◌⊎◌, inl, inr, List, [], ◌∷◌, ◌++◌, length, map, drop, true, false, Some, Ok, refl, sym, ap, subst, ◌∙◌, arith, lit<}
use Rattle.std.specs.List.{list_all, AllByRecursion, Contains}
use Rattle.std.proofs.lemmas.Bool.{and_parts, and_from}
use Rattle.std.proofs.lemmas.List.{length-map}
use Rattle.cfg_base.specs.Words.{same_word}
use Rattle.commands.specs.declared.command.Command.TheVariants as command
use Rattle.commands.specs.declared.command.Op.{Op}
use Rattle.commands.specs.declared.mover.Mover.{Mover}
use Rattle.commands.specs.declared.mover.Mover.TheVariants.{Rename, Copy, InsertBefore, InsertAfter}
use Rattle.commands.specs.declared.verb.Verb.{Verb}
use Rattle.commands.specs.declared.verb.Verb.TheVariants.{Set, Delete, Activate, Deactivate, Protect, Unprotect}
use Rattle.commands.specs.Mover as moves
use Rattle.commands.specs.Verb.{op_of}
use Rattle.cfg_lex.specs.declared.token.TokenKind.{TokenKind}
use Rattle.cfg_lex.specs.declared.token.TokenKind.TheVariants as kind
use Rattle.cfg_lex.specs.Lexed.{Lexed, is_bare_word, is_word_kind, is_open_bracket, is_close_bracket}
use Rattle.set_text.proofs.Names.{LineForm, one_list, two_lists, all_forms}
use Rattle.set_text.specs.Form.{keyword_of, form_of, kinds_of, words_among, IsPlain, IsBracketed, AreTwoLists, AsksBehind, Spells}
use Rattle.shell_words.proofs.Names.{change_key, move_key, mark_key, any, neither, plain, bracketed, around, last_run}
use Rattle.shell_words.specs.declared.making.Words0.TheVariants.{Whole}
use Rattle.shell_words.specs.Item.{Item}
use Rattle.shell_words.specs.Form.{is_keyword, is_mark, is_of, parts_of, forms_of}
use Rattle.shell_words.specs.Reading.{AsksByForm}
use Rattle.line_laws.proofs.TokenLemmas.{tokens_of, kinds_in, words_in, AreWords, split, kinds_told, words_by_kind, words_all, bracketed_words}
use Rattle.line_laws.proofs.RowLemmas.{at_row, found_in, names_are, neither_words, mark_found, IsApart, two_sides}

-- tokens of a line that ask this change in configuration mode
abbrev pub IsTyped : List Item → Op → Type 0
IsTyped items change = AsksByForm true items (Ok (Some (Whole (command.Change change))))

plain_typed : (verb : Verb) → Contains (forms_of true) (plain verb) → (first : Item) (behind : List Item) (change : Op) → is_keyword (change_key verb) first ≡ true → AreWords behind → 0 < length behind → change ≡ op_of verb (words_in behind) → IsTyped (first ∷ behind) change
plain_typed verb served first [] change is all some asked = absurd (omega arith)
plain_typed verb served first (item ∷ items) change is all some asked =
    let both = and_parts (is_of any item) (list_all (is_of any) items) all in
    record {
      form = plain verb;
      words = words_in (item ∷ items);
      line = record {
        served = served;
        fits = record {
          first = first;
          rest = item ∷ items;
          others = words_in (item ∷ items);
          joined = refl;
          given = refl;
          is = is;
          behind = record { first = item; rest = items; others = words_in items; joined = refl; given = refl; is = both.0; behind = last_run (drop 3 (parts_of (plain verb))) items (refl, refl) both.1 };
        };
      };
      is = ap (λ c. Ok (Some (Whole (command.Change c)))) asked;
    }

bracketed_typed : (verb : Verb) → Contains (forms_of true) (bracketed verb) → (first : Item) (front : List Item) (opening : Item) (inside : List Item) (closing : Item) (change : Op) → is_keyword (change_key verb) first ≡ true → AreWords front → is_open_bracket opening.token.kind ≡ true → AreWords inside → 0 < length inside → is_close_bracket closing.token.kind ≡ true → change ≡ op_of verb (words_in front ++ (words_in inside ++ [])) → IsTyped (first ∷ (front ++ opening ∷ (inside ++ closing ∷ []))) change
bracketed_typed verb served first front opening [] closing change is before opens all some closes asked = absurd (omega arith)
bracketed_typed verb served first front opening (item ∷ items) closing change is before opens all some closes asked =
    let both = and_parts (is_of any item) (list_all (is_of any) items) all in
    let inside : List Item = item ∷ items in
    record {
      form = bracketed verb;
      words = words_in front ++ (words_in inside ++ []);
      line = record {
        served = served;
        fits = record {
          first = first;
          rest = front ++ opening ∷ (inside ++ closing ∷ []);
          others = words_in front ++ (words_in inside ++ []);
          joined = refl;
          given = refl;
          is = is;
          behind = record {
            run = front;
            rest = opening ∷ (inside ++ closing ∷ []);
            others = words_in inside ++ [];
            joined = refl;
            given = refl;
            all = before;
            behind = record {
              first = opening;
              rest = inside ++ closing ∷ [];
              others = words_in inside ++ [];
              joined = refl;
              given = refl;
              is = opens;
              behind = record {
                first = item;
                rest = items ++ closing ∷ [];
                others = words_in items ++ [];
                joined = refl;
                given = refl;
                is = both.0;
                behind = record {
                  run = items;
                  rest = closing ∷ [];
                  others = [];
                  joined = refl;
                  given = refl;
                  all = both.1;
                  behind = record { first = closing; rest = []; others = []; joined = refl; given = refl; is = closes; behind = (refl, refl) };
                };
              };
            };
          };
        };
      };
      is = ap (λ c. Ok (Some (Whole (command.Change c)))) asked;
    }

around_typed : (mover one other : Mover) → IsApart mover one other → Contains (forms_of true) (around mover one other) → (first : Item) (front : List Item) (mark : Item) (back : List Item) (change : Op) → is_keyword (move_key mover) first ≡ true → list_all (is_of (neither one other)) front ≡ true → 0 < length front → is_mark (mark_key mover) mark ≡ true → AreWords back → 0 < length back → change ≡ moves.op_of mover (words_in front) (words_in back) → IsTyped (first ∷ (front ++ mark ∷ back)) change
around_typed mover one other apart served first [] mark back change is names some marked all more asked = absurd (omega arith)
around_typed mover one other apart served first (name ∷ front) mark [] change is names some marked all more asked = absurd (omega arith)
around_typed mover one other apart served first (name ∷ front) mark (item ∷ items) change is names some marked all more asked =
    let named = and_parts (is_of (neither one other) name) (list_all (is_of (neither one other)) front) names in
    let both = and_parts (is_of any item) (list_all (is_of any) items) all in
    record {
      form = around mover one other;
      words = name.token.word ∷ (words_in front ++ words_in (item ∷ items));
      line = record {
        served = served;
        fits = record {
          first = first;
          rest = name ∷ (front ++ mark ∷ item ∷ items);
          others = name.token.word ∷ (words_in front ++ words_in (item ∷ items));
          joined = refl;
          given = refl;
          is = is;
          behind = record {
            first = name;
            rest = front ++ mark ∷ item ∷ items;
            others = words_in front ++ words_in (item ∷ items);
            joined = refl;
            given = refl;
            is = named.0;
            behind = record {
              run = front;
              rest = mark ∷ item ∷ items;
              others = words_in (item ∷ items);
              joined = refl;
              given = refl;
              all = named.1;
              behind = record {
                first = mark;
                rest = item ∷ items;
                others = words_in (item ∷ items);
                joined = refl;
                given = refl;
                is = marked;
                behind = record { first = item; rest = items; others = words_in items; joined = refl; given = refl; is = both.0; behind = last_run (drop 6 (parts_of (around mover one other))) items (refl, refl) both.1 };
              };
            };
          };
        };
      };
      is = ap (λ c. Ok (Some (Whole (command.Change c)))) (asked ∙ sym (two_sides mover one other apart first (name ∷ front) mark (item ∷ items) is names marked));
    }

-- the lines of a form of set lines are lines of configuration mode
abbrev RowTyped : LineForm → Type 0
RowTyped form = (first : Item) (behind : List Item) (change : Op) → is_word_kind first.token.kind ≡ true → same_word (keyword_of form) first.token.word ≡ true → AsksBehind form (tokens_of behind) change → IsTyped (first ∷ behind) change

some_kinds : (items : List Item) → 0 < length (kinds_in items) → 0 < length items
some_kinds [] some = some
some_kinds (item ∷ items) some = omega arith

words_typed : (verb : Verb) → Contains (forms_of true) (plain verb) → (first : Item) (behind : List Item) (change : Op) → is_word_kind first.token.kind ≡ true → same_word (keyword_of (one_list verb false)) first.token.word ≡ true → IsPlain (kinds_in behind) → change ≡ op_of verb (words_among (tokens_of behind)) → IsTyped (first ∷ behind) change
words_typed verb served first behind change word same tail asked =
    let all : AreWords behind = sym (words_by_kind behind) ∙ tail.words in
    plain_typed verb served first behind change (and_from (is_word_kind first.token.kind) (same_word (keyword_of (one_list verb false)) first.token.word) word same) all (some_kinds behind tail.some) (asked ∙ ap (op_of verb) (words_all behind all))

without : (verb : Verb) → Contains (forms_of true) (plain verb) → RowTyped (one_list verb false)
without verb served first behind change word same asked = words_typed verb served first behind change word same asked.0 asked.1

kinds_words : (items : List Item) (kinds : List TokenKind) → map (λ (item : Item). item.token.kind) items ≡ kinds → list_all is_word_kind kinds ≡ true → AreWords items
kinds_words items kinds e all = sym (words_by_kind items) ∙ ap (list_all is_word_kind) (kinds_told items ∙ e) ∙ all

-- with the tokens of brackets among those after the keyword
record IsSplit (behind : List Item) (front inside : List TokenKind) : Type 0 where
  ahead : List Item
  opening : Item
  within : List Item
  closing : Item
  joined : behind ≡ ahead ++ opening ∷ (within ++ closing ∷ [])
  first : map (λ (item : Item). item.token.kind) ahead ≡ front
  opens : opening.token.kind ≡ kind.OpenBracket
  middle : map (λ (item : Item). item.token.kind) within ≡ inside
  closes : closing.token.kind ≡ kind.CloseBracket

abbrev kind_told : Item → TokenKind
kind_told item = item.token.kind

one_left : (items : List Item) (k : TokenKind) → map kind_told items ≡ k ∷ [] → (item : Item) × (items ≡ item ∷ []) × (item.token.kind ≡ k)
one_left [] k e = cc
one_left (item ∷ []) k e = (item, refl, cc)
one_left (item ∷ next ∷ items) k e = cc

split_brackets : (behind : List Item) (front inside : List TokenKind) → kinds_in behind ≡ front ++ kind.OpenBracket ∷ (inside ++ kind.CloseBracket ∷ []) → IsSplit behind front inside
split_brackets behind front inside e =
    let cut = split kind_told behind front (kind.OpenBracket ∷ (inside ++ kind.CloseBracket ∷ [])) (sym (kinds_told behind) ∙ e) in
    from_open cut.ahead cut.behind cut.joined cut.first cut.last
  where
    from_open : (ahead left : List Item) → behind ≡ ahead ++ left → map kind_told ahead ≡ front → map kind_told left ≡ kind.OpenBracket ∷ (inside ++ kind.CloseBracket ∷ []) → IsSplit behind front inside
    from_open ahead [] joined first last = cc
    from_open ahead (opening ∷ left) joined first last =
        let opens : opening.token.kind ≡ kind.OpenBracket = cc in
        let rest : map kind_told left ≡ inside ++ kind.CloseBracket ∷ [] = cc in
        let more = split kind_told left inside (kind.CloseBracket ∷ []) rest in
        let end = one_left more.behind kind.CloseBracket more.last in
        record {
          ahead = ahead;
          opening = opening;
          within = more.ahead;
          closing = end.0;
          joined = joined ∙ ap (λ is. ahead ++ opening ∷ is) (more.joined ∙ ap (λ is. more.ahead ++ is) end.1);
          first = first;
          opens = opens;
          middle = more.first;
          closes = end.2;
        }

some_told : (items : List Item) (kinds : List TokenKind) → map kind_told items ≡ kinds → 0 < length kinds → 0 < length items
some_told items kinds e some = omega (arith, length-map items kind_told, ap length e, some)

brackets_typed : (verb : Verb) → Contains (forms_of true) (bracketed verb) → (first : Item) (behind : List Item) (change : Op) → is_word_kind first.token.kind ≡ true → same_word (keyword_of (one_list verb true)) first.token.word ≡ true → IsBracketed (kinds_in behind) → change ≡ op_of verb (words_among (tokens_of behind)) → IsTyped (first ∷ behind) change
brackets_typed verb served first behind change word same tail asked =
    let cut = split_brackets behind tail.front tail.inside tail.joined in
    let before : AreWords cut.ahead = kinds_words cut.ahead tail.front cut.first tail.front_words in
    let within : AreWords cut.within = kinds_words cut.within tail.inside cut.middle tail.inside_words in
    let is = and_from (is_word_kind first.token.kind) (same_word (keyword_of (one_list verb true)) first.token.word) word same in
    subst (λ is. IsTyped (first ∷ is) change) (sym cut.joined)
    (bracketed_typed verb served first cut.ahead cut.opening cut.within cut.closing change is before (ap is_open_bracket cut.opens) within
    (some_told cut.within tail.inside cut.middle tail.some) (ap is_close_bracket cut.closes)
    (asked ∙ ap (λ is. op_of verb (words_among (tokens_of is))) cut.joined
    ∙ ap (op_of verb) (bracketed_words cut.ahead cut.within cut.opening cut.closing before within (ap is_word_kind cut.opens) (ap is_word_kind cut.closes))))

with_brackets : (verb : Verb) → Contains (forms_of true) (plain verb) → Contains (forms_of true) (bracketed verb) → RowTyped (one_list verb true)
with_brackets verb served other first behind change word same (inl tail, asked) = words_typed verb served first behind change word same tail asked
with_brackets verb served other first behind change word same (inr tail, asked) = brackets_typed verb other first behind change word same tail asked

abbrev token_told : Item → Lexed
token_told item = item.token

-- words, a mark of this kind and words
sides_typed : (mover one other : Mover) → IsApart mover one other → Contains (forms_of true) (around mover one other) → (first : Item) (behind : List Item) (change : Op) → is_keyword (move_key mover) first ≡ true → (tail : AreTwoLists one other (tokens_of behind) change) → tail.mover ≡ mover → is_mark (mark_key mover) (record { token = tail.mark; place = 0 }) ≡ true → IsTyped (first ∷ behind) change
sides_typed mover one other apart served first behind change is tail same marked =
    let cut = split token_told behind tail.front (tail.mark ∷ tail.behind) tail.joined in
    from_mark cut.ahead cut.behind cut.joined cut.first cut.last
  where
    from_mark : (ahead left : List Item) → behind ≡ ahead ++ left → tokens_of ahead ≡ tail.front → tokens_of left ≡ tail.mark ∷ tail.behind → IsTyped (first ∷ behind) change
    from_mark ahead [] joined front last = cc
    from_mark ahead (mark ∷ back) joined front last =
        let here : mark.token ≡ tail.mark = cc in
        let rest : tokens_of back ≡ tail.behind = cc in
        let names : list_all (is_of (neither one other)) ahead ≡ true = sym (names_are one other ahead) ∙ ap (list_all _) front ∙ tail.names in
        let all : AreWords back = sym (words_by_kind back) ∙ ap (λ parts. list_all is_word_kind (kinds_of parts)) rest ∙ tail.words.words in
        let some : 0 < length ahead = omega (arith, length-map ahead token_told, ap length front, tail.some) in
        let more : 0 < length back = some_kinds back (subst (λ parts. 0 < length (kinds_of parts)) (sym rest) tail.words.some) in
        subst (λ is. IsTyped (first ∷ is) change) (sym joined)
        (around_typed mover one other apart served first ahead mark back change is names some (subst (λ (part : Lexed). is_mark (mark_key mover) (record { token = part; place = 0 }) ≡ true) (sym here) marked) all more
        (tail.asked
        ∙ ap (λ m. moves.op_of m (words_among tail.front) (words_among tail.behind)) same
        ∙ ap (λ parts. moves.op_of mover (words_among parts) (words_among tail.behind)) (sym front)
        ∙ ap (λ parts. moves.op_of mover (words_among (tokens_of ahead)) (words_among parts)) (sym rest)
        ∙ ap (λ ws. moves.op_of mover ws (words_among (tokens_of back))) (words_all ahead (neither_words one other ahead names))
        ∙ ap (moves.op_of mover (words_in ahead)) (words_all back all)))

-- a form of two marks is two rows of configuration mode, with one keyword
two_marks : (one other : Mover) → moves.keyword one ≡ moves.keyword other → IsApart one one other → Contains (forms_of true) (around one one other) → IsApart other one other → Contains (forms_of true) (around other one other) → RowTyped (two_lists one other)
two_marks one other same apart served apart_too served_too first behind change word is tail =
    by_mark (mark_found one other tail.mover tail.mark tail.marked)
  where
    by_mark : ((one ≡ tail.mover) × (is_bare_word (moves.mark one) tail.mark ≡ true)) ⊎ ((other ≡ tail.mover) × (is_bare_word (moves.mark other) tail.mark ≡ true)) → IsTyped (first ∷ behind) change
    by_mark (inl found) = sides_typed one one other apart served first behind change (and_from (is_word_kind first.token.kind) (same_word (moves.keyword one) first.token.word) word is) tail (sym found.0) found.1
    by_mark (inr found) =
        sides_typed other one other apart_too served_too first behind change
        (and_from (is_word_kind first.token.kind) (same_word (moves.keyword other) first.token.word) word (subst (λ w. same_word w first.token.word ≡ true) same is)) tail (sym found.0) found.1

-- where each row stands in the table of configuration mode
rows_typed : AllByRecursion RowTyped all_forms
unfolding forms_of
rows_typed = (
  with_brackets Set (0, lit< tt, refl) (1, lit< tt, refl),
  (
    with_brackets Delete (2, lit< tt, refl) (3, lit< tt, refl),
    (
      without Activate (4, lit< tt, refl),
      (
        without Deactivate (5, lit< tt, refl),
        (
          without Protect (6, lit< tt, refl),
          (
            without Unprotect (7, lit< tt, refl),
            (
              two_marks Rename Rename refl (record { keyword = refl; names = refl }) (45, lit< tt, refl) (record { keyword = refl; names = refl }) (45, lit< tt, refl),
              (
                two_marks Copy Copy refl (record { keyword = refl; names = refl }) (46, lit< tt, refl) (record { keyword = refl; names = refl }) (46, lit< tt, refl),
                (
                  two_marks InsertBefore InsertAfter refl (record { keyword = refl; names = refl }) (47, lit< tt, refl) (record { keyword = refl; names = refl }) (48, lit< tt, refl),
                  tt,
                ),
              ),
            ),
          ),
        ),
      ),
    ),
  ),
)

-- a line of a form of set lines
pub typed : (items : List Item) (change : Op) → Spells (tokens_of items) change → IsTyped items change
typed [] change line = let none = line.joined in cc
typed (first ∷ behind) change line =
    let joined = line.joined in
    let here : first.token ≡ line.first = cc in
    let rest : tokens_of behind ≡ line.rest = cc in
    let found = found_in (λ (form : LineForm). same_word (keyword_of form) first.token.word) all_forms line.form (ap (λ (p : Lexed). form_of p.word) here ∙ line.begun) in
    at_row RowTyped all_forms rows_typed line.form found.0 first behind change (ap (λ (p : Lexed). is_word_kind p.kind) here ∙ line.word) found.1
    (subst (λ parts. AsksBehind line.form parts change) (sym rest) line.asked)
