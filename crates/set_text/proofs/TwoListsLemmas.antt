-- Words, a mark and words: how tokens fit them.
use Rattle.std.proofs.Common.{◌≡◌, ◌≢◌, ◌<◌, ◌+◌, ◌-◌, ◌&&◌, ℕ, Bool, true, false, List, [], ◌∷◌, ◌++◌, length, take, drop, Option, Some, None, is_none, refl, sym, ap, ◌∙◌, subst, append_assoc, length-append, get_or, arith, if◌then◌else◌}
use Rattle.std.specs.List.{list_all}
use Rattle.std.proofs.lemmas.Bool.{and_parts, and_from}
use Rattle.std.proofs.lemmas.List.{map-append, take_all, take_more, drop_more, take-append-drop, length-drop, length-map, length-take}
use lib.Seq.{take-add}
use Rattle.std.proofs.lemmas.List.Folds.{list_all-append}
use Rattle.commands.specs.declared.command.Op.{Op}
use Rattle.commands.specs.declared.mover.Mover.{Mover}
use Rattle.commands.specs.declared.mover.Mover.TheVariants.{Rename, Copy, InsertBefore, InsertAfter}
use Rattle.commands.specs.Mover as moves
use Rattle.cfg_lex.specs.declared.token.Token.{Token}
use Rattle.cfg_lex.specs.declared.token.TokenKind.{TokenKind}
use Rattle.cfg_lex.specs.declared.token.TokenKind.TheVariants as kind
use Rattle.cfg_lex.specs.Lexed.{Lexed, lexed_in, is_word_kind, is_bare_kind}
use Rattle.set_text.specs.declared.form.Form.TheVariants.{TwoLists}
use Rattle.set_text.specs.declared.fit.Fit.TheVariants.{Stops, More, Around}
use Rattle.set_text.specs.declared.phase.Phase.{Phase}
use Rattle.set_text.specs.declared.phase.Phase.TheVariants.{Bare}
use Rattle.set_text.specs.Form.{parts_in, kinds_of, mover_of, is_name, words_among, AreWords, IsPlain, AreTwoLists}
use Rattle.set_text.specs.Phase.{next, PhaseLeads, StopsFrom}
use Rattle.set_text.specs.Fit.{Reaches, AreNames, BeginsBehind, FitsBehind}
use Rattle.set_text.proofs.PhaseLemmas.{tail_of, tail_more, not_tail, not_tail_yet}
use Rattle.set_text.proofs.FormLemmas.{parts_of, kinds_of_parts, kinds_more, kinds_between, take_next}

same_first : (a b : Lexed) (xs ys : List Lexed) → a ∷ xs ≡ b ∷ ys → (a ≡ b) × (xs ≡ ys)
same_first a b xs ys e = (cc, cc)

same_some : {X : Type 0} (a b : X) → Some a ≡ Some b → a ≡ b
same_some a b e = cc

-- a word before the mark
abbrev pub Names : Mover → Mover → List Lexed → Type 0
Names one other parts = list_all (is_name one other) parts ≡ true

name_is_word : (one other : Mover) (part : Lexed) → is_name one other part ≡ true → is_word_kind part.kind ≡ true
name_is_word one other part name = (and_parts (is_word_kind part.kind) (is_none (mover_of one other part)) name).0

name_no_mark : (one other mover : Mover) (part : Lexed) → is_name one other part ≡ true → mover_of one other part ≡ Some mover → ⊥
name_no_mark one other mover part name marked =
    let none = (and_parts (is_word_kind part.kind) (is_none (mover_of one other part)) name).1 in
    let some : is_none (mover_of one other part) ≡ false = ap is_none marked in
    cc

-- a mark is a word
mark_kind : (k : TokenKind) (a b : Bool) (one other mover : Mover)
    → (if is_bare_kind k && a then Some one else (if is_bare_kind k && b then Some other else None)) ≡ Some mover → is_word_kind k ≡ true
mark_kind kind.OpenBrace a b one other mover e = absurd cc
mark_kind kind.CloseBrace a b one other mover e = absurd cc
mark_kind kind.OpenBracket a b one other mover e = absurd cc
mark_kind kind.CloseBracket a b one other mover e = absurd cc
mark_kind kind.Semicolon a b one other mover e = absurd cc
mark_kind kind.Bare a b one other mover e = refl
mark_kind kind.Quoted a b one other mover e = refl

mark_is_word : (one other mover : Mover) (part : Lexed) → mover_of one other part ≡ Some mover → is_word_kind part.kind ≡ true
mark_is_word one other mover part marked = mark_kind part.kind _ _ one other mover marked

abbrev mark_part : Mover → Lexed
mark_part mover = record { kind = kind.Bare; word = moves.mark mover }

abbrev name_part : Lexed
name_part = record { kind = kind.Quoted; word = [] }

own_mark : (one other : Mover) → mover_of one other (mark_part one) ≡ Some one
own_mark Rename other = refl
own_mark Copy other = refl
own_mark InsertBefore other = refl
own_mark InsertAfter other = refl

names_are_words : (one other : Mover) (parts : List Lexed) → Names one other parts → AreWords (kinds_of parts)
names_are_words one other [] names = refl
names_are_words one other (part ∷ parts) names =
    let both = and_parts (is_name one other part) (list_all (is_name one other) parts) names in
    and_from (is_word_kind part.kind) (list_all is_word_kind (kinds_of parts)) (name_is_word one other part both.0) (names_are_words one other parts both.1)

-- all parts of such a tail are words
two_lists_words : (one other : Mover) (parts : List Lexed) (change : Op) → AreTwoLists one other parts change → AreWords (kinds_of parts)
two_lists_words one other parts change it =
    let behind = and_from (is_word_kind it.mark.kind) (list_all is_word_kind (kinds_of it.behind)) (mark_is_word one other it.mover it.mark it.marked) it.words.words in
    ap (λ (ps : List Lexed). list_all is_word_kind (kinds_of ps)) it.joined
    ∙ ap (list_all is_word_kind) (map-append (λ (p : Lexed). p.kind) it.front (it.mark ∷ it.behind))
    ∙ list_all-append is_word_kind (kinds_of it.front) (kinds_of (it.mark ∷ it.behind))
    ∙ and_from (list_all is_word_kind (kinds_of it.front)) (list_all is_word_kind (kinds_of (it.mark ∷ it.behind))) (names_are_words one other it.front it.names) behind

-- the first mark is at one place
first_mark : (one other m n : Mover) (xs ys us vs : List Lexed) (x y : Lexed) → Names one other xs → Names one other ys → mover_of one other x ≡ Some m → mover_of one other y ≡ Some n → xs ++ x ∷ us ≡ ys ++ y ∷ vs → (xs ≡ ys) × (x ≡ y) × (us ≡ vs)
first_mark one other m n [] [] us vs x y a b marked again same =
    let first = same_first x y us vs same in (refl, first.0, first.1)
first_mark one other m n [] (z ∷ ys) us vs x y a b marked again same =
    let first = same_first x z us (ys ++ y ∷ vs) same in
    absurd (name_no_mark one other m z (and_parts (is_name one other z) (list_all (is_name one other) ys) b).0 (subst (λ (p : Lexed). mover_of one other p ≡ Some m) first.0 marked))
first_mark one other m n (z ∷ xs) [] us vs x y a b marked again same =
    let first = same_first z y (xs ++ x ∷ us) vs same in
    absurd (name_no_mark one other n z (and_parts (is_name one other z) (list_all (is_name one other) xs) a).0 (subst (λ (p : Lexed). mover_of one other p ≡ Some n) (sym first.0) again))
first_mark one other m n (w ∷ xs) (z ∷ ys) us vs x y a b marked again same =
    let first = same_first w z (xs ++ x ∷ us) (ys ++ y ∷ vs) same in
    let rest = first_mark one other m n xs ys us vs x y (and_parts (is_name one other w) (list_all (is_name one other) xs) a).1 (and_parts (is_name one other z) (list_all (is_name one other) ys) b).1 marked again first.1 in
    (ap (λ (p : Lexed). p ∷ xs) first.0 ∙ ap (λ (ps : List Lexed). z ∷ ps) rest.0, rest.1, rest.2)

-- such a tail asks one thing
pub two_lists_once : (first last : Mover) (parts : List Lexed) (one other : Op) → AreTwoLists first last parts one → AreTwoLists first last parts other → one ≡ other
two_lists_once first last parts one other a b =
    let same = first_mark first last a.mover b.mover a.front b.front a.behind b.behind a.mark b.mark a.names b.names a.marked b.marked (sym a.joined ∙ b.joined) in
    let mover : a.mover ≡ b.mover = same_some a.mover b.mover (sym a.marked ∙ ap (mover_of first last) same.1 ∙ b.marked) in
    a.asked
    ∙ ap (λ (m : Mover). moves.op_of m (words_among a.front) (words_among a.behind)) mover
    ∙ ap (λ (ps : List Lexed). moves.op_of b.mover (words_among ps) (words_among a.behind)) same.0
    ∙ ap (λ (ps : List Lexed). moves.op_of b.mover (words_among b.front) (words_among ps)) same.2
    ∙ sym b.asked

-- words without a mark
no_two_lists : (one other : Mover) (parts : List Lexed) (change : Op) → Names one other parts → AreTwoLists one other parts change → ⊥
no_two_lists one other parts change names it =
    let all = sym (list_all-append (is_name one other) it.front (it.mark ∷ it.behind)) ∙ ap (list_all (is_name one other)) (sym it.joined) ∙ names in
    let behind = (and_parts (list_all (is_name one other) it.front) (list_all (is_name one other) (it.mark ∷ it.behind)) all).1 in
    name_no_mark one other it.mover it.mark (and_parts (is_name one other it.mark) (list_all (is_name one other) it.behind) behind).0 it.marked

names_begun : (one other : Mover) (parts : List Lexed) → Names one other parts → BeginsBehind (TwoLists one other) parts
names_begun one other parts names = record {
  more = name_part ∷ mark_part one ∷ name_part ∷ [];
  change = moves.op_of one (words_among (parts ++ name_part ∷ [])) (words_among (name_part ∷ []));
  asked = record {
    front = parts ++ name_part ∷ [];
    mark = mark_part one;
    behind = name_part ∷ [];
    joined = sym (append_assoc parts (name_part ∷ []) (mark_part one ∷ name_part ∷ []));
    names = list_all-append (is_name one other) parts (name_part ∷ []) ∙ and_from (list_all (is_name one other) parts) (list_all (is_name one other) (name_part ∷ [])) names refl;
    some = omega (arith, length-append parts (name_part ∷ []));
    mover = one;
    marked = own_mark one other;
    words = record { words = refl; some = omega arith };
    asked = refl;
  };
}

-- no word stands before the mark
not_first : (one other : Mover) (part : Lexed) → is_name one other part ≡ false → BeginsBehind (TwoLists one other) (part ∷ []) → ⊥
not_first one other part none it = by_front it.asked.front it.asked.mark it.asked.behind it.asked.joined it.asked.names it.asked.some
  where
    by_front : (front : List Lexed) (mark : Lexed) (behind : List Lexed) → part ∷ it.more ≡ front ++ mark ∷ behind → Names one other front → 0 < length front → ⊥
    by_front [] mark behind joined names some = omega (arith, some)
    by_front (first ∷ front) mark behind joined names some =
        let name = (and_parts (is_name one other first) (list_all (is_name one other) front) names).0 in
        let same = same_first part first it.more (front ++ mark ∷ behind) joined in
        let e = sym none ∙ ap (is_name one other) same.0 ∙ name in cc

-- a part that is no word
not_word : (one other : Mover) (parts : List Lexed) (part : Lexed) → is_word_kind part.kind ≡ false → BeginsBehind (TwoLists one other) (parts ++ part ∷ []) → ⊥
not_word one other parts part none it =
    let words = two_lists_words one other ((parts ++ part ∷ []) ++ it.more) it.change it.asked in
    let split = sym (list_all-append is_word_kind (kinds_of parts) (part.kind ∷ kinds_of it.more)) ∙ ap (list_all is_word_kind) (sym (kinds_between parts part it.more)) ∙ words in
    let behind = (and_parts (list_all is_word_kind (kinds_of parts)) (list_all is_word_kind (part.kind ∷ kinds_of it.more)) split).1 in
    let word = (and_parts (is_word_kind part.kind) (list_all is_word_kind (kinds_of it.more)) behind).0 in
    let e = sym none ∙ word in cc

not_name_word : (word : Bool) (mover : Option Mover) → word && is_none mover ≡ false → mover ≡ None → word ≡ false
not_name_word true mover e none = absurd (let f = sym e ∙ ap is_none none in cc)
not_name_word false mover e none = refl

-- words, and a mark after them
record IsMarked (one other : Mover) (parts : List Lexed) (mark : Lexed) (mover : Mover) : Type 0 where
  names : Names one other parts
  some : 0 < length parts
  marked : mover_of one other mark ≡ Some mover

two_lists_of : (one other mover : Mover) (parts behind : List Lexed) (mark : Lexed) → IsMarked one other parts mark mover → IsPlain (kinds_of behind) → AreTwoLists one other (parts ++ mark ∷ behind) (moves.op_of mover (words_among parts) (words_among behind))
two_lists_of one other mover parts behind mark is plain = record {
  front = parts;
  mark = mark;
  behind = behind;
  joined = refl;
  names = is.names;
  some = is.some;
  mover = mover;
  marked = is.marked;
  words = plain;
  asked = refl;
}

plain_behind : (one other mover : Mover) (parts behind : List Lexed) (mark : Lexed) (change : Op) → IsMarked one other parts mark mover → AreTwoLists one other (parts ++ mark ∷ behind) change → IsPlain (kinds_of behind)
plain_behind one other mover parts behind mark change is it =
    let same = first_mark one other it.mover mover it.front parts it.behind behind it.mark mark it.names is.names it.marked is.marked (sym it.joined) in
    subst (λ (ps : List Lexed). IsPlain (kinds_of ps)) same.2 it.words

marked_begun : (one other mover : Mover) (parts behind : List Lexed) (mark : Lexed) (phase : Phase) → IsMarked one other parts mark mover → PhaseLeads false Bare (kinds_of behind) phase → BeginsBehind (TwoLists one other) (parts ++ mark ∷ behind)
marked_begun one other mover parts behind mark phase is leads =
    let on = tail_more false (kinds_of behind) phase leads in
    record {
      more = parts_of on.more;
      change = moves.op_of mover (words_among parts) (words_among (behind ++ parts_of on.more));
      asked = subst (λ (ps : List Lexed). AreTwoLists one other ps (moves.op_of mover (words_among parts) (words_among (behind ++ parts_of on.more)))) (sym (append_assoc parts (mark ∷ behind) (parts_of on.more)))
          (two_lists_of one other mover parts (behind ++ parts_of on.more) mark is (subst IsPlain (sym (kinds_more behind on.more)) on.tail));
    }

marked_not_begun : (one other mover : Mover) (parts behind : List Lexed) (mark part : Lexed) (phase : Phase) → IsMarked one other parts mark mover → PhaseLeads false Bare (kinds_of behind) phase → next false phase part.kind ≡ None → BeginsBehind (TwoLists one other) (parts ++ mark ∷ (behind ++ part ∷ [])) → ⊥
marked_not_begun one other mover parts behind mark part phase is leads none it =
    let plain = plain_behind one other mover parts ((behind ++ part ∷ []) ++ it.more) mark it.change is
    (subst (λ (ps : List Lexed). AreTwoLists one other ps it.change) (append_assoc parts (mark ∷ (behind ++ part ∷ [])) it.more) it.asked) in
    not_tail false (kinds_of behind) (kinds_of it.more) part.kind phase leads none (subst IsPlain (kinds_between behind part it.more) plain)

-- names up to a place, in tokens
pub two_lists_more : (text : List ℕ) (one other : Mover) (tokens : List Token) (count : ℕ) → AreNames text one other tokens count → count ≡ length tokens → FitsBehind text (TwoLists one other) tokens More
two_lists_more text one other tokens count are all =
    let names = subst (λ ts. Names one other (parts_in text ts)) (take_all count tokens (omega (arith, all))) are.names in
    (names_begun one other (parts_in text tokens) names, λ change it. no_two_lists one other (parts_in text tokens) change names it)

pub two_lists_first : (text : List ℕ) (one other : Mover) (tokens : List Token) (count : ℕ) → AreNames text one other tokens count → count ≢ length tokens → count ≡ 0 → FitsBehind text (TwoLists one other) tokens (Stops 1)
two_lists_first text one other [] count are some none = absurd (some none)
two_lists_first text one other (token ∷ tokens) count are some none = (
  0,
  refl,
  record {
    within = omega arith;
    begun = names_begun one other [] refl;
    not_more = not_first one other (lexed_in text token) (are.ends token tokens (ap (λ n. drop n (token ∷ tokens)) none));
  },
)

parts_next : (text : List ℕ) (tokens : List Token) (count : ℕ) (d : Token) → count < length tokens → parts_in text (take (count + 1) tokens) ≡ parts_in text (take count tokens) ++ lexed_in text (get_or tokens count d) ∷ []
parts_next text tokens count d within =
    ap (parts_in text) (take_more tokens count d within) ∙ map-append (lexed_in text) (take count tokens) (get_or tokens count d ∷ [])

pub two_lists_no_word : (text : List ℕ) (one other : Mover) (tokens : List Token) (count : ℕ) (d : Token) → AreNames text one other tokens count → count < length tokens → mover_of one other (lexed_in text (get_or tokens count d)) ≡ None → FitsBehind text (TwoLists one other) tokens (Stops (count + 1))
two_lists_no_word text one other tokens count d are within none =
    let no_name = are.ends (get_or tokens count d) (drop (count + 1) tokens) (drop_more tokens count d within) in
    let sign = not_name_word (is_word_kind (get_or tokens count d).kind) (mover_of one other (lexed_in text (get_or tokens count d))) no_name none in (
      count,
      refl,
      record {
        within = within;
        begun = names_begun one other (parts_in text (take count tokens)) are.names;
        not_more = λ it.
            not_word one other (parts_in text (take count tokens)) (lexed_in text (get_or tokens count d)) sign
            (subst (BeginsBehind (TwoLists one other)) (parts_next text tokens count d within) it);
      },
    )

-- the parts up to some after a token
parts_behind : (text : List ℕ) (tokens : List Token) (count n : ℕ) (d : Token) → count < length tokens
    → parts_in text (take (count + 1 + n) tokens) ≡ parts_in text (take count tokens) ++ lexed_in text (get_or tokens count d) ∷ parts_in text (take n (drop (count + 1) tokens))
parts_behind text tokens count n d within =
    ap (parts_in text)
    (take-add (count + 1) n tokens
    ∙ ap (λ ts. ts ++ take n (drop (count + 1) tokens)) (take_more tokens count d within)
    ∙ append_assoc (take count tokens) (get_or tokens count d ∷ []) (take n (drop (count + 1) tokens)))
    ∙ map-append (lexed_in text) (take count tokens) (get_or tokens count d ∷ take n (drop (count + 1) tokens))

parts_around : (text : List ℕ) (tokens : List Token) (count : ℕ) (d : Token) → count < length tokens
    → parts_in text tokens ≡ parts_in text (take count tokens) ++ lexed_in text (get_or tokens count d) ∷ parts_in text (drop (count + 1) tokens)
parts_around text tokens count d within =
    ap (parts_in text) (sym (take-append-drop count tokens) ∙ ap (λ ts. take count tokens ++ ts) (drop_more tokens count d within))
    ∙ map-append (lexed_in text) (take count tokens) (get_or tokens count d ∷ drop (count + 1) tokens)

-- what is left after a token
pub left_behind : (tokens : List Token) (count : ℕ) → take (length tokens - (count + 1)) (drop (count + 1) tokens) ≡ drop (count + 1) tokens
left_behind tokens count = take_all (length tokens - (count + 1)) (drop (count + 1) tokens) (omega (arith, length-drop (count + 1) tokens))

-- names, and a mark after them
pub record AreMarked (text : List ℕ) (one other : Mover) (tokens : List Token) (count : ℕ) (d : Token) (mover : Mover) : Type 0 where
  pub are : AreNames text one other tokens count
  pub some : count ≢ 0
  pub within : count < length tokens
  pub marked : mover_of one other (lexed_in text (get_or tokens count d)) ≡ Some mover

is_marked : (text : List ℕ) (one other mover : Mover) (tokens : List Token) (count : ℕ) (d : Token) → AreMarked text one other tokens count d mover → IsMarked one other (parts_in text (take count tokens)) (lexed_in text (get_or tokens count d)) mover
is_marked text one other mover tokens count d it = record {
  names = it.are.names;
  some = omega (arith, it.some, it.within, length-map (take count tokens) (lexed_in text), length-take count tokens);
  marked = it.marked;
}

pub marked_stops : (text : List ℕ) (one other mover : Mover) (tokens : List Token) (count place : ℕ) (d : Token) → AreMarked text one other tokens count d mover → StopsFrom false (drop (count + 1) tokens) place → FitsBehind text (TwoLists one other) tokens (Stops (count + 1 + place + 1))
marked_stops text one other mover tokens count place d it stops =
    let is = is_marked text one other mover tokens count d it in
    let leads = subst (λ ks. PhaseLeads false Bare ks stops.phase) (sym (kinds_of_parts text (take place (drop (count + 1) tokens)))) stops.leads in
    let next_parts : parts_in text (take (place + 1) (drop (count + 1) tokens)) ≡ parts_in text (take place (drop (count + 1) tokens)) ++ lexed_in text stops.token ∷ [] =
    ap (parts_in text) (take_next (drop (count + 1) tokens) stops.token stops.rest place stops.here)
    ∙ map-append (lexed_in text) (take place (drop (count + 1) tokens)) (stops.token ∷ []) in
    let whole : parts_in text (take (count + 1 + place + 1) tokens) ≡ parts_in text (take count tokens) ++ lexed_in text (get_or tokens count d) ∷ (parts_in text (take place (drop (count + 1) tokens)) ++ lexed_in text stops.token ∷ []) =
    ap (λ n. parts_in text (take n tokens)) (omega arith)
    ∙ parts_behind text tokens count (place + 1) d it.within
    ∙ ap (λ ps. parts_in text (take count tokens) ++ lexed_in text (get_or tokens count d) ∷ ps) next_parts in (
      count + 1 + place,
      refl,
      record {
        within = omega (arith, it.within, stops.within, length-drop (count + 1) tokens);
        begun = subst (BeginsBehind (TwoLists one other)) (sym (parts_behind text tokens count place d it.within))
            (marked_begun one other mover (parts_in text (take count tokens)) (parts_in text (take place (drop (count + 1) tokens))) (lexed_in text (get_or tokens count d)) stops.phase is leads);
        not_more = λ line.
            marked_not_begun one other mover (parts_in text (take count tokens)) (parts_in text (take place (drop (count + 1) tokens))) (lexed_in text (get_or tokens count d))
            (lexed_in text stops.token) stops.phase is leads stops.none (subst (BeginsBehind (TwoLists one other)) whole line);
      },
    )

pub marked_more : (text : List ℕ) (one other mover : Mover) (tokens : List Token) (count : ℕ) (d : Token) → AreMarked text one other tokens count d mover → Reaches false (drop (count + 1) tokens) false → FitsBehind text (TwoLists one other) tokens More
marked_more text one other mover tokens count d it reaches =
    let is = is_marked text one other mover tokens count d it in
    let leads = subst (λ ks. PhaseLeads false Bare ks reaches.phase) (sym (kinds_of_parts text (drop (count + 1) tokens))) reaches.leads in
    let whole = parts_around text tokens count d it.within in (
      subst (BeginsBehind (TwoLists one other)) (sym whole)
          (marked_begun one other mover (parts_in text (take count tokens)) (parts_in text (drop (count + 1) tokens)) (lexed_in text (get_or tokens count d)) reaches.phase is leads),
      λ change asked.
          not_tail_yet false (kinds_of (parts_in text (drop (count + 1) tokens))) reaches.phase leads reaches.ends_there
          (plain_behind one other mover (parts_in text (take count tokens)) (parts_in text (drop (count + 1) tokens)) (lexed_in text (get_or tokens count d)) change is
          (subst (λ (ps : List Lexed). AreTwoLists one other ps change) whole asked)),
    )

some_behind : (text : List ℕ) (tokens : List Token) → 0 < length (kinds_of (parts_in text tokens)) → 0 < length tokens
some_behind text [] some = some
some_behind text (token ∷ tokens) some = omega arith

pub marked_around : (text : List ℕ) (one other mover : Mover) (tokens : List Token) (count : ℕ) (d : Token) → AreMarked text one other tokens count d mover → Reaches false (drop (count + 1) tokens) true → FitsBehind text (TwoLists one other) tokens (Around mover (count + 1))
marked_around text one other mover tokens count d it reaches =
    let is = is_marked text one other mover tokens count d it in
    let leads = subst (λ ks. PhaseLeads false Bare ks reaches.phase) (sym (kinds_of_parts text (drop (count + 1) tokens))) reaches.leads in
    let plain = tail_of false (kinds_of (parts_in text (drop (count + 1) tokens))) reaches.phase leads reaches.ends_there in (
      count,
      refl,
      record {
        within = omega (arith, some_behind text (drop (count + 1) tokens) plain.some, length-drop (count + 1) tokens);
        asked =
            subst (λ (ps : List Lexed). AreTwoLists one other ps (moves.op_of mover (words_among (parts_in text (take count tokens))) (words_among (parts_in text (drop (count + 1) tokens)))))
            (sym (parts_around text tokens count d it.within))
            (two_lists_of one other mover (parts_in text (take count tokens)) (parts_in text (drop (count + 1) tokens)) (lexed_in text (get_or tokens count d)) is plain);
      },
    )
