-- What is found at the front of a text is the lexeme that stands there, or the fault; and each lexeme and each fault is found.
use Rattle.std.proofs.Common.{◌≡◌, ◌<◌, ◌≤◌, ◌+◌, inl, inr, zero, suc, ℕ, List, [], ◌∷◌, ◌++◌, length, take, drop, eqb, ltb, ◌&&◌, Bool, true, false, not, cond, Option, None, Some, refl, sym, ap, subst, ◌∙◌, arith, length-append}
use Rattle.std.specs.List.{list_all, prefix_len}
use Rattle.std.proofs.lemmas.Bool.{false≢true, and_parts, and_from, not-true, eqb-true, eqb-false, ltb-true, ltb-false, lt-ltb, le-ltb, ne_eqb, eq-eqb, not-false}
use Rattle.std.proofs.lemmas.Bool.Decides.{nat_tests}
use Rattle.std.proofs.lemmas.List.{append_assoc, append-nil, take_at, drop_at}
use Rattle.cfg_lex.specs.declared.token.TokenKind.{TokenKind}
use Rattle.cfg_lex.specs.declared.token.TokenKind.TheVariants.{OpenBrace, CloseBrace, OpenBracket, CloseBracket, Semicolon, Bare, Quoted}
use Rattle.cfg_lex.specs.declared.fault.Cause.{Cause}
use Rattle.cfg_lex.specs.declared.fault.Cause.TheVariants.{BadByte, OpenComment, OpenQuote, LongWord}
use Rattle.cfg_lex.specs.declared.front.Front.{Front}
use Rattle.cfg_lex.specs.declared.front.Front.TheVariants.{Gap, Token, Fault}
use Rattle.cfg_lex.specs.Bytes.{begins_with, is_space, is_bare, is_in_line, is_angle_byte, is_printing, is_inside, is_in_run, is_run, sign_of, unescaped}
use Rattle.cfg_lex.specs.Lexeme.{Lexeme, Space, LineComment, Comment, Sign, BareWord, AngleWord, QuotedWord, spelled, kind_of, word_of, EndsLine, IsShaped, IsPrinting, Stands}
use Rattle.cfg_lex.specs.Tokens.{FaultAt, IsStray, IsNotPrinting}
use Rattle.cfg_lex.specs.Front.{close_of, quote_of, bare_len, word_front, bare_front, angle_front, quoted_front, quote_front, comment_front, sign_front, front_of}
use Rattle.cfg_lex.proofs.RunLemmas.{longest, longest_found, close_found, close_is, close_missing, not_closed, starts_with, quote_found, quote_is, run_is, run_found, run_whole}

at_true : (t : Bool) (x y : Front) → t ≡ true → cond t x y ≡ x
at_true t x y e = ap (λ s. cond s x y) e

at_false : (t : Bool) (x y : Front) → t ≡ false → cond t x y ≡ y
at_false t x y e = ap (λ s. cond s x y) e

-- what `front_of` asks of a byte, from each test on
abbrev after_comment : ℕ → List ℕ → Front
after_comment b rest = sign_front (sign_of b) (bare_front (bare_len (b ∷ rest)))

abbrev after_angle : ℕ → List ℕ → Front
after_angle b rest = cond (eqb b 47 && begins_with 42 rest) (comment_front (close_of (drop 1 rest))) (after_comment b rest)

abbrev after_quote : ℕ → List ℕ → Front
after_quote b rest = cond (eqb b 60) (angle_front (prefix_len is_angle_byte rest) rest) (after_angle b rest)

abbrev after_hash : ℕ → List ℕ → Front
after_hash b rest = cond (eqb b 34) (quote_front rest (quote_of false rest)) (after_quote b rest)

abbrev after_space : ℕ → List ℕ → Front
after_space b rest = cond (eqb b 35) (Gap (1 + prefix_len is_in_line rest)) (after_hash b rest)

-- what is found of a lexeme, by its shape alone
abbrev shape_front : Lexeme → Front
shape_front (Space byte) = Gap 1
shape_front (LineComment bytes) = Gap (1 + length bytes)
shape_front (Comment bytes) = Gap (length bytes + 4)
shape_front (Sign byte kind) = Token kind 1
shape_front (BareWord bytes) = word_front Bare (length bytes) (length bytes)
shape_front (AngleWord bytes) = word_front Bare (length bytes + 2) (length bytes + 2)
shape_front (QuotedWord bytes) = quoted_front bytes (prefix_len is_printing bytes)

-- a bare byte is none of the others
pub bare_is_no_space : (b : ℕ) → is_bare b ≡ true → is_space b ≡ false
bare_is_no_space b e = grind (arith, nat_tests)

bare_is_not : (b c : ℕ) → is_bare b ≡ true → is_bare c ≡ false → eqb b c ≡ false
bare_is_not b c e f = ne_eqb b c (λ same. false≢true (sym f ∙ ap is_bare (sym same) ∙ e))

pub bare_is_no_sign : (b : ℕ) → is_bare b ≡ true → sign_of b ≡ None
bare_is_no_sign b e =
    ap (λ t. cond t (Some OpenBrace) (cond (eqb b 125) (Some CloseBrace) (cond (eqb b 91) (Some OpenBracket) (cond (eqb b 93) (Some CloseBracket) (cond (eqb b 59) (Some Semicolon) None))))) (bare_is_not b 123 e refl)
    ∙ ap (λ t. cond t (Some CloseBrace) (cond (eqb b 91) (Some OpenBracket) (cond (eqb b 93) (Some CloseBracket) (cond (eqb b 59) (Some Semicolon) None)))) (bare_is_not b 125 e refl)
    ∙ ap (λ t. cond t (Some OpenBracket) (cond (eqb b 93) (Some CloseBracket) (cond (eqb b 59) (Some Semicolon) None))) (bare_is_not b 91 e refl)
    ∙ ap (λ t. cond t (Some CloseBracket) (cond (eqb b 59) (Some Semicolon) None)) (bare_is_not b 93 e refl)
    ∙ ap (λ t. cond t (Some Semicolon) None) (bare_is_not b 59 e refl)

-- a byte that is a sign
sign_case : (b d : ℕ) (own kind : TokenKind) (rest : List ℕ) → eqb b d ≡ true → Some own ≡ Some kind → front_of (d ∷ rest) ≡ Token own 1 → front_of (b ∷ rest) ≡ Token kind 1
sign_case b d own kind rest test same found =
    let is : own ≡ kind = cc in
    ap (λ c. front_of (c ∷ rest)) (eqb-true b d test) ∙ found ∙ ap (λ k. Token k 1) is

sign_found : (b : ℕ) (kind : TokenKind) (rest : List ℕ) → sign_of b ≡ Some kind → front_of (b ∷ rest) ≡ Token kind 1
sign_found b kind rest e =
    elim (eqb b 123) as (λ t. eqb b 123 ≡ t → cond t (Some OpenBrace) (cond (eqb b 125) (Some CloseBrace) (cond (eqb b 91) (Some OpenBracket) (cond (eqb b 93) (Some CloseBracket) (cond (eqb b 59) (Some Semicolon) None)))) ≡ Some kind → front_of (b ∷ rest) ≡ Token kind 1) [
      | true ↦ λ test s. sign_case b 123 OpenBrace kind rest test s refl
      | false ↦ λ n1 s1.
          elim (eqb b 125) as (λ t. eqb b 125 ≡ t → cond t (Some CloseBrace) (cond (eqb b 91) (Some OpenBracket) (cond (eqb b 93) (Some CloseBracket) (cond (eqb b 59) (Some Semicolon) None))) ≡ Some kind → front_of (b ∷ rest) ≡ Token kind 1) [
            | true ↦ λ test s. sign_case b 125 CloseBrace kind rest test s refl
            | false ↦ λ n2 s2.
                elim (eqb b 91) as (λ t. eqb b 91 ≡ t → cond t (Some OpenBracket) (cond (eqb b 93) (Some CloseBracket) (cond (eqb b 59) (Some Semicolon) None)) ≡ Some kind → front_of (b ∷ rest) ≡ Token kind 1) [
                  | true ↦ λ test s. sign_case b 91 OpenBracket kind rest test s refl
                  | false ↦ λ n3 s3.
                      elim (eqb b 93) as (λ t. eqb b 93 ≡ t → cond t (Some CloseBracket) (cond (eqb b 59) (Some Semicolon) None) ≡ Some kind → front_of (b ∷ rest) ≡ Token kind 1) [
                        | true ↦ λ test s. sign_case b 93 CloseBracket kind rest test s refl
                        | false ↦ λ n4 s4.
                            elim (eqb b 59) as (λ t. eqb b 59 ≡ t → cond t (Some Semicolon) None ≡ Some kind → front_of (b ∷ rest) ≡ Token kind 1) [
                              | true ↦ λ test s. sign_case b 59 Semicolon kind rest test s refl
                              | false ↦ λ n5 s5. absurd cc
                            ] refl s4
                      ] refl s3
                ] refl s2
          ] refl s1
    ] refl e

line_stops : (back : List ℕ) → EndsLine back → (b : ℕ) (bytes : List ℕ) → back ≡ b ∷ bytes → is_in_line b ≡ false
line_stops [] ends b bytes e = absurd cc
line_stops (c ∷ cs) ends b bytes e =
    let same : c ≡ b = cc in
    ap is_in_line (sym same ∙ ends)

angle_stops : (behind : List ℕ) (b : ℕ) (bytes : List ℕ) → 62 ∷ behind ≡ b ∷ bytes → is_angle_byte b ≡ false
angle_stops behind b bytes e =
    let same : 62 ≡ b = cc in
    ap is_angle_byte (sym same)

bare_found : (bytes behind : List ℕ) → IsShaped (BareWord bytes) behind → front_of (bytes ++ behind) ≡ word_front Bare (length bytes) (length bytes)
bare_found [] behind shaped = absurd (omega (arith, shaped.0))
bare_found (b ∷ bytes) behind shaped =
    let rest : List ℕ = bytes ++ behind in
    let parts = and_parts (is_in_run b bytes) (is_run bytes) shaped.1 in
    let whole = run_whole b bytes behind parts.0 shaped.2 in
    let here = and_parts (is_bare b) (not (eqb b 47 && begins_with 42 rest)) whole in
    at_false (is_space b) (Gap 1) (after_space b rest) (bare_is_no_space b here.0)
    ∙ at_false (eqb b 35) (Gap (1 + prefix_len is_in_line rest)) (after_hash b rest) (bare_is_not b 35 here.0 refl)
    ∙ at_false (eqb b 34) (quote_front rest (quote_of false rest)) (after_quote b rest) (bare_is_not b 34 here.0 refl)
    ∙ at_false (eqb b 60) (angle_front (prefix_len is_angle_byte rest) rest) (after_angle b rest) (bare_is_not b 60 here.0 refl)
    ∙ at_false (eqb b 47 && begins_with 42 rest) (comment_front (close_of (drop 1 rest))) (after_comment b rest) (not-true (eqb b 47 && begins_with 42 rest) here.1)
    ∙ ap (λ s. sign_front s (bare_front (bare_len (b ∷ rest)))) (bare_is_no_sign b here.0)
    ∙ ap bare_front (run_found (b ∷ bytes) behind shaped.1 shaped.2)
    ∙ at_false (eqb (length (b ∷ bytes)) 0) (Fault BadByte 0) (word_front Bare (length (b ∷ bytes)) (length (b ∷ bytes)))
    (ne_eqb (length (b ∷ bytes)) 0 (λ none. absurd (omega arith)))

angle_found : (bytes behind : List ℕ) → IsShaped (AngleWord bytes) behind → angle_front (prefix_len is_angle_byte (bytes ++ 62 ∷ behind)) (bytes ++ 62 ∷ behind) ≡ word_front Bare (length bytes + 2) (length bytes + 2)
angle_found bytes behind shaped =
    let rest : List ℕ = bytes ++ 62 ∷ behind in
    let size = longest_found is_angle_byte bytes (62 ∷ behind) shaped.1 (angle_stops behind) in
    ap (λ n. angle_front n rest) size
    ∙ at_true (ltb 0 (length bytes) && begins_with 62 (drop (length bytes) rest)) (word_front Bare (length bytes + 2) (length bytes + 2)) (Fault BadByte 0)
    (and_from (ltb 0 (length bytes)) (begins_with 62 (drop (length bytes) rest)) (lt-ltb 0 (length bytes) shaped.0)
    (ap (begins_with 62) (drop_at bytes (62 ∷ behind) (length bytes) refl)))

quoted_found : (bytes behind : List ℕ) → is_inside false bytes ≡ true → quote_front (bytes ++ 34 ∷ behind) (quote_of false (bytes ++ 34 ∷ behind)) ≡ quoted_front bytes (prefix_len is_printing bytes)
quoted_found bytes behind inner =
    let rest : List ℕ = bytes ++ 34 ∷ behind in
    ap (quote_front rest) (quote_found false bytes behind inner)
    ∙ ap (λ bs. quoted_front bs (prefix_len is_printing bs)) (take_at bytes (34 ∷ behind) (length bytes) refl)

-- a lexeme that may stand before what follows is found there by its shape
pub shape_found : (lexeme : Lexeme) (behind : List ℕ) → IsShaped lexeme behind → front_of (spelled lexeme ++ behind) ≡ shape_front lexeme
shape_found (Space byte) behind shaped = at_true (is_space byte) (Gap 1) (after_space byte behind) shaped
shape_found (LineComment bytes) behind shaped =
    ap (λ n. Gap (1 + n)) (longest_found is_in_line bytes behind shaped.0 (line_stops behind shaped.1))
shape_found (Comment bytes) behind shaped =
    ap (λ bs. comment_front (close_of bs)) (append_assoc bytes (42 ∷ 47 ∷ []) behind)
    ∙ ap comment_front (close_found bytes behind shaped)
shape_found (Sign byte kind) behind shaped = sign_found byte kind behind shaped
shape_found (BareWord bytes) behind shaped = bare_found bytes behind shaped
shape_found (AngleWord bytes) behind shaped =
    ap (λ bs. angle_front (prefix_len is_angle_byte bs) bs) (append_assoc bytes (62 ∷ []) behind) ∙ angle_found bytes behind shaped
shape_found (QuotedWord bytes) behind shaped =
    ap (λ bs. quote_front bs (quote_of false bs)) (append_assoc bytes (34 ∷ []) behind) ∙ quoted_found bytes behind shaped

-- what is found of a lexeme that is a token, or of one that is none
abbrev pub found_front : Option TokenKind → ℕ → Front
found_front None count = Gap count
found_front (Some kind) count = Token kind count

-- what stands at the front of a text: a lexeme, or a fault
pub data IsFront (text : List ℕ) : Front → Type 0 where
  Found : (lexeme : Lexeme) → (behind : List ℕ) → text ≡ spelled lexeme ++ behind → Stands lexeme behind → IsFront text (found_front (kind_of lexeme) (length (spelled lexeme)))
  Wrong : (cause : Cause) → (offset : ℕ) → FaultAt text cause offset → IsFront text (Fault cause offset)

-- a front that is found so stands there
abbrev Tells : List ℕ → Front → Type 0
Tells text front = front_of text ≡ front → IsFront text front

by_test : (t : Bool) (P : Front → Type 0) (x y : Front) → (t ≡ true → P x) → (t ≡ false → P y) → P (cond t x y)
by_test true P x y this other = this refl
by_test false P x y this other = other refl

-- a word is short, or too long
word_tells : (lexeme : Lexeme) (text behind : List ℕ) (kind : TokenKind) (size count : ℕ) → text ≡ spelled lexeme ++ behind → IsShaped lexeme behind → IsPrinting lexeme → kind_of lexeme ≡ Some kind → length (word_of lexeme) ≡ size → length (spelled lexeme) ≡ count → IsFront text (word_front kind size count)
word_tells lexeme text behind kind size count joined shaped printing is long taken =
    by_test (ltb 255 size) (IsFront text) (Fault LongWord 0) (Token kind count)
    (λ over. Wrong LongWord 0 (record { lexeme = lexeme; behind = behind; joined = joined; shaped = shaped; long = omega (arith, ltb-true 255 size over) }, refl))
    (λ short. subst (IsFront text) (ap (λ k. found_front k (length (spelled lexeme))) is ∙ ap (Token kind) taken)
    (Found lexeme behind joined (record { shaped = shaped; short = omega (arith, ltb-false 255 size short); printing = printing })))

word_is_no_stray : (size count : ℕ) → word_front Bare size count ≡ Fault BadByte 0 → ⊥
word_is_no_stray size count =
    by_test (ltb 255 size) (λ f. f ≡ Fault BadByte 0 → ⊥) (Fault LongWord 0) (Token Bare count) (λ over f. cc) (λ short f. cc)

-- the shape of a lexeme is no byte that begins none
shape_is_no_stray : (lexeme : Lexeme) → shape_front lexeme ≡ Fault BadByte 0 → ⊥
shape_is_no_stray (Space byte) e = cc
shape_is_no_stray (LineComment bytes) e = cc
shape_is_no_stray (Comment bytes) e = cc
shape_is_no_stray (Sign byte kind) e = cc
shape_is_no_stray (BareWord bytes) e = word_is_no_stray (length bytes) (length bytes) e
shape_is_no_stray (AngleWord bytes) e = word_is_no_stray (length bytes + 2) (length bytes + 2) e
shape_is_no_stray (QuotedWord bytes) e =
    by_test (ltb 255 (length (unescaped false bytes))) (λ f. f ≡ Fault BadByte 0 → ⊥) (Fault LongWord 0) (cond (eqb (prefix_len is_printing bytes) (length bytes)) (Token Quoted (length bytes + 2)) (Fault BadByte (1 + prefix_len is_printing bytes)))
    (λ over f. cc)
    (λ short. by_test (eqb (prefix_len is_printing bytes) (length bytes)) (λ f. f ≡ Fault BadByte 0 → ⊥) (Token Quoted (length bytes + 2)) (Fault BadByte (1 + prefix_len is_printing bytes)) (λ all f. cc)
    (λ some f. let same : 1 + prefix_len is_printing bytes ≡ 0 = cc in omega arith))
    e

-- a byte at which nothing is found is stray
stray_tells : (b : ℕ) (rest : List ℕ) → eqb b 34 ≡ false → (eqb b 47 && begins_with 42 rest) ≡ false → Tells (b ∷ rest) (Fault BadByte 0)
stray_tells b rest quote comment found =
    Wrong BadByte 0 (inl (
      record {
        byte = b;
        rest = rest;
        joined = refl;
        no_quote = eqb-false b 34 quote;
        no_comment = λ slash star. false≢true (sym comment ∙ and_from (eqb b 47) (begins_with 42 rest) (eq-eqb b 47 slash) star);
        no_lexeme = λ lexeme behind joined shaped. shape_is_no_stray lexeme (sym (shape_found lexeme behind shaped) ∙ sym (ap front_of joined) ∙ found);
      },
      refl,
    ))

line_tells : (rest : List ℕ) → IsFront (35 ∷ rest) (Gap (1 + prefix_len is_in_line rest))
line_tells rest =
    let run = longest is_in_line rest in
    subst (IsFront (35 ∷ rest)) (ap Gap (omega (arith, run.size)))
    (Found (LineComment run.front) run.back (ap (λ bs. 35 ∷ bs) run.joined) (record {
      shaped = (run.each, line_ends run.back run.stops);
      short = omega arith;
      printing = tt;
    }))
  where
    line_ends : (back : List ℕ) → ((b : ℕ) (bytes : List ℕ) → back ≡ b ∷ bytes → is_in_line b ≡ false) → EndsLine back
    line_ends [] stops = tt
    line_ends (b ∷ bytes) stops = eqb-true b 10 (not-false (eqb b 10) (stops b bytes refl))

comment_tells : (rest : List ℕ) → IsFront (47 ∷ 42 ∷ rest) (comment_front (close_of rest))
comment_tells rest =
    elim (close_of rest) as (λ found. close_of rest ≡ found → IsFront (47 ∷ 42 ∷ rest) (comment_front found)) [
      | None ↦ λ e. Wrong OpenComment 0 (record { bytes = rest; joined = refl; unclosed = not_closed rest e }, refl)
      | Some count ↦ λ e.
          let closed = close_is rest count e in
          let whole = append_assoc closed.inside (42 ∷ 47 ∷ []) closed.behind in
          subst (IsFront (47 ∷ 42 ∷ rest)) (ap Gap (omega (arith, length-append closed.inside (42 ∷ 47 ∷ []), closed.size)))
          (Found (Comment closed.inside) closed.behind (ap (λ bs. 47 ∷ 42 ∷ bs) (closed.joined ∙ sym whole)) (record {
            shaped = closed.first;
            short = omega arith;
            printing = tt;
          }))
    ] refl

nothing_left : (front back : List ℕ) → length front ≡ length (front ++ back) → back ≡ []
nothing_left front [] e = refl
nothing_left front (b ∷ bytes) e = absurd (omega (arith, length-append front (b ∷ bytes)))

not_printing_tells : (inside front back behind : List ℕ) → is_inside false inside ≡ true → length (unescaped false inside) ≤ 255 → inside ≡ front ++ back → list_all is_printing front ≡ true → ((b : ℕ) (bytes : List ℕ) → back ≡ b ∷ bytes → is_printing b ≡ false) → (place : ℕ) → place ≡ 1 + length front → (back ≡ [] → ⊥) → IsFront (34 ∷ (inside ++ 34 ∷ behind)) (Fault BadByte place)
not_printing_tells inside front [] behind inner short joined each stops place is some = absurd (some refl)
not_printing_tells inside front (b ∷ back) behind inner short joined each stops place is some =
    Wrong BadByte place (inr (record {
      front = front;
      byte = b;
      back = back;
      behind = behind;
      joined = ap (λ bs. 34 ∷ bs) (sym (append_assoc inside (34 ∷ []) behind) ∙ ap (λ bs. (bs ++ 34 ∷ []) ++ behind) joined);
      inside = ap (is_inside false) (sym joined) ∙ inner;
      short = subst (λ bs. length (unescaped false bs) ≤ 255) joined short;
      before = each;
      bad = stops b back refl;
      place = is;
    }))

-- what stands in quotes that are closed: a word, or a word that is too long, or a byte that may not stand there
quoted_tells : (inside behind : List ℕ) → is_inside false inside ≡ true → IsFront (34 ∷ (inside ++ 34 ∷ behind)) (quoted_front inside (prefix_len is_printing inside))
quoted_tells inside behind inner =
    let run = longest is_printing inside in
    let count : ℕ = prefix_len is_printing inside in
    let text : List ℕ = 34 ∷ (inside ++ 34 ∷ behind) in
    let joined : text ≡ spelled (QuotedWord inside) ++ behind = ap (λ bs. 34 ∷ bs) (sym (append_assoc inside (34 ∷ []) behind)) in
    by_test (ltb 255 (length (unescaped false inside))) (IsFront text) (Fault LongWord 0) (cond (eqb count (length inside)) (Token Quoted (length inside + 2)) (Fault BadByte (1 + count)))
    (λ over. Wrong LongWord 0 (
      record {
        lexeme = QuotedWord inside;
        behind = behind;
        joined = joined;
        shaped = inner;
        long = ltb-true 255 (length (unescaped false inside)) over;
      },
      refl,
    ))
    (λ short. by_test (eqb count (length inside)) (IsFront text) (Token Quoted (length inside + 2)) (Fault BadByte (1 + count))
    (λ all.
    let none = nothing_left run.front run.back (omega (arith, ap length run.joined, run.size, eqb-true count (length inside) all)) in
    let whole = run.joined ∙ ap (λ bs. run.front ++ bs) none ∙ append-nil run.front in
    subst (IsFront text) (ap (Token Quoted) (omega (arith, length-append inside (34 ∷ []))))
    (Found (QuotedWord inside) behind joined (record {
      shaped = inner;
      short = omega (arith, ltb-false 255 (length (unescaped false inside)) short);
      printing = ap (list_all is_printing) whole ∙ run.each;
    })))
    (λ some. not_printing_tells inside run.front run.back behind inner (omega (arith, ltb-false 255 (length (unescaped false inside)) short)) run.joined run.each run.stops
    (1 + count) (omega (arith, run.size))
    (λ none. eqb-false count (length inside) some (sym run.size ∙ ap length (sym (append-nil run.front) ∙ ap (λ bs. run.front ++ bs) (sym none) ∙ sym run.joined)))))

quote_tells : (rest : List ℕ) → IsFront (34 ∷ rest) (quote_front rest (quote_of false rest))
quote_tells rest =
    elim (quote_of false rest) as (λ found. quote_of false rest ≡ found → IsFront (34 ∷ rest) (quote_front rest found)) [
      | None ↦ λ e. Wrong OpenQuote 0 (
        record {
          bytes = rest;
          joined = refl;
          unclosed = λ inside behind joined inner. none_is_not_some (length inside) (sym e ∙ ap (quote_of false) joined ∙ quote_found false inside behind inner);
        },
        refl,
      )
      | Some count ↦ λ e.
          let closed = quote_is false rest count e in
          let front : take count rest ≡ closed.inside = ap (take count) closed.joined ∙ take_at closed.inside (34 ∷ closed.behind) count closed.size in
          subst (λ bs. IsFront (34 ∷ rest) (quoted_front bs (prefix_len is_printing bs))) (sym front)
          (subst (λ bs. IsFront (34 ∷ bs) (quoted_front closed.inside (prefix_len is_printing closed.inside))) (sym closed.joined)
          (quoted_tells closed.inside closed.behind closed.inner))
    ] refl
  where
    none_is_not_some : (n : ℕ) → None ≡ Some n → ⊥
    none_is_not_some n e = cc

angle_tells : (rest : List ℕ) → Tells (60 ∷ rest) (angle_front (prefix_len is_angle_byte rest) rest)
angle_tells rest =
    let run = longest is_angle_byte rest in
    let count : ℕ = prefix_len is_angle_byte rest in
    let back : drop count rest ≡ run.back = ap (drop count) run.joined ∙ drop_at run.front run.back count run.size in
    by_test (ltb 0 count && begins_with 62 (drop count rest)) (Tells (60 ∷ rest)) (word_front Bare (count + 2) (count + 2)) (Fault BadByte 0)
    (λ test found.
    let parts = and_parts (ltb 0 count) (begins_with 62 (drop count rest)) test in
    let next = starts_with 62 (drop count rest) parts.1 in
    let whole = ap (λ bs. run.front ++ bs) (sym back ∙ next.1) ∙ sym (append_assoc run.front (62 ∷ []) next.0) in
    let long = length-append run.front (62 ∷ []) in
    word_tells (AngleWord run.front) (60 ∷ rest) next.0 Bare (count + 2) (count + 2) (ap (λ bs. 60 ∷ bs) (run.joined ∙ whole))
    (omega (arith, ltb-true 0 count parts.0, run.size), run.each) tt refl (omega (arith, long, run.size)) (omega (arith, long, run.size)))
    (λ test found. stray_tells 60 rest refl refl found)

bare_tells : (b : ℕ) (rest : List ℕ) → eqb b 34 ≡ false → (eqb b 47 && begins_with 42 rest) ≡ false → Tells (b ∷ rest) (bare_front (bare_len (b ∷ rest)))
bare_tells b rest quote comment =
    let run = run_is (b ∷ rest) in
    let count : ℕ = bare_len (b ∷ rest) in
    by_test (eqb count 0) (Tells (b ∷ rest)) (Fault BadByte 0) (word_front Bare count count)
    (λ test found. stray_tells b rest quote comment found)
    (λ test found.
    word_tells (BareWord run.front) (b ∷ rest) run.back Bare count count run.joined
    (positive (length run.front) (λ none. eqb-false count 0 test (sym run.size ∙ none)), run.each, run.stops) tt refl run.size run.size)
  where
    positive : (n : ℕ) → (n ≡ 0 → ⊥) → 0 < n
    positive zero h = absurd (h refl)
    positive (suc n) h = omega arith

sign_tells : (b : ℕ) (rest : List ℕ) → eqb b 34 ≡ false → (eqb b 47 && begins_with 42 rest) ≡ false → Tells (b ∷ rest) (after_comment b rest)
sign_tells b rest quote comment =
    elim (sign_of b) as (λ s. sign_of b ≡ s → Tells (b ∷ rest) (sign_front s (bare_front (bare_len (b ∷ rest))))) [
      | None ↦ λ e. bare_tells b rest quote comment
      | Some kind ↦ λ e found. Found (Sign b kind) rest refl (record { shaped = e; short = omega arith; printing = tt })
    ] refl

-- what is found at the front of a text stands there
pub front_tells : (b : ℕ) (rest : List ℕ) → IsFront (b ∷ rest) (front_of (b ∷ rest))
front_tells b rest =
    by_test (is_space b) (Tells (b ∷ rest)) (Gap 1) (after_space b rest)
    (λ e found. Found (Space b) rest refl (record { shaped = e; short = omega arith; printing = tt }))
    (λ no_space. by_test (eqb b 35) (Tells (b ∷ rest)) (Gap (1 + prefix_len is_in_line rest)) (after_hash b rest)
    (λ e found. subst (λ c. IsFront (c ∷ rest) (Gap (1 + prefix_len is_in_line rest))) (sym (eqb-true b 35 e)) (line_tells rest))
    (λ no_hash. by_test (eqb b 34) (Tells (b ∷ rest)) (quote_front rest (quote_of false rest)) (after_quote b rest)
    (λ e found. subst (λ c. IsFront (c ∷ rest) (quote_front rest (quote_of false rest))) (sym (eqb-true b 34 e)) (quote_tells rest))
    (λ no_quote. by_test (eqb b 60) (Tells (b ∷ rest)) (angle_front (prefix_len is_angle_byte rest) rest) (after_angle b rest)
    (λ e. subst (λ c. Tells (c ∷ rest) (angle_front (prefix_len is_angle_byte rest) rest)) (sym (eqb-true b 60 e)) (angle_tells rest))
    (λ no_angle. by_test (eqb b 47 && begins_with 42 rest) (Tells (b ∷ rest)) (comment_front (close_of (drop 1 rest))) (after_comment b rest)
    (λ e found.
    let parts = and_parts (eqb b 47) (begins_with 42 rest) e in
    let next = starts_with 42 rest parts.1 in
    subst (λ c. IsFront (c ∷ rest) (comment_front (close_of (drop 1 rest)))) (sym (eqb-true b 47 parts.0))
    (subst (λ bs. IsFront (47 ∷ bs) (comment_front (close_of (drop 1 bs)))) (sym next.1) (comment_tells next.0)))
    (λ no_comment. sign_tells b rest no_quote no_comment)))))
    refl

-- a lexeme that stands before what follows is found there
stands_found : (lexeme : Lexeme) (behind : List ℕ) → Stands lexeme behind → shape_front lexeme ≡ found_front (kind_of lexeme) (length (spelled lexeme))
stands_found (Space byte) behind stands = refl
stands_found (LineComment bytes) behind stands = ap Gap (omega arith)
stands_found (Comment bytes) behind stands = ap Gap (omega (arith, length-append bytes (42 ∷ 47 ∷ [])))
stands_found (Sign byte kind) behind stands = refl
stands_found (BareWord bytes) behind stands = at_false (ltb 255 (length bytes)) (Fault LongWord 0) (Token Bare (length bytes)) (le-ltb 255 (length bytes) stands.short)
stands_found (AngleWord bytes) behind stands =
    let long = length-append bytes (62 ∷ []) in
    at_false (ltb 255 (length bytes + 2)) (Fault LongWord 0) (Token Bare (length bytes + 2)) (le-ltb 255 (length bytes + 2) (omega (arith, long, stands.short)))
    ∙ ap (Token Bare) (omega (arith, long))
stands_found (QuotedWord bytes) behind stands =
    let all = ap (prefix_len is_printing) (sym (append-nil bytes)) ∙ longest_found is_printing bytes [] stands.printing (λ b bs e. absurd cc) in
    at_false (ltb 255 (length (unescaped false bytes))) (Fault LongWord 0) (cond (eqb (prefix_len is_printing bytes) (length bytes)) (Token Quoted (length bytes + 2)) (Fault BadByte (1 + prefix_len is_printing bytes))) (le-ltb 255 (length (unescaped false bytes)) stands.short)
    ∙ at_true (eqb (prefix_len is_printing bytes) (length bytes)) (Token Quoted (length bytes + 2)) (Fault BadByte (1 + prefix_len is_printing bytes)) (eq-eqb (prefix_len is_printing bytes) (length bytes) all)
    ∙ ap (Token Quoted) (omega (arith, length-append bytes (34 ∷ [])))

long_found : (lexeme : Lexeme) → 255 < length (word_of lexeme) → shape_front lexeme ≡ Fault LongWord 0
long_found (Space byte) long = absurd (omega arith)
long_found (LineComment bytes) long = absurd (omega arith)
long_found (Comment bytes) long = absurd (omega arith)
long_found (Sign byte kind) long = absurd (omega arith)
long_found (BareWord bytes) long = at_true (ltb 255 (length bytes)) (Fault LongWord 0) (Token Bare (length bytes)) (lt-ltb 255 (length bytes) long)
long_found (AngleWord bytes) long =
    at_true (ltb 255 (length bytes + 2)) (Fault LongWord 0) (Token Bare (length bytes + 2)) (lt-ltb 255 (length bytes + 2) (omega (arith, length-append bytes (62 ∷ []))))
long_found (QuotedWord bytes) long =
    at_true (ltb 255 (length (unescaped false bytes))) (Fault LongWord 0) (cond (eqb (prefix_len is_printing bytes) (length bytes)) (Token Quoted (length bytes + 2)) (Fault BadByte (1 + prefix_len is_printing bytes))) (lt-ltb 255 (length (unescaped false bytes)) long)

not_printing_found : (text : List ℕ) (offset : ℕ) → IsNotPrinting text offset → front_of text ≡ Fault BadByte offset
not_printing_found text offset bad =
    let inside : List ℕ = bad.front ++ bad.byte ∷ bad.back in
    let count = longest_found is_printing bad.front (bad.byte ∷ bad.back) bad.before (λ b bs e. ap is_printing (sym (first_same bad.byte b bad.back bs e)) ∙ bad.bad) in
    ap front_of bad.joined
    ∙ shape_found (QuotedWord inside) bad.behind bad.inside
    ∙ at_false (ltb 255 (length (unescaped false inside))) (Fault LongWord 0) (cond (eqb (prefix_len is_printing inside) (length inside)) (Token Quoted (length inside + 2)) (Fault BadByte (1 + prefix_len is_printing inside))) (le-ltb 255 (length (unescaped false inside)) bad.short)
    ∙ at_false (eqb (prefix_len is_printing inside) (length inside)) (Token Quoted (length inside + 2)) (Fault BadByte (1 + prefix_len is_printing inside))
    (ne_eqb (prefix_len is_printing inside) (length inside) (λ same. absurd (omega (arith, count, length-append bad.front (bad.byte ∷ bad.back)))))
    ∙ ap (λ n. Fault BadByte (1 + n)) count
    ∙ ap (Fault BadByte) (sym bad.place)
  where
    first_same : (a b : ℕ) (xs ys : List ℕ) → a ∷ xs ≡ b ∷ ys → a ≡ b
    first_same a b xs ys e = cc

open_quote_found : (rest : List ℕ) → ((inside behind : List ℕ) → rest ≡ inside ++ 34 ∷ behind → is_inside false inside ≡ true → ⊥) → quote_front rest (quote_of false rest) ≡ Fault OpenQuote 0
open_quote_found rest unclosed =
    elim (quote_of false rest) as (λ found. quote_of false rest ≡ found → quote_front rest found ≡ Fault OpenQuote 0) [
      | None ↦ λ e. refl
      | Some count ↦ λ e.
          let closed = quote_is false rest count e in
          absurd (unclosed closed.inside closed.behind closed.joined closed.inner)
    ] refl

same_first : (a b : ℕ) (xs ys : List ℕ) → a ∷ xs ≡ b ∷ ys → (a ≡ b) × (xs ≡ ys)
same_first a b xs ys e = (cc, cc)

-- where a byte is stray nothing else is wrong
stray_alone : (text : List ℕ) (cause : Cause) (offset : ℕ) → IsStray text → FaultAt text cause offset → Fault cause offset ≡ Fault BadByte 0
stray_alone text BadByte offset stray (inl here) = ap (Fault BadByte) here.1
stray_alone text BadByte offset stray (inr bad) = absurd (stray.no_lexeme (QuotedWord (bad.front ++ bad.byte ∷ bad.back)) bad.behind bad.joined bad.inside)
stray_alone text OpenComment offset stray fault =
    let same = same_first stray.byte 47 stray.rest (42 ∷ fault.0.bytes) (sym stray.joined ∙ fault.0.joined) in
    absurd (stray.no_comment same.0 (ap (begins_with 42) same.1))
stray_alone text OpenQuote offset stray fault =
    absurd (stray.no_quote (same_first stray.byte 34 stray.rest fault.0.bytes (sym stray.joined ∙ fault.0.joined)).0)
stray_alone text LongWord offset stray fault = absurd (stray.no_lexeme fault.0.lexeme fault.0.behind fault.0.joined fault.0.shaped)

-- where a byte is stray nothing else stands
stray_found : (text : List ℕ) (front : Front) → IsStray text → IsFront text front → front ≡ Fault BadByte 0
stray_found text front stray (Found lexeme behind joined stands) = absurd (stray.no_lexeme lexeme behind joined stands.shaped)
stray_found text front stray (Wrong cause offset fault) = stray_alone text cause offset stray fault

fault_found : (text : List ℕ) (cause : Cause) (offset : ℕ) → FaultAt text cause offset → front_of text ≡ Fault cause offset
fault_found text BadByte offset (inl here) =
    let stray = here.0 in
    let tells : IsFront text (front_of text) = subst (λ t. IsFront t (front_of t)) (sym stray.joined) (front_tells stray.byte stray.rest) in
    stray_found text (front_of text) stray tells ∙ ap (Fault BadByte) (sym here.1)
fault_found text BadByte offset (inr bad) = not_printing_found text offset bad
fault_found text OpenComment offset fault =
    ap front_of fault.0.joined ∙ ap comment_front (close_missing fault.0.bytes fault.0.unclosed) ∙ ap (Fault OpenComment) (sym fault.1)
fault_found text OpenQuote offset fault =
    ap front_of fault.0.joined ∙ open_quote_found fault.0.bytes fault.0.unclosed ∙ ap (Fault OpenQuote) (sym fault.1)
fault_found text LongWord offset fault =
    ap front_of fault.0.joined
    ∙ shape_found fault.0.lexeme fault.0.behind fault.0.shaped
    ∙ long_found fault.0.lexeme fault.0.long
    ∙ ap (Fault LongWord) (sym fault.1)

-- what stands at the front of a text is found there
pub front_found : (text : List ℕ) (front : Front) → IsFront text front → front_of text ≡ front
front_found text front (Found lexeme behind joined stands) =
    ap front_of joined ∙ shape_found lexeme behind stands.shaped ∙ stands_found lexeme behind stands
front_found text front (Wrong cause offset fault) = fault_found text cause offset fault
