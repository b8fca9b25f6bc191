-- How far comments, quotes and words reach: what the first end or the longest run makes of a text, and that it is found.
use Rattle.std.proofs.Common.{◌≡◌, ◌+◌, suc, ℕ, List, [], ◌∷◌, ◌++◌, length, eqb, ◌&&◌, ◌||◌, Bool, true, false, not, cond, Option, None, Some, refl, sym, ap, ◌∙◌, arith}
use Rattle.std.specs.List.{list_all, prefix_len}
use Rattle.std.proofs.lemmas.Bool.{false≢true, and_parts, and_from, and_right, not-true, eqb-true, ne_eqb}
use Rattle.std.proofs.lemmas.Bool.Decides.{nat_tests}
use Rattle.cfg_lex.specs.Bytes.{begins_with, closes, is_bare, is_inside, is_in_run, is_run, goes_on}
use Rattle.cfg_lex.specs.Front.{later, close_of, quote_of, bare_len}

-- a text is in two parts, of which the first has that length
pub record IsSplit (text front back : List ℕ) (count : ℕ) : Type 0 where
  pub joined : text ≡ front ++ back
  pub size : length front ≡ count

-- the longest run of bytes that pass a test
pub record IsLongest (test : ℕ → Bool) (text : List ℕ) (count : ℕ) : Type 0 where
  pub front : List ℕ
  pub back : List ℕ
  pub joined : text ≡ front ++ back
  pub size : length front ≡ count
  pub each : list_all test front ≡ true
  pub stops : (b : ℕ) (bytes : List ℕ) → back ≡ b ∷ bytes → test b ≡ false

pub longest : (test : ℕ → Bool) (text : List ℕ) → IsLongest test text (prefix_len test text)
longest test [] = record { front = []; back = []; joined = refl; size = refl; each = refl; stops = λ b bytes e. absurd cc }
longest test (c ∷ cs) =
    elim (test c) as (λ t. test c ≡ t → IsLongest test (c ∷ cs) (cond t (1 + prefix_len test cs) 0)) [
      | true ↦ λ e.
          let further = longest test cs in
          record {
            front = c ∷ further.front;
            back = further.back;
            joined = ap (λ bytes. c ∷ bytes) further.joined;
            size = omega (arith, further.size);
            each = and_from (test c) (list_all test further.front) e further.each;
            stops = further.stops;
          }
      | false ↦ λ e. record {
        front = [];
        back = c ∷ cs;
        joined = refl;
        size = refl;
        each = refl;
        stops = λ b bytes same. ap test (sym (first_same c b cs bytes same)) ∙ e;
      }
    ] refl
  where
    first_same : (a b : ℕ) (xs ys : List ℕ) → a ∷ xs ≡ b ∷ ys → a ≡ b
    first_same a b xs ys e = cc

-- a run that stops is as long as it is
pub longest_found : (test : ℕ → Bool) (front back : List ℕ) → list_all test front ≡ true → ((b : ℕ) (bytes : List ℕ) → back ≡ b ∷ bytes → test b ≡ false) → prefix_len test (front ++ back) ≡ length front
longest_found test [] [] each stops = refl
longest_found test [] (b ∷ bytes) each stops = ap (λ t. cond t (1 + prefix_len test bytes) 0) (stops b bytes refl)
longest_found test (b ∷ front) back each stops =
    let parts = and_parts (test b) (list_all test front) each in
    ap (λ t. cond t (1 + prefix_len test (front ++ back)) 0) parts.0 ∙ (let e = longest_found test front back parts.1 stops in omega (arith, e))

-- the first `*/`: what stands before it and after it
pub record IsClosed (text : List ℕ) (count : ℕ) : Type 0 where
  pub inside : List ℕ
  pub behind : List ℕ
  pub joined : text ≡ inside ++ 42 ∷ 47 ∷ behind
  pub size : length inside ≡ count
  pub first : closes (inside ++ 42 ∷ []) ≡ false

-- the first quote that no backslash takes up: what stands before it and after it
pub record IsQuoted (backslash : Bool) (text : List ℕ) (count : ℕ) : Type 0 where
  pub inside : List ℕ
  pub behind : List ℕ
  pub joined : text ≡ inside ++ 34 ∷ behind
  pub size : length inside ≡ count
  pub inner : is_inside backslash inside ≡ true

-- what a place that is one further on says
pub later_some : (found : Option ℕ) (count : ℕ) → later found ≡ Some count → (place : ℕ) × (found ≡ Some place) × (count ≡ 1 + place)
later_some None count e = absurd cc
later_some (Some place) count e = (place, refl, cc)

pub later_none : (found : Option ℕ) → later found ≡ None → found ≡ None
later_none None e = refl
later_none (Some place) e = absurd cc

-- a `*/` before more bytes begins as it does before one star
begins_same : (inside behind : List ℕ) → begins_with 47 (inside ++ 42 ∷ behind) ≡ begins_with 47 (inside ++ 42 ∷ [])
begins_same [] behind = refl
begins_same (b ∷ inside) behind = refl

pub starts_with : (byte : ℕ) (bytes : List ℕ) → begins_with byte bytes ≡ true → (behind : List ℕ) × (bytes ≡ byte ∷ behind)
starts_with byte [] e = absurd (false≢true e)
starts_with byte (b ∷ bytes) e = (bytes, ap (λ c. c ∷ bytes) (eqb-true b byte e))

pub or_parts : (x y : Bool) → (x || y) ≡ false → (x ≡ false) × (y ≡ false)
or_parts true y e = absurd (false≢true (sym e))
or_parts false y e = (refl, e)

pub or_none : (x y : Bool) → x ≡ false → y ≡ false → (x || y) ≡ false
or_none x y ex ey = ap (λ t. t || y) ex ∙ ey

pub close_found : (inside behind : List ℕ) → closes (inside ++ 42 ∷ []) ≡ false → close_of (inside ++ 42 ∷ 47 ∷ behind) ≡ Some (length inside)
close_found [] behind first = refl
close_found (b ∷ inside) behind first =
    let rest : List ℕ = inside ++ 42 ∷ 47 ∷ behind in
    let parts = or_parts (eqb b 42 && begins_with 47 (inside ++ 42 ∷ [])) (closes (inside ++ 42 ∷ [])) first in
    ap (λ t. cond (eqb b 42 && t) (Some 0) (later (close_of rest))) (begins_same inside (47 ∷ behind))
    ∙ ap (λ t. cond t (Some 0) (later (close_of rest))) parts.0
    ∙ ap later (close_found inside behind parts.1)
    ∙ ap Some (omega arith)

closed_here : (b : ℕ) (bytes : List ℕ) (count : ℕ) → (eqb b 42 && begins_with 47 bytes) ≡ true → Some 0 ≡ Some count → IsClosed (b ∷ bytes) count
closed_here b bytes count e same =
    let parts = and_parts (eqb b 42) (begins_with 47 bytes) e in
    let next = starts_with 47 bytes parts.1 in
    let star : b ≡ 42 = eqb-true b 42 parts.0 in
    record {
      inside = [];
      behind = next.0;
      joined = ap (λ d. d ∷ bytes) star ∙ ap (λ bs. 42 ∷ bs) next.1;
      size = cc;
      first = refl;
    }

closed_later : (b : ℕ) (bytes : List ℕ) (place count : ℕ) → (eqb b 42 && begins_with 47 bytes) ≡ false → count ≡ 1 + place → IsClosed bytes place → IsClosed (b ∷ bytes) count
closed_later b bytes place count e more further =
    let here = ap (λ t. eqb b 42 && t) (ap (begins_with 47) further.joined ∙ begins_same further.inside (47 ∷ further.behind)) in
    record {
      inside = b ∷ further.inside;
      behind = further.behind;
      joined = ap (λ bs. b ∷ bs) further.joined;
      size = omega (arith, further.size);
      first = or_none (eqb b 42 && begins_with 47 (further.inside ++ 42 ∷ [])) (closes (further.inside ++ 42 ∷ [])) (sym here ∙ e) further.first;
    }

pub close_is : (text : List ℕ) (count : ℕ) → close_of text ≡ Some count → IsClosed text count
close_is [] count e = absurd cc
close_is (b ∷ bytes) count e =
    elim (eqb b 42 && begins_with 47 bytes) as (λ t. (eqb b 42 && begins_with 47 bytes) ≡ t → cond t (Some 0) (later (close_of bytes)) ≡ Some count → IsClosed (b ∷ bytes) count) [
      | true ↦ λ test found. closed_here b bytes count test found
      | false ↦ λ test found.
          let further = later_some (close_of bytes) count found in
          closed_later b bytes further.0 count test further.2 (close_is bytes further.0 further.1)
    ] refl e

pub not_closed : (text : List ℕ) → close_of text ≡ None → closes text ≡ false
not_closed [] e = refl
not_closed (b ∷ bytes) e =
    elim (eqb b 42 && begins_with 47 bytes) as (λ t. cond t (Some 0) (later (close_of bytes)) ≡ None → (t || closes bytes) ≡ false) [
      | true ↦ λ found. absurd cc
      | false ↦ λ found. not_closed bytes (later_none (close_of bytes) found)
    ] e

pub close_missing : (text : List ℕ) → closes text ≡ false → close_of text ≡ None
close_missing [] e = refl
close_missing (b ∷ bytes) e =
    let parts = or_parts (eqb b 42 && begins_with 47 bytes) (closes bytes) e in
    ap (λ t. cond t (Some 0) (later (close_of bytes))) parts.0 ∙ ap later (close_missing bytes parts.1)

pub quote_found : (backslash : Bool) (inside behind : List ℕ) → is_inside backslash inside ≡ true → quote_of backslash (inside ++ 34 ∷ behind) ≡ Some (length inside)
quote_found true [] behind e = absurd (false≢true e)
quote_found false [] behind e = refl
quote_found true (b ∷ inside) behind e = ap later (quote_found false inside behind e) ∙ ap Some (omega arith)
quote_found false (b ∷ inside) behind e =
    let parts = and_parts (not (eqb b 34)) (is_inside (eqb b 92) inside) e in
    ap (λ t. cond t (Some 0) (later (quote_of (eqb b 92) (inside ++ 34 ∷ behind)))) (not-true (eqb b 34) parts.0)
    ∙ ap later (quote_found (eqb b 92) inside behind parts.1)
    ∙ ap Some (omega arith)

quoted_later : (backslash next : Bool) (b : ℕ) (bytes : List ℕ) (place count : ℕ) → count ≡ 1 + place → (further : IsQuoted next bytes place) → is_inside backslash (b ∷ further.inside) ≡ true → IsQuoted backslash (b ∷ bytes) count
quoted_later backslash next b bytes place count more further inner = record {
  inside = b ∷ further.inside;
  behind = further.behind;
  joined = ap (λ bs. b ∷ bs) further.joined;
  size = omega (arith, further.size);
  inner = inner;
}

pub quote_is : (backslash : Bool) (text : List ℕ) (count : ℕ) → quote_of backslash text ≡ Some count → IsQuoted backslash text count
quote_is backslash [] count e = absurd cc
quote_is true (b ∷ bytes) count e =
    let later_one = later_some (quote_of false bytes) count e in
    let further = quote_is false bytes later_one.0 later_one.1 in
    quoted_later true false b bytes later_one.0 count later_one.2 further further.inner
quote_is false (b ∷ bytes) count e =
    elim (eqb b 34) as (λ t. eqb b 34 ≡ t → cond t (Some 0) (later (quote_of (eqb b 92) bytes)) ≡ Some count → IsQuoted false (b ∷ bytes) count) [
      | true ↦ λ test found. record {
        inside = [];
        behind = bytes;
        joined = ap (λ d. d ∷ bytes) (eqb-true b 34 test);
        size = cc;
        inner = refl;
      }
      | false ↦ λ test found.
          let later_one = later_some (quote_of (eqb b 92) bytes) count found in
          let further = quote_is (eqb b 92) bytes later_one.0 later_one.1 in
          quoted_later false (eqb b 92) b bytes later_one.0 count later_one.2 further
          (and_from (not (eqb b 34)) (is_inside (eqb b 92) further.inside) (ap not test) further.inner)
    ] refl e

-- the longest part of a bare word
pub record IsRun (text : List ℕ) (count : ℕ) : Type 0 where
  pub front : List ℕ
  pub back : List ℕ
  pub joined : text ≡ front ++ back
  pub size : length front ≡ count
  pub each : is_run front ≡ true
  pub stops : goes_on back ≡ false

-- a byte of a bare word is one at the end of bytes too
run_before_end : (b : ℕ) → is_bare b ≡ true → is_in_run b [] ≡ true
run_before_end b e = and_from (is_bare b) (not (eqb b 47 && false)) e (ap not (and_right (eqb b 47) false refl))

run_part : (b : ℕ) (front back : List ℕ) → is_in_run b (front ++ back) ≡ true → is_in_run b front ≡ true
run_part b [] back e = run_before_end b (and_parts (is_bare b) (not (eqb b 47 && begins_with 42 back)) e).0
run_part b (c ∷ front) back e = e

pub run_is : (text : List ℕ) → IsRun text (bare_len text)
run_is [] = record { front = []; back = []; joined = refl; size = refl; each = refl; stops = refl }
run_is (b ∷ bytes) =
    elim (is_in_run b bytes) as (λ t. is_in_run b bytes ≡ t → IsRun (b ∷ bytes) (cond t (1 + bare_len bytes) 0)) [
      | true ↦ λ e.
          let further = run_is bytes in
          record {
            front = b ∷ further.front;
            back = further.back;
            joined = ap (λ bs. b ∷ bs) further.joined;
            size = omega (arith, further.size);
            each = and_from (is_in_run b further.front) (is_run further.front)
                (run_part b further.front further.back (sym (ap (is_in_run b) further.joined) ∙ e)) further.each;
            stops = further.stops;
          }
      | false ↦ λ e. record { front = []; back = b ∷ bytes; joined = refl; size = refl; each = refl; stops = e }
    ] refl

-- what follows a bare word doesn't begin with a star
no_star : (back : List ℕ) → goes_on back ≡ false → begins_with 42 back ≡ false
no_star [] e = refl
no_star (b ∷ bytes) e =
    elim (eqb b 42) as (λ t. eqb b 42 ≡ t → t ≡ false) [
      | true ↦ λ star. absurd (false≢true (sym e ∙ ap (λ c. is_in_run c bytes) (eqb-true b 42 star)))
      | false ↦ λ star. refl
    ] refl

pub run_whole : (b : ℕ) (front back : List ℕ) → is_in_run b front ≡ true → goes_on back ≡ false → is_in_run b (front ++ back) ≡ true
run_whole b [] back e stops =
    let bare = (and_parts (is_bare b) (not (eqb b 47 && false)) e).0 in
    and_from (is_bare b) (not (eqb b 47 && begins_with 42 back)) bare
    (ap not (and_right (eqb b 47) (begins_with 42 back) (no_star back stops)))
run_whole b (c ∷ front) back e stops = e

pub run_found : (front back : List ℕ) → is_run front ≡ true → goes_on back ≡ false → bare_len (front ++ back) ≡ length front
run_found [] [] each stops = refl
run_found [] (b ∷ bytes) each stops = ap (λ t. cond t (1 + bare_len bytes) 0) stops
run_found (b ∷ front) back each stops =
    let parts = and_parts (is_in_run b front) (is_run front) each in
    let here = run_whole b front back parts.0 stops in
    let further = run_found front back parts.1 stops in
    ap (λ t. cond t (1 + bare_len (front ++ back)) 0) here ∙ omega (arith, further)

-- bytes of which each belongs to a bare word are as long as their run
pub run_length : (bytes : List ℕ) → eqb (bare_len bytes) (length bytes) ≡ is_run bytes
run_length [] = refl
run_length (b ∷ bytes) =
    elim (is_in_run b bytes) as (λ t. eqb (cond t (1 + bare_len bytes) 0) (suc (length bytes)) ≡ (t && is_run bytes)) [
      | true ↦
          let one : 1 + bare_len bytes ≡ suc (bare_len bytes) = omega arith in
          let same : eqb (suc (bare_len bytes)) (suc (length bytes)) ≡ eqb (bare_len bytes) (length bytes) = grind (arith, nat_tests) in
          ap (λ n. eqb n (suc (length bytes))) one ∙ same ∙ run_length bytes
      | false ↦ ne_eqb 0 (suc (length bytes)) (λ e. absurd (omega arith))
    ]
