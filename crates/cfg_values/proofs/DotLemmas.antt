-- Numbers that are joined by dots, and the parts between the dots.
use Rattle.std.proofs.Common.{◌≡◌, ◌<◌, ◌≤◌, ◌∙◌, sym, ap, subst, refl, ℕ, List, [], ◌∷◌, length, map, ◌++◌, false, eqb, get_or, drop, arith, append_assoc, length-append, lit<}
use Rattle.std.proofs.lemmas.Bool.{false≢true}
use Rattle.std.specs.Prelude.{All, IfNone, IsSome, Option, Some, None}
use Rattle.std.specs.List.{slice_split, join_with_byte}
use Rattle.std.specs.Fmt.{decimal}
use Rattle.std.proofs.lemmas.Fmt.{decimal_injective}
use Rattle.std.proofs.lemmas.List.Elements.{All-nil, All-append, All-cons}
use Rattle.std.proofs.lemmas.List.{map_push}
use Rattle.std.proofs.lemmas.List.Splits.{slice_split_none, slice_split_at, join_with_byte-slice_split}
use Rattle.cfg_values.proofs.NumberLemmas.{no_mark_in_decimal}
use Rattle.cfg_values.specs.Cut.{IsCut}
use Rattle.cfg_values.specs.Address.{AreOctets, IsAddress, IsFront, AddsOctet, dotted}

-- the parts between the dots
abbrev pub parts_of : List ℕ → List (List ℕ)
parts_of bytes = slice_split (λ b. eqb b 46) bytes

-- the parts of joined numbers are the numbers
pub parts_of-dotted : (numbers : List ℕ) → AreOctets numbers → 0 < length numbers → parts_of (dotted numbers) ≡ map decimal numbers
parts_of-dotted [] octets some = absurd (omega arith)
parts_of-dotted (n ∷ []) octets some =
    slice_split_none (λ b. eqb b 46) (decimal n) (no_mark_in_decimal 46 n (lit< tt) (omega arith))
parts_of-dotted (n ∷ m ∷ numbers) octets some =
    slice_split_at (λ b. eqb b 46) (decimal n) 46 (dotted (m ∷ numbers)) (no_mark_in_decimal 46 n (lit< tt) (omega arith)) refl
    ∙ ap (λ parts. decimal n ∷ parts) (parts_of-dotted (m ∷ numbers) octets.1 (omega arith))

-- bytes whose parts are numbers are those numbers, joined
pub dotted_from_parts : (bytes numbers : List ℕ) → parts_of bytes ≡ map decimal numbers → bytes ≡ dotted numbers
dotted_from_parts bytes numbers e = sym (join_with_byte-slice_split 46 bytes) ∙ ap (join_with_byte 46) e

-- the first part ends at the first dot
pub parts_of-cut : (bytes before after : List ℕ) → IsCut 46 bytes before after → parts_of bytes ≡ before ∷ parts_of after
parts_of-cut bytes before after cut =
    ap parts_of cut.joined ∙ slice_split_at (λ b. eqb b 46) before 46 after cut.first refl

-- the parts are those numbers and then the parts of the rest
pub record IsReadUpTo (bytes numbers rest : List ℕ) : Type 0 where
  pub octets : AreOctets numbers
  pub at_most_four : length numbers ≤ 4
  pub parts : parts_of bytes ≡ map decimal numbers ++ parts_of rest

-- a list of octets with one more
pub octets_more : (numbers : List ℕ) (n : ℕ) → AreOctets numbers → n < 256 → AreOctets (numbers ++ n ∷ [])
octets_more [] n octets small = (small, tt)
octets_more (m ∷ numbers) n octets small = (octets.0, octets_more numbers n octets.1 small)

-- one more number is read
pub read_on : (bytes numbers rest part after more : List ℕ) → IsReadUpTo bytes numbers rest → IsCut 46 rest part after
    → AddsOctet part numbers more → IsReadUpTo bytes more after
read_on bytes numbers rest part after more read cut adds = record {
  octets = subst AreOctets (sym adds.added) (octets_more numbers adds.number read.octets adds.octet);
  at_most_four = adds.at_most_four;
  parts =
      read.parts ∙ ap (λ parts. map decimal numbers ++ parts) (parts_of-cut rest part after cut ∙ ap (λ p. p ∷ parts_of after) adds.spelled)
      ∙ sym (ap (λ ns. map decimal ns ++ parts_of after) adds.added ∙ ap (λ parts. parts ++ parts_of after) (map_push decimal numbers adds.number)
      ∙ append_assoc (map decimal numbers) (decimal adds.number ∷ []) (parts_of after));
}

-- the last number is read
pub read_last : (bytes numbers rest more : List ℕ) → IsReadUpTo bytes numbers rest → All (λ b. eqb b 46 ≡ false) rest
    → AddsOctet rest numbers more → IsFront bytes more
read_last bytes numbers rest more read whole adds = record {
  some = omega (arith, ap length adds.added, length-append numbers (adds.number ∷ []));
  at_most_four = adds.at_most_four;
  octets = subst AreOctets (sym adds.added) (octets_more numbers adds.number read.octets adds.octet);
  spelled = dotted_from_parts bytes more
      (read.parts ∙ ap (λ parts. map decimal numbers ++ parts) (slice_split_none (λ b. eqb b 46) rest whole ∙ ap (λ p. p ∷ []) adds.spelled)
      ∙ sym (ap (map decimal) adds.added ∙ map_push decimal numbers adds.number));
}

-- the part after as many parts as there are numbers is a number
pub record IsNext (numbers all : List ℕ) (part : List ℕ) : Type 0 where
  pub number : ℕ
  pub octet : number < 256
  pub spelled : part ≡ decimal number
  pub more : length numbers < length all

pub next_number : (numbers all : List ℕ) (part : List ℕ) (parts : List (List ℕ)) → AreOctets all
    → map decimal numbers ++ part ∷ parts ≡ map decimal all → IsNext numbers all part
next_number [] [] part parts octets e = absurd cc
next_number [] (n ∷ all) part parts octets e =
    record { number = n; octet = octets.0; spelled = ap (λ ps. get_or ps 0 []) e; more = omega arith }
next_number (m ∷ numbers) [] part parts octets e = absurd cc
next_number (m ∷ numbers) (n ∷ all) part parts octets e =
    let next = next_number numbers all part parts octets.1 (ap (λ ps. drop 1 ps) e) in
    record { number = next.number; octet = next.octet; spelled = next.spelled; more = omega (arith, next.more) }

-- where the next part is no number, or there are four already, the bytes are no numbers
pub not_front : (bytes numbers rest part : List ℕ) (parts : List (List ℕ)) → IsReadUpTo bytes numbers rest → parts_of rest ≡ part ∷ parts
    → ((n : ℕ) → n < 256 → part ≡ decimal n → 4 ≤ length numbers) → (all : List ℕ) → IsFront bytes all → ⊥
not_front bytes numbers rest part parts read split full all front =
    let whole = ap parts_of front.spelled ∙ parts_of-dotted all front.octets front.some in
    let next = next_number numbers all part parts front.octets
    (ap (λ ps. map decimal numbers ++ ps) (sym split) ∙ sym read.parts ∙ whole) in
    omega (arith, full next.number next.octet next.spelled, next.more, front.at_most_four)

-- what follows from what a clause says of a `None`
pub if_none_then : {X P Q : Type 0} (r : Option X) → IfNone r P → (P → Q) → IfNone r Q
if_none_then None h f = f h
if_none_then (Some x) h f = tt

-- the numbers of one text are written alike
pub same_numerals : (bytes numbers others : List ℕ) → IsFront bytes numbers → IsFront bytes others → map decimal numbers ≡ map decimal others
same_numerals bytes numbers others one other =
    sym (parts_of-dotted numbers one.octets one.some) ∙ ap parts_of (sym one.spelled ∙ other.spelled) ∙ parts_of-dotted others other.octets other.some

-- an octet is written in one way, and a list of them is
pub map-decimal-injective : (numbers others : List ℕ) → AreOctets numbers → AreOctets others
    → map decimal numbers ≡ map decimal others → numbers ≡ others
map-decimal-injective [] [] octets more e = refl
map-decimal-injective [] (n ∷ others) octets more e = absurd cc
map-decimal-injective (m ∷ numbers) [] octets more e = absurd cc
map-decimal-injective (m ∷ numbers) (n ∷ others) octets more e =
    let heads = decimal_injective m n (omega arith) (omega arith) (ap (λ ps. get_or ps 0 []) e) in
    let tails = map-decimal-injective numbers others octets.1 more.1 (ap (λ ps. drop 1 ps) e) in
    ap (λ k. k ∷ numbers) heads ∙ ap (λ ns. n ∷ ns) tails

-- a text spells one list of numbers
pub IsFront-unique : (bytes numbers others : List ℕ) → IsFront bytes numbers → IsFront bytes others → numbers ≡ others
IsFront-unique bytes numbers others one other =
    map-decimal-injective numbers others one.octets other.octets (same_numerals bytes numbers others one other)

-- an address is four numbers
pub front_from_address : (bytes quad : List ℕ) → IsAddress bytes quad → IsFront bytes quad
front_from_address bytes quad address =
    record { some = omega (arith, address.four); at_most_four = omega (arith, address.four); octets = address.octets; spelled = address.spelled }

-- a byte that is no digit and no dot stands nowhere in joined numbers
pub no_mark_in_dotted : (mark : ℕ) (numbers : List ℕ) → mark < 48 → eqb 46 mark ≡ false → AreOctets numbers → All (λ b. eqb b mark ≡ false) (dotted numbers)
no_mark_in_dotted mark [] low other octets = All-nil (λ b. eqb b mark ≡ false)
no_mark_in_dotted mark (n ∷ []) low other octets = no_mark_in_decimal mark n low (omega arith)
no_mark_in_dotted mark (n ∷ m ∷ numbers) low other octets =
    All-append (λ b. eqb b mark ≡ false) (decimal n) (46 ∷ dotted (m ∷ numbers)) (no_mark_in_decimal mark n low (omega arith))
    (All-cons (λ b. eqb b mark ≡ false) 46 (dotted (m ∷ numbers)) other (no_mark_in_dotted mark (m ∷ numbers) low other octets.1))

-- what holds where an option isn't there
pub absent : {X P : Type 0} (r : Option X) → (¬ (IsSome r) → P) → IfNone r P
absent None f = f (λ some. false≢true some)
absent (Some x) f = tt
