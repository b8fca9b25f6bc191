-- The words of a tree's statements can be printed so that they are read again.
use Rattle.std.proofs.Common.{◌≡◌, ℕ, ◌<◌, ◌≤◌, ◌^◌, Bool, true, nat_le, ◌&&◌, List, [], ◌∷◌, ◌++◌, length, get_or, refl, sym, subst, ◌∙◌, inl, inr, arith, length-append}
use Rattle.std.specs.Prelude.{All}
use Rattle.std.specs.List.{list_all, Contains}
use Rattle.std.specs.Fmt.{decimal}
use Rattle.std.specs.Net.Text.{hex_groups_text}
use Rattle.std.specs.Str.Parse.{AllDigits}
use Rattle.std.proofs.lemmas.Bool.Decides.{nat_tests}
use Rattle.std.proofs.lemmas.List.{get_or_default}
use Rattle.std.proofs.lemmas.List.Elements.{All-head, All-tail}
use Rattle.std.proofs.lemmas.List.Folds.{list_all-append}
use Rattle.std.proofs.lemmas.Str.Parse.{digit_at}
use Rattle.std.proofs.lemmas.Fmt.{decimal_is_IsNumeral, length-decimal-le}
use Rattle.cfg_base.specs.Kind.{is_name_byte, is_host_byte}
use Rattle.cfg_base.specs.declared.kind.Choice.{Choice}
use Rattle.cfg_base.specs.declared.kind.Choice.TheVariants.{Permission, RootLogin, GroupType, Protocol, NextHop, PacketProtocol}
use Rattle.cfg_base.specs.declared.kind.Kind.{Kind}
use Rattle.cfg_base.specs.declared.kind.Kind.TheVariants.{Name, Host, Text, Address, Prefix, Prefix6, Area, IfName, IfUnit, Number, OneOf}
use Rattle.cfg_schema.specs.declared.table.Line.{Line}
use Rattle.cfg_schema.specs.Keyword.{spelled}
use Rattle.cfg_schema.specs.Profile.{profile, no_line, head_of, name_of}
use Rattle.cfg_schema.proofs.TestLemmas.{both, both_true}
use Rattle.cfg_schema.proofs.LevelLemmas.{all_at}
use Rattle.cfg_values.specs.Number.{IsNumberWithin}
use Rattle.cfg_values.specs.Address.{IsAddress, AreOctets, dotted, prefix_text, Network, IsPrefix}
use Rattle.cfg_values.specs.Address6.{Network6, IsPrefix6, is_group_byte, prefix6_text}
use Rattle.cfg_values.specs.Interface.{IsInterface, Units, EveryUnit, UnitOf, IsUnits, is_interface_byte, units_text}
use Rattle.cfg_values.specs.Choice.{words_of}
use Rattle.cfg_values.specs.Pattern.{IsPattern, is_pattern_byte}
use Rattle.cfg_values.specs.Spelling.{IsCanonical}
use Rattle.cfg_values.proofs.NumberLemmas.{number_below}
use Rattle.cfg_values.proofs.AddressLemmas.{length-dotted-le, area_again, prefix_quad, prefix_bits}
use Rattle.cfg_values.proofs.Address6Lemmas.{address6_short, prefix6_address, prefix6_bits}
use Rattle.cfg_lex.specs.Bytes.{is_printing}
use Rattle.cfg_lex.specs.Printed.{IsPrintable}
use Rattle.cfg_tree.specs.Typed.{IsName, AreCanonical}

abbrev PrintingAll : List ℕ → Type 0
PrintingAll bytes = list_all is_printing bytes ≡ true

-- a test that is at most as wide
weaker : (p q : ℕ → Bool) → ((b : ℕ) → p b ≡ true → q b ≡ true) → (bytes : List ℕ) → list_all p bytes ≡ true → list_all q bytes ≡ true
weaker p q h [] e = refl
weaker p q h (b ∷ bytes) e = let parts = both (p b) _ e in both_true _ _ (h b parts.0) (weaker p q h bytes parts.1)

all_listed : (bytes : List ℕ) → All (λ b. is_printing b ≡ true) bytes → PrintingAll bytes
all_listed [] h = refl
all_listed (b ∷ bytes) h =
    both_true _ _ (All-head (λ b. is_printing b ≡ true) b bytes h) (all_listed bytes (All-tail (λ b. is_printing b ≡ true) b bytes h))

name_byte : (b : ℕ) → is_name_byte b ≡ true → is_printing b ≡ true
name_byte b e = grind (arith, nat_tests)

host_byte : (b : ℕ) → is_host_byte b ≡ true → is_printing b ≡ true
host_byte b e = grind (arith, nat_tests)

interface_byte : (b : ℕ) → is_interface_byte b ≡ true → is_printing b ≡ true
interface_byte b e = grind (arith, nat_tests)

group_byte : (b : ℕ) → is_group_byte b ≡ true → is_printing b ≡ true
group_byte b e = grind (arith, nat_tests)

in_range : (b : ℕ) → 32 ≤ b → b ≤ 126 → is_printing b ≡ true
in_range b low high = grind (arith, nat_tests)

pattern_byte : (b : ℕ) → is_pattern_byte b ≡ true → is_printing b ≡ true
pattern_byte b e = grind (arith, nat_tests)

digits_print : (bytes : List ℕ) → AllDigits 10 bytes → PrintingAll bytes
digits_print bytes digits =
    all_listed bytes (λ k d within.
    let digit = digit_at bytes k digits within
    in let same = get_or_default bytes k d 0 within
    in in_range (get_or bytes k d) (omega (arith, digit, same)) (omega (arith, digit, same)))

decimal_print : (n : ℕ) → n < 2 ^ 64 → PrintingAll (decimal n)
decimal_print n small = digits_print (decimal n) (decimal_is_IsNumeral n small).0.1

joined_print : (a b : List ℕ) → PrintingAll a → PrintingAll b → PrintingAll (a ++ b)
joined_print a b h k = list_all-append is_printing a b ∙ both_true _ _ h k

dotted_print : (numbers : List ℕ) → AreOctets numbers → PrintingAll (dotted numbers)
dotted_print [] octets = refl
dotted_print (n ∷ []) octets = decimal_print n (omega (arith, octets.0))
dotted_print (n ∷ m ∷ numbers) octets =
    joined_print (decimal n) (46 ∷ dotted (m ∷ numbers)) (decimal_print n (omega (arith, octets.0))) (dotted_print (m ∷ numbers) octets.1)

address_printable : (bytes quad : List ℕ) → IsAddress bytes quad → IsPrintable (dotted quad)
address_printable bytes quad h = record {
  short = omega (arith, length-dotted-le quad h.octets, h.four);
  printing = dotted_print quad h.octets;
}

decimal_short : (n : ℕ) → n < 10 ^ 10 → length (decimal n) ≤ 10
decimal_short n h = length-decimal-le 10 n (omega arith) h (omega arith)

number_printable : (from to : ℕ) (bytes : List ℕ) (n : ℕ) → IsNumberWithin from to bytes n → IsPrintable (decimal n)
number_printable from to bytes n h =
    let below = number_below bytes n h.read
    in record { short = omega (arith, decimal_short n below); printing = decimal_print n (omega (arith, below)) }

prefix_printable : (bytes : List ℕ) (net : Network) → IsPrefix bytes net → IsPrintable (prefix_text net)
prefix_printable bytes net h =
    let quad = address_printable (dotted net.quad) net.quad (prefix_quad bytes net h)
    in let four = prefix_quad bytes net h
    in let bits = prefix_bits bytes net h
    in record {
      short =
          omega (
            arith,
            length-append (dotted net.quad) (47 ∷ decimal net.bits),
            length-dotted-le net.quad four.octets,
            four.four,
            decimal_short net.bits (omega (arith, bits)),
          );
      printing = joined_print (dotted net.quad) (47 ∷ decimal net.bits) quad.printing (decimal_print net.bits (omega (arith, bits)));
    }

prefix6_printable : (bytes : List ℕ) (net : Network6) → IsPrefix6 bytes net → IsPrintable (prefix6_text net)
prefix6_printable bytes net h =
    let address = prefix6_address bytes net h
    in let bits = prefix6_bits bytes net h
    in record {
      short =
          omega (
            arith,
            length-append (hex_groups_text net.groups) (47 ∷ decimal net.bits),
            address6_short _ _ address,
            decimal_short net.bits (omega (arith, bits)),
          );
      printing =
          joined_print (hex_groups_text net.groups) (47 ∷ decimal net.bits)
          (weaker is_group_byte is_printing group_byte (hex_groups_text net.groups) address.bare) (decimal_print net.bits (omega (arith, bits)));
    }

interface_printable : (bytes : List ℕ) → IsInterface bytes → IsPrintable bytes
interface_printable bytes h = record { short = omega (arith, h.short); printing = weaker is_interface_byte is_printing interface_byte bytes h.each }

unit_printable : (name : List ℕ) (unit : ℕ) → IsInterface name → unit < 10 ^ 10 → IsPrintable (name ++ 46 ∷ decimal unit)
unit_printable name unit h small = record {
  short = omega (arith, length-append name (46 ∷ decimal unit), h.short, decimal_short unit small);
  printing = joined_print name (46 ∷ decimal unit) (interface_printable name h).printing (decimal_print unit (omega (arith, small)));
}

units_printable : (bytes : List ℕ) (units : Units) → IsUnits bytes units → IsPrintable (units_text units)
units_printable bytes EveryUnit h = record { short = omega arith; printing = refl }
units_printable bytes (UnitOf name unit) (inl h) =
    unit_printable name unit (subst (λ (w : List ℕ). IsInterface w) (sym h.same) h.interface) (omega (arith, h.zero_th))
units_printable bytes (UnitOf name unit) (inr h) = unit_printable name unit h.interface (omega (arith, number_below h.digits unit h.number.read))

-- each word of a choice
abbrev are_short : List (List ℕ) → Bool
are_short words = list_all (λ (word : List ℕ). nat_le (length word) 255 && list_all is_printing word) words

choices_short : (choice : Choice) → are_short (words_of choice) ≡ true
choices_short Permission = refl
choices_short RootLogin = refl
choices_short GroupType = refl
choices_short Protocol = refl
choices_short NextHop = refl
choices_short PacketProtocol = refl

short_printable : (word : List ℕ) → (nat_le (length word) 255 && list_all is_printing word) ≡ true → IsPrintable word
short_printable word h = let parts = both (nat_le (length word) 255) _ h in record { short = few (length word) parts.0; printing = parts.1 }
  where
    few : (n : ℕ) → nat_le n 255 ≡ true → n ≤ 255
    few n e = grind (arith, nat_tests)

choice_printable : (choice : Choice) (bytes : List ℕ) → Contains (words_of choice) bytes → IsPrintable bytes
choice_printable choice bytes h =
    short_printable bytes
    (subst (λ (w : List ℕ). (nat_le (length w) 255 && list_all is_printing w) ≡ true) h.2
    (all_at (λ (word : List ℕ). nat_le (length word) 255 && list_all is_printing word) (words_of choice) h.0 bytes (choices_short choice) h.1))

-- each canonical word
canonical_printable : (kind : Kind) (word : List ℕ) → IsCanonical kind word → IsPrintable word
canonical_printable Name word h = record { short = omega (arith, h.spells.0.1); printing = weaker is_name_byte is_printing name_byte word h.spells.0.2 }
canonical_printable Host word h = record { short = h.spells.0.1; printing = weaker is_host_byte is_printing host_byte word h.spells.0.2 }
canonical_printable Text word h = record { short = h.spells.0.short; printing = h.spells.0.each }
canonical_printable Address word h = subst (λ (w : List ℕ). IsPrintable w) (sym h.canonical_is) (address_printable word h.value h.spells)
canonical_printable Prefix word h = subst (λ (w : List ℕ). IsPrintable w) (sym h.canonical_is) (prefix_printable word h.value h.spells)
canonical_printable Prefix6 word h = subst (λ (w : List ℕ). IsPrintable w) (sym h.canonical_is) (prefix6_printable word h.value h.spells)
canonical_printable Area word h =
    subst (λ (w : List ℕ). IsPrintable w) (sym h.canonical_is) (address_printable (dotted h.value) h.value (area_again word h.value h.spells))
canonical_printable IfName word h = interface_printable word h.spells.0
canonical_printable IfUnit word h = subst (λ (w : List ℕ). IsPrintable w) (sym h.canonical_is) (units_printable word h.value h.spells)
canonical_printable (Number from to) word h = subst (λ (w : List ℕ). IsPrintable w) (sym h.canonical_is) (number_printable from to word h.value h.spells)
canonical_printable (OneOf choice) word h = choice_printable choice word h.spells.0

pattern_printable : (word : List ℕ) → IsPattern word → IsPrintable word
pattern_printable word h =
    subst (λ (w : List ℕ). IsPrintable w) (sym h.spelled)
    record {
      short = omega (arith, length-append h.inner (62 ∷ []), h.short);
      printing = joined_print h.inner (62 ∷ []) (weaker is_pattern_byte is_printing pattern_byte h.inner h.each) refl;
    }

-- a name of a row
pub name_printable : (in_group : Bool) (kind : Kind) (name : List ℕ) → IsName in_group kind name → IsPrintable name
name_printable in_group kind name (inl h) = canonical_printable kind name h
name_printable in_group kind name (inr h) = pattern_printable name h.0.2

-- the words of a value
abbrev pub AllPrintable : List (List ℕ) → Type 0
AllPrintable [] = Unit {0}
AllPrintable (word ∷ words) = IsPrintable word × AllPrintable words

pub words_printable : (kind : Kind) (words : List (List ℕ)) → AreCanonical kind words → AllPrintable words
words_printable kind [] h = tt
words_printable kind (word ∷ words) h =
    (canonical_printable kind word (All-head (IsCanonical kind) word words h), words_printable kind words (All-tail (IsCanonical kind) word words h))

-- the heads of the rows, and the names of the Fixed ones
abbrev has_printable : Line → Bool
has_printable line =
    (nat_le (length (spelled line.head)) 255 && list_all is_printing (spelled line.head))
    && (nat_le (length (spelled line.name)) 255 && list_all is_printing (spelled line.name))

profile_printable : list_all has_printable profile ≡ true
unfolding profile
profile_printable = refl

pub heads_printable : (id : ℕ) → id < length profile → IsPrintable (head_of id) × IsPrintable (name_of id)
heads_printable id within =
    let parts = both _ _ (all_at has_printable profile id no_line profile_printable within)
    in (short_printable (head_of id) parts.0, short_printable (name_of id) parts.1)
