-- Names by their first bytes: no number, address, prefix or area is a wildcard name, and no address or prefix is a head.
use Rattle.std.proofs.Common.{◌≡◌, ℕ, ◌<◌, ◌≤◌, nat_le, Bool, true, false, not, ◌&&◌, ◌||◌, List, [], ◌∷◌, ◌++◌, length, get_or, refl, sym, ap, subst, ◌∙◌, inl, inr, arith, length-append}
use Rattle.std.specs.List.{list_all}
use Rattle.std.specs.Fmt.{decimal}
use Rattle.std.specs.Str.Parse.{IsNumeral}
use Rattle.std.proofs.Math.ListN.{get_or-append}
use Rattle.std.proofs.lemmas.Bool.Decides.{nat_tests}
use Rattle.std.proofs.lemmas.Fmt.{decimal_is_IsNumeral}
use Rattle.std.proofs.lemmas.Str.Parse.{digit_at}
use Rattle.cfg_base.specs.Kind.{is_name_byte, is_host_byte}
use Rattle.cfg_base.specs.declared.kind.Kind.{Kind}
use Rattle.cfg_base.specs.declared.kind.Kind.TheVariants.{Name, Host, Text, Address, Prefix, Prefix6, Area, IfName, IfUnit, Number, OneOf}
use Rattle.cfg_base.specs.declared.kind.Shape.TheVariants.{Bare}
use Rattle.cfg_schema.specs.declared.table.Line.{Line}
use Rattle.cfg_schema.specs.Keyword.{spelled}
use Rattle.cfg_schema.specs.Profile.{profile, line_at, no_line, row_of, is_bare}
use Rattle.cfg_schema.specs.Child.{IsNoHead}
use Rattle.cfg_schema.proofs.TestLemmas.{bare_is}
use Rattle.cfg_schema.proofs.LevelLemmas.{all_at}
use Rattle.cfg_values.specs.Number.{IsNumberWithin}
use Rattle.cfg_values.specs.Address.{IsAddress, IsPrefix, IsArea, AreOctets, dotted}
use Rattle.cfg_values.specs.Address6.{is_group_byte, IsAddress6, IsPrefix6}
use Rattle.cfg_values.specs.Interface.{IsInterface, IsUnits, EveryUnit, UnitOf}
use Rattle.cfg_values.specs.Pattern.{IsPattern}
use Rattle.cfg_values.specs.Spelling.{IsCanonicalOf, ValueOf}
use Rattle.cfg_values.proofs.Address6Lemmas.{address6_some}
use Rattle.cfg_values.proofs.SpellingLemmas.{IsCanonicalOf-unique, IsCanonical-from}
use Rattle.cfg_tree.specs.Typed.{IsNameOf, IsName}

-- the bytes begin with a byte between two
abbrev Begins : ℕ → ℕ → List ℕ → Type 0
Begins from to bytes = (0 < length bytes) × (from ≤ get_or bytes 0 0) × (get_or bytes 0 0 ≤ to)

begins_more : (from to : ℕ) (bytes more : List ℕ) → Begins from to bytes → Begins from to (bytes ++ more)
begins_more from to bytes more h =
    let first = get_or-append bytes more 0 0 h.0
    in (omega (arith, h.0, length-append bytes more), omega (arith, h.1, first), omega (arith, h.2, first))

numeral_begins : (bytes : List ℕ) → IsNumeral 10 bytes → Begins 48 57 bytes
numeral_begins bytes h = let range = digit_at bytes 0 h.1 h.0 in (h.0, omega (arith, range), omega (arith, range))

decimal_begins : (n : ℕ) → n < 256 → Begins 48 57 (decimal n)
decimal_begins n h = numeral_begins (decimal n) (decimal_is_IsNumeral n (omega arith)).0

dotted_begins : (numbers : List ℕ) → 0 < length numbers → AreOctets numbers → Begins 48 57 (dotted numbers)
dotted_begins [] some octets = absurd (omega arith)
dotted_begins (n ∷ []) some octets = decimal_begins n octets.0
dotted_begins (n ∷ m ∷ numbers) some octets = begins_more 48 57 (decimal n) _ (decimal_begins n octets.0)

address_begins : (bytes quad : List ℕ) → IsAddress bytes quad → Begins 48 57 bytes
address_begins bytes quad h =
    subst (λ (b : List ℕ). Begins 48 57 b) (sym h.spelled) (dotted_begins quad (omega (arith, h.four)) h.octets)

number_begins : (from to : ℕ) (bytes : List ℕ) (n : ℕ) → IsNumberWithin from to bytes n → Begins 48 57 bytes
number_begins from to bytes n h = numeral_begins bytes h.read.digits

lowercase_begins : (bytes : List ℕ) → IsInterface bytes → Begins 97 122 bytes
lowercase_begins [] h = absurd (omega (arith, h.some))
lowercase_begins (b ∷ bytes) h = (omega arith, low b h.first, high b h.first)
  where
    low : (c : ℕ) → (nat_le 97 c && nat_le c 122) ≡ true → 97 ≤ c
    low c t = grind (arith, nat_tests)

    high : (c : ℕ) → (nat_le 97 c && nat_le c 122) ≡ true → c ≤ 122
    high c t = grind (arith, nat_tests)

units_begin : (bytes : List ℕ) (units : ValueOf IfUnit) → IsUnits bytes units → Begins 97 122 bytes
units_begin bytes EveryUnit h = subst (λ (b : List ℕ). Begins 97 122 b) (sym h) (omega arith, omega arith, omega arith)
units_begin bytes (UnitOf name unit) (inl h) = lowercase_begins bytes h.interface
units_begin bytes (UnitOf name unit) (inr h) =
    subst (λ (b : List ℕ). Begins 97 122 b) (sym h.spelled) (begins_more 97 122 name _ (lowercase_begins name h.interface))

-- a wildcard name begins with `<`
pattern_begins : (bytes : List ℕ) → IsPattern bytes → get_or bytes 0 0 ≡ 60
pattern_begins bytes h = ap (λ (b : List ℕ). get_or b 0 0) h.spelled

not_digit : (bytes : List ℕ) → Begins 48 57 bytes → IsPattern bytes → ⊥
not_digit bytes h p = omega (arith, h.2, pattern_begins bytes p)

not_lowercase : (bytes : List ℕ) → Begins 97 122 bytes → IsPattern bytes → ⊥
not_lowercase bytes h p = omega (arith, h.1, pattern_begins bytes p)

prefix_begins : (bytes : List ℕ) (net : ValueOf Prefix) → IsPrefix bytes net → Begins 48 57 bytes
prefix_begins bytes net (inl h) = address_begins bytes net.quad h.address
prefix_begins bytes net (inr h) =
    subst (λ (b : List ℕ). Begins 48 57 b) (sym h.spelled)
    (begins_more 48 57 h.text _
    (subst (λ (b : List ℕ). Begins 48 57 b) (sym h.front.spelled) (dotted_begins h.numbers h.front.some h.front.octets)))

-- an IPv6 address or prefix begins with a digit of a group or a colon
abbrev BeginsGroup : List ℕ → Type 0
BeginsGroup bytes = (0 < length bytes) × (is_group_byte (get_or bytes 0 0) ≡ true)

first_group : (bytes : List ℕ) → 0 < length bytes → list_all is_group_byte bytes ≡ true → is_group_byte (get_or bytes 0 0) ≡ true
first_group [] some h = absurd (omega (arith, some))
first_group (b ∷ bytes) some h = by_test (is_group_byte b) h
  where
    by_test : (c : Bool) → (c && list_all is_group_byte bytes) ≡ true → c ≡ true
    by_test true e = refl
    by_test false e = cc

address6_begins : (bytes groups : List ℕ) → IsAddress6 bytes groups → BeginsGroup bytes
address6_begins bytes groups h = let some = address6_some bytes groups h in (some, first_group bytes some h.bare)

prefix6_begins : (bytes : List ℕ) (net : ValueOf Prefix6) → IsPrefix6 bytes net → BeginsGroup bytes
prefix6_begins bytes net (inl h) = address6_begins bytes net.groups h.address
prefix6_begins bytes net (inr h) =
    let front = address6_begins h.text net.groups h.address
    in let whole : BeginsGroup (h.text ++ 47 ∷ decimal net.bits) =
    (omega (arith, front.0, length-append h.text (47 ∷ decimal net.bits)), ap is_group_byte (get_or-append h.text (47 ∷ decimal net.bits) 0 0 front.0) ∙ front.1)
    in subst (λ (b : List ℕ). BeginsGroup b) (sym h.spelled) whole

no_angle6 : (bytes : List ℕ) → BeginsGroup bytes → get_or bytes 0 0 ≡ 60 → ⊥
no_angle6 bytes h e = let k : false ≡ true = ap is_group_byte (sym e) ∙ h.1 in cc

-- where a wildcard name is a spelling of a kind, it is the canonical one
spelled_pattern : (kind : Kind) (bytes word : List ℕ) → IsCanonicalOf kind bytes word → IsPattern bytes → word ≡ bytes
spelled_pattern Name bytes word h p = h.canonical_is ∙ h.spells.1
spelled_pattern Host bytes word h p = h.canonical_is ∙ h.spells.1
spelled_pattern Text bytes word h p = h.canonical_is ∙ h.spells.1
spelled_pattern IfName bytes word h p = h.canonical_is ∙ h.spells.1
spelled_pattern (OneOf choice) bytes word h p = h.canonical_is ∙ h.spells.1
spelled_pattern Address bytes word h p = absurd (not_digit bytes (address_begins bytes h.value h.spells) p)
spelled_pattern Prefix bytes word h p = absurd (not_digit bytes (prefix_begins bytes h.value h.spells) p)
spelled_pattern Prefix6 bytes word h p = absurd (no_angle6 bytes (prefix6_begins bytes h.value h.spells) (pattern_begins bytes p))
spelled_pattern Area bytes word h p = by_area h.spells
  where
    by_area : IsArea bytes h.value → word ≡ bytes
    by_area (inl a) = absurd (not_digit bytes (address_begins bytes h.value a) p)
    by_area (inr n) = absurd (not_digit bytes (number_begins _ _ bytes _ n.read) p)
spelled_pattern IfUnit bytes word h p = absurd (not_lowercase bytes (units_begin bytes h.value h.spells) p)
spelled_pattern (Number from to) bytes word h p = absurd (not_digit bytes (number_begins from to bytes h.value h.spells) p)

-- bytes are one name at most
pub name_unique : (in_group : Bool) (kind : Kind) (bytes one two : List ℕ) → IsNameOf in_group kind bytes one → IsNameOf in_group kind bytes two → one ≡ two
name_unique in_group kind bytes one two (inl h) (inl g) = IsCanonicalOf-unique kind bytes one two h g
name_unique in_group kind bytes one two (inl h) (inr g) = spelled_pattern kind bytes one h g.0.2 ∙ sym g.1
name_unique in_group kind bytes one two (inr h) (inl g) = h.1 ∙ sym (spelled_pattern kind bytes two g h.0.2)
name_unique in_group kind bytes one two (inr h) (inr g) = h.1 ∙ sym g.1

-- what bytes name is a name as it is kept
pub name_again : (in_group : Bool) (kind : Kind) (bytes word : List ℕ) → IsNameOf in_group kind bytes word → IsName in_group kind word
name_again in_group kind bytes word (inl h) = inl (IsCanonical-from kind bytes word h)
name_again in_group kind bytes word (inr h) =
    inr ((h.0.0, h.0.1, subst (λ (b : List ℕ). IsPattern b) (sym h.1) h.0.2), refl)

-- no head begins with a digit
abbrev no_digit : List ℕ → Bool
no_digit [] = true
no_digit (b ∷ bytes) = not (nat_le 48 b && nat_le b 57)

abbrev begins_plain : Line → Bool
begins_plain line = no_digit (spelled line.head)

profile_plain : list_all begins_plain profile ≡ true
unfolding profile
profile_plain = refl

digit_clash : (bytes : List ℕ) → no_digit bytes ≡ true → Begins 48 57 bytes → ⊥
digit_clash [] e h = omega (arith, h.0)
digit_clash (b ∷ bytes) e h = by_byte b e h.1 h.2
  where
    by_byte : (c : ℕ) → not (nat_le 48 c && nat_le c 57) ≡ true → 48 ≤ c → c ≤ 57 → ⊥
    by_byte c t low high = grind (arith, nat_tests)

no_head : (parent : ℕ) (in_group : Bool) (name : List ℕ) → Begins 48 57 name → IsNoHead parent in_group name
no_head parent in_group name h id head =
    digit_clash (spelled (line_at profile id).head) (all_at begins_plain profile id no_line profile_plain head.0.0)
    (subst (λ (b : List ℕ). Begins 48 57 b) (sym head.2) h)

-- the kinds of bare names
abbrev is_bare_kind : Kind → Bool
is_bare_kind Name = true
is_bare_kind IfName = true
is_bare_kind Address = true
is_bare_kind Prefix = true
is_bare_kind _ = false

abbrev has_bare_kind : Line → Bool
has_bare_kind line = not (is_bare line.shape) || is_bare_kind line.name_kind

profile_bare_kinds : list_all has_bare_kind profile ≡ true
unfolding profile
profile_bare_kinds = refl

kind_of_bare : (b c : Bool) → (not b || c) ≡ true → b ≡ true → c ≡ true
kind_of_bare true c h e = h
kind_of_bare false c h e = cc

canonical_no_head : (kind : Kind) (parent : ℕ) (in_group : Bool) (bytes word : List ℕ) → is_bare_kind kind ≡ true → IsCanonicalOf kind bytes word
    → IsNoHead parent in_group bytes → IsNoHead parent in_group word
canonical_no_head Name parent in_group bytes word e h none =
    subst (λ (b : List ℕ). IsNoHead parent in_group b) (sym (h.canonical_is ∙ h.spells.1)) none
canonical_no_head IfName parent in_group bytes word e h none =
    subst (λ (b : List ℕ). IsNoHead parent in_group b) (sym (h.canonical_is ∙ h.spells.1)) none
canonical_no_head Address parent in_group bytes word e h none =
    no_head parent in_group word (address_begins word _ (IsCanonical-from Address bytes word h).spells)
canonical_no_head Prefix parent in_group bytes word e h none =
    no_head parent in_group word (prefix_begins word _ (IsCanonical-from Prefix bytes word h).spells)
canonical_no_head Host parent in_group bytes word e h none = cc
canonical_no_head Text parent in_group bytes word e h none = cc
canonical_no_head Prefix6 parent in_group bytes word e h none = cc
canonical_no_head Area parent in_group bytes word e h none = cc
canonical_no_head IfUnit parent in_group bytes word e h none = cc
canonical_no_head (Number from to) parent in_group bytes word e h none = cc
canonical_no_head (OneOf choice) parent in_group bytes word e h none = cc

-- where a bare word is no head, the name that it is is none
pub name_no_head : (id parent : ℕ) (in_group : Bool) (bytes word : List ℕ) → id < length profile → (row_of id).shape ≡ Bare
    → IsNameOf in_group (row_of id).name_kind bytes word → IsNoHead parent in_group bytes → IsNoHead parent in_group word
name_no_head id parent in_group bytes word within is_bare_row (inr h) none = subst (λ (b : List ℕ). IsNoHead parent in_group b) (sym h.1) none
name_no_head id parent in_group bytes word within is_bare_row (inl h) none =
    canonical_no_head (row_of id).name_kind parent in_group bytes word
    (kind_of_bare (is_bare (line_at profile id).shape) _ (all_at has_bare_kind profile id no_line profile_bare_kinds within) (bare_is _ is_bare_row)) h none

-- the kinds of names: no row's name is a text or a choice
abbrev is_name_kind : Kind → Bool
is_name_kind Text = false
is_name_kind (OneOf choice) = false
is_name_kind _ = true

abbrev has_name_kind : Line → Bool
has_name_kind line = is_name_kind line.name_kind

profile_name_kinds : list_all has_name_kind profile ≡ true
unfolding profile
profile_name_kinds = refl

spelled_some : (kind : Kind) (bytes word : List ℕ) → is_name_kind kind ≡ true → IsCanonicalOf kind bytes word → 0 < length bytes
spelled_some Name bytes word e h = h.spells.0.0
spelled_some Host bytes word e h = h.spells.0.0
spelled_some IfName bytes word e h = h.spells.0.some
spelled_some Address bytes word e h = (address_begins bytes h.value h.spells).0
spelled_some Prefix bytes word e h = (prefix_begins bytes h.value h.spells).0
spelled_some Prefix6 bytes word e h = (prefix6_begins bytes h.value h.spells).0
spelled_some Area bytes word e h = by_area h.spells
  where
    by_area : IsArea bytes h.value → 0 < length bytes
    by_area (inl a) = (address_begins bytes h.value a).0
    by_area (inr n) = (number_begins _ _ bytes _ n.read).0
spelled_some IfUnit bytes word e h = (units_begin bytes h.value h.spells).0
spelled_some (Number from to) bytes word e h = (number_begins from to bytes h.value h.spells).0
spelled_some Text bytes word e h = cc
spelled_some (OneOf choice) bytes word e h = cc

-- no name is empty
pub name_some : (id : ℕ) (in_group : Bool) (name : List ℕ) → id < length profile → IsName in_group (row_of id).name_kind name → 0 < length name
name_some id in_group name within (inl h) =
    spelled_some (row_of id).name_kind name name (all_at has_name_kind profile id no_line profile_name_kinds within) h
name_some id in_group name within (inr h) = subst (λ (b : List ℕ). 0 < length b) (sym h.0.2.spelled) (omega arith)

-- outside groups no name begins with `<`
first_byte : (t : ℕ → Bool) (bytes : List ℕ) → 0 < length bytes → list_all t bytes ≡ true → t (get_or bytes 0 0) ≡ true
first_byte t [] some h = absurd (omega (arith, some))
first_byte t (b ∷ bytes) some h = by_test (t b) h
  where
    by_test : (c : Bool) → (c && list_all t bytes) ≡ true → c ≡ true
    by_test true e = refl
    by_test false e = cc

no_angle : (t : ℕ → Bool) (bytes : List ℕ) → t 60 ≡ false → 0 < length bytes → list_all t bytes ≡ true → get_or bytes 0 0 ≡ 60 → ⊥
no_angle t bytes none some h e = let k = sym (ap t e) ∙ first_byte t bytes some h in let c = sym none ∙ k in cc

canonical_tame : (kind : Kind) (bytes word : List ℕ) → is_name_kind kind ≡ true → IsCanonicalOf kind bytes word → get_or bytes 0 0 ≡ 60 → ⊥
canonical_tame Name bytes word e h angle = no_angle is_name_byte bytes refl h.spells.0.0 h.spells.0.2 angle
canonical_tame Host bytes word e h angle = no_angle is_host_byte bytes refl h.spells.0.0 h.spells.0.2 angle
canonical_tame IfName bytes word e h angle = let k = (lowercase_begins bytes h.spells.0).1 in omega (arith, k, angle)
canonical_tame Address bytes word e h angle = let k = (address_begins bytes h.value h.spells).2 in omega (arith, k, angle)
canonical_tame Prefix bytes word e h angle = let k = (prefix_begins bytes h.value h.spells).2 in omega (arith, k, angle)
canonical_tame Prefix6 bytes word e h angle = no_angle6 bytes (prefix6_begins bytes h.value h.spells) angle
canonical_tame Area bytes word e h angle = by_area h.spells
  where
    by_area : IsArea bytes h.value → ⊥
    by_area (inl a) = let k = (address_begins bytes h.value a).2 in omega (arith, k, angle)
    by_area (inr n) = let k = (number_begins _ _ bytes _ n.read).2 in omega (arith, k, angle)
canonical_tame IfUnit bytes word e h angle = let k = (units_begin bytes h.value h.spells).1 in omega (arith, k, angle)
canonical_tame (Number from to) bytes word e h angle = let k = (number_begins from to bytes h.value h.spells).2 in omega (arith, k, angle)
canonical_tame Text bytes word e h angle = cc
canonical_tame (OneOf choice) bytes word e h angle = cc

pub name_tame : (id : ℕ) (name : List ℕ) → id < length profile → IsName false (row_of id).name_kind name → get_or name 0 0 ≡ 60 → ⊥
name_tame id name within (inl h) angle =
    canonical_tame (row_of id).name_kind name name (all_at has_name_kind profile id no_line profile_name_kinds within) h angle
name_tame id name within (inr h) angle = let k : false ≡ true = h.0.0 in cc
