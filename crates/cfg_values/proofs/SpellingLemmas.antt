-- A spelling stands for one value, and a value's canonical spelling reads as that value.
use Rattle.std.proofs.Common.{◌≡◌, ◌∙◌, sym, ap, subst, refl, ℕ, List, [], ◌∷◌, eqb, false, inl, inr, arith, lit<}
use Rattle.std.specs.Prelude.{All, Contains, ◌↔◌, Result, Ok, Err, MatchResult, IfOk}
use Rattle.std.specs.Fmt.{decimal}
use Rattle.std.specs.Int.{w32, to_be_bytes}
use Rattle.std.proofs.lemmas.Fmt.{decimal_injective}
use Rattle.std.proofs.lemmas.List.Elements.{All-from_recursion}
use Rattle.cfg_base.specs.Kind.{IsName, IsHost}
use Rattle.cfg_base.specs.declared.kind.Kind.{Kind}
use Rattle.cfg_base.specs.declared.kind.Kind.TheVariants.{Name, Host, Text, Address, Prefix, Prefix6, Area, IfName, IfUnit, Number, OneOf}
use Rattle.cfg_values.specs.Number.{IsNumber}
use Rattle.cfg_values.specs.Address.{IsAddress, IsFront, IsHostRoute, IsNetwork, IsPrefix, IsArea, Network, network, dotted, filled}
use Rattle.cfg_values.specs.Interface.{IsInterface, IsUnits, IsUnitZero, IsNumberedUnit, Units, EveryUnit, UnitOf, every_unit}
use Rattle.cfg_values.specs.Choice.{words_of}
use Rattle.cfg_values.specs.Spelling.{IsText, ValueOf, Spells, canonical, IsCanonical, IsCanonicalOf}
use Rattle.cfg_values.proofs.NumberLemmas.{IsNumber-unique, IsNumber-decimal, no_mark_in_digits, within_again}
use Rattle.cfg_values.proofs.CutLemmas.{not_cut, IsCut-before, IsCut-after}
use Rattle.cfg_values.proofs.DotLemmas.{IsFront-unique, front_from_address}
use Rattle.cfg_values.proofs.AddressLemmas.{no_slash_in_address, network_is_cut, address_again, area_again, prefix_again}
use Rattle.cfg_values.proofs.Address6Lemmas.{IsPrefix6-unique, prefix6_again}
use Rattle.cfg_values.proofs.InterfaceLemmas.{no_dot_in_interface, unit_is_cut}

-- an address is spelled by one text, and a text spells one address
pub IsAddress-unique : (bytes quad other : List ℕ) → IsAddress bytes quad → IsAddress bytes other → quad ≡ other
IsAddress-unique bytes quad other one two =
    IsFront-unique bytes quad other (front_from_address bytes quad one) (front_from_address bytes other two)

-- two networks of the same numbers and length are one
same_network : (one two : Network) → one.quad ≡ two.quad → one.bits ≡ two.bits → one ≡ two
same_network one two quads bits = ap (λ q. network q one.bits) quads ∙ ap (λ b. network two.quad b) bits

-- an address alone has no slash
host_or_network : (bytes : List ℕ) (one two : Network) → IsHostRoute bytes one → IsNetwork bytes two → ⊥
host_or_network bytes one two host n = not_cut 47 bytes n.text (decimal two.bits) (no_slash_in_address bytes one.quad host.address) n.spelled

IsNetwork-unique : (bytes : List ℕ) (one two : Network) → IsNetwork bytes one → IsNetwork bytes two → one ≡ two
IsNetwork-unique bytes one two m n =
    let cut = network_is_cut bytes one m in
    let other = network_is_cut bytes two n in
    let texts = IsCut-before 47 bytes m.text (decimal one.bits) n.text (decimal two.bits) cut other in
    let bits = IsCut-after 47 bytes m.text (decimal one.bits) n.text (decimal two.bits) cut other in
    let numbers = IsFront-unique m.text m.numbers n.numbers m.front (subst (λ t. IsFront t n.numbers) (sym texts) n.front) in
    same_network one two (m.filled_up ∙ ap filled numbers ∙ sym n.filled_up)
    (decimal_injective one.bits two.bits (omega (arith, m.within)) (omega (arith, n.within)) bits)

-- a prefix is determined by its text
pub IsPrefix-unique : (bytes : List ℕ) (one two : Network) → IsPrefix bytes one → IsPrefix bytes two → one ≡ two
IsPrefix-unique bytes one two (inl h) (inl g) =
    same_network one two (IsAddress-unique bytes one.quad two.quad h.address g.address) (h.whole ∙ sym g.whole)
IsPrefix-unique bytes one two (inl h) (inr n) = absurd (host_or_network bytes one two h n)
IsPrefix-unique bytes one two (inr m) (inl g) = absurd (host_or_network bytes two one g m)
IsPrefix-unique bytes one two (inr m) (inr n) = IsNetwork-unique bytes one two m n

-- four numbers have a dot between them
dot_in_address : (bytes quad : List ℕ) → IsAddress bytes quad → All (λ b. eqb b 46 ≡ false) bytes → ⊥
dot_in_address bytes [] address none = omega (arith, address.four)
dot_in_address bytes (a ∷ []) address none = omega (arith, address.four)
dot_in_address bytes (a ∷ b ∷ quad) address none = not_cut 46 bytes (decimal a) (dotted (b ∷ quad)) none address.spelled

-- and a number has none
address_or_number : (bytes quad : List ℕ) (n : ℕ) → IsAddress bytes quad → IsNumber bytes n → ⊥
address_or_number bytes quad n address number =
    dot_in_address bytes quad address (no_mark_in_digits 46 bytes (lit< tt) number.digits.1)

-- an area is determined by its text
pub IsArea-unique : (bytes quad other : List ℕ) → IsArea bytes quad → IsArea bytes other → quad ≡ other
IsArea-unique bytes quad other (inl h) (inl g) = IsAddress-unique bytes quad other h g
IsArea-unique bytes quad other (inl h) (inr n) = absurd (address_or_number bytes quad n.number h n.read.read)
IsArea-unique bytes quad other (inr m) (inl g) = absurd (address_or_number bytes other m.number g m.read.read)
IsArea-unique bytes quad other (inr m) (inr n) =
    m.split ∙ ap (to_be_bytes w32) (IsNumber-unique bytes m.number n.number m.read.read n.read.read) ∙ sym n.split

-- an interface alone has no dot
zero_or_numbered : (bytes name other : List ℕ) (unit number : ℕ) → IsUnitZero bytes name unit → IsNumberedUnit bytes other number → ⊥
zero_or_numbered bytes name other unit number z n = not_cut 46 bytes other n.digits (no_dot_in_interface bytes z.interface) n.spelled

-- the word for every unit names no one unit
not_one : (bytes name : List ℕ) (unit : ℕ) → bytes ≡ every_unit → IsUnits bytes (UnitOf name unit) → ⊥
not_one bytes name unit e (inl z) = z.not_every e
not_one bytes name unit e (inr n) =
    not_cut 46 every_unit name n.digits (All-from_recursion (λ b. eqb b 46 ≡ false) every_unit (refl, (refl, (refl, tt)))) (sym e ∙ n.spelled)

one_unit : (bytes name other : List ℕ) (unit number : ℕ) → IsUnits bytes (UnitOf name unit) → IsUnits bytes (UnitOf other number)
    → UnitOf name unit ≡ UnitOf other number
one_unit bytes name other unit number (inl z) (inl y) =
    ap (λ n. UnitOf n unit) (z.same ∙ sym y.same) ∙ ap (λ k. UnitOf other k) (z.zero_th ∙ sym y.zero_th)
one_unit bytes name other unit number (inl z) (inr n) = absurd (zero_or_numbered bytes name other unit number z n)
one_unit bytes name other unit number (inr m) (inl y) = absurd (zero_or_numbered bytes other name number unit y m)
one_unit bytes name other unit number (inr m) (inr n) =
    let cut = unit_is_cut bytes name unit m in
    let more = unit_is_cut bytes other number n in
    let digits = IsCut-after 46 bytes name m.digits other n.digits cut more in
    let numbers = IsNumber-unique m.digits unit number m.number.read (subst (λ ds. IsNumber ds number) (sym digits) n.number.read) in
    ap (λ n. UnitOf n unit) (IsCut-before 46 bytes name m.digits other n.digits cut more) ∙ ap (λ k. UnitOf other k) numbers

-- units are determined by their text
pub IsUnits-unique : (bytes : List ℕ) (one two : Units) → IsUnits bytes one → IsUnits bytes two → one ≡ two
IsUnits-unique bytes EveryUnit EveryUnit h g = refl
IsUnits-unique bytes EveryUnit (UnitOf name unit) h g = absurd (not_one bytes name unit h g)
IsUnits-unique bytes (UnitOf name unit) EveryUnit h g = absurd (not_one bytes name unit g h)
IsUnits-unique bytes (UnitOf name unit) (UnitOf other number) h g = one_unit bytes name other unit number h g

-- a spelling stands for one value of its kind
pub Spells-unique : (kind : Kind) (bytes : List ℕ) (one two : ValueOf kind) → Spells kind bytes one → Spells kind bytes two → one ≡ two
Spells-unique Name bytes one two h g = h.1 ∙ sym g.1
Spells-unique Host bytes one two h g = h.1 ∙ sym g.1
Spells-unique Text bytes one two h g = h.1 ∙ sym g.1
Spells-unique Address bytes one two h g = IsAddress-unique bytes one two h g
Spells-unique Prefix bytes one two h g = IsPrefix-unique bytes one two h g
Spells-unique Prefix6 bytes one two h g = IsPrefix6-unique bytes one two h g
Spells-unique Area bytes one two h g = IsArea-unique bytes one two h g
Spells-unique IfName bytes one two h g = h.1 ∙ sym g.1
Spells-unique IfUnit bytes one two h g = IsUnits-unique bytes one two h g
Spells-unique (Number from to) bytes one two h g = IsNumber-unique bytes one two h.read g.read
Spells-unique (OneOf choice) bytes one two h g = h.1 ∙ sym g.1

-- units are named by their own text
units_again : (bytes : List ℕ) (units : Units) → IsUnits bytes units → IsUnits (canonical IfUnit units) units
units_again bytes EveryUnit h = refl
units_again bytes (UnitOf name unit) (inl z) = inr (record {
  interface = subst IsInterface (sym z.same) z.interface;
  digits = decimal unit;
  number = record { read = IsNumber-decimal unit (omega (arith, z.zero_th)); low = omega arith; high = omega (arith, z.zero_th) };
  spelled = refl;
})
units_again bytes (UnitOf name unit) (inr n) =
    inr (record { interface = n.interface; digits = decimal unit; number = within_again 0 16385 n.digits unit n.number; spelled = refl })

-- the canonical spelling of a value reads as that value
pub Spells-canonical : (kind : Kind) (bytes : List ℕ) (value : ValueOf kind) → Spells kind bytes value → Spells kind (canonical kind value) value
Spells-canonical Name bytes value h = (subst IsName (sym h.1) h.0, refl)
Spells-canonical Host bytes value h = (subst IsHost (sym h.1) h.0, refl)
Spells-canonical Text bytes value h = (subst IsText (sym h.1) h.0, refl)
Spells-canonical Address bytes value h = address_again bytes value h
Spells-canonical Prefix bytes value h = inr (prefix_again bytes value h)
Spells-canonical Prefix6 bytes value h = inr (prefix6_again bytes value h)
Spells-canonical Area bytes value h = inl (area_again bytes value h)
Spells-canonical IfName bytes value h = (subst IsInterface (sym h.1) h.0, refl)
Spells-canonical IfUnit bytes value h = units_again bytes value h
Spells-canonical (Number from to) bytes value h = within_again from to bytes value h
Spells-canonical (OneOf choice) bytes value h = (subst (Contains (words_of choice)) (sym h.1) h.0, refl)

-- bytes have one canonical spelling
pub IsCanonicalOf-unique : (kind : Kind) (bytes one two : List ℕ) → IsCanonicalOf kind bytes one → IsCanonicalOf kind bytes two → one ≡ two
IsCanonicalOf-unique kind bytes one two h g =
    h.canonical_is ∙ ap (canonical kind) (Spells-unique kind bytes h.value g.value h.spells g.spells) ∙ sym g.canonical_is

-- it is its own
pub IsCanonical-from : (kind : Kind) (bytes word : List ℕ) → IsCanonicalOf kind bytes word → IsCanonical kind word
IsCanonical-from kind bytes word h = record {
  value = h.value;
  spells = subst (λ b. Spells kind b h.value) (sym h.canonical_is) (Spells-canonical kind bytes h.value h.spells);
  canonical_is = h.canonical_is;
}

-- bytes are kept exactly where they are canonical themselves
pub kept_where_canonical : (kind : Kind) (bytes word : List ℕ) → IsCanonicalOf kind bytes word → (word ≡ bytes) ↔ IsCanonical kind bytes
kept_where_canonical kind bytes word h =
    (λ e. subst (λ w. IsCanonicalOf kind bytes w) e h, λ own. IsCanonicalOf-unique kind bytes word bytes h own)

-- what follows from what holds of an `Ok`
pub ok_then : {T E : Type 0} (P R : T → Type 0) (Q : E → Type 0) (r : Result T E) → MatchResult r P Q → ((x : T) → P x → R x) → IfOk r R
ok_then P R Q (Ok x) h f = f x h
ok_then P R Q (Err e) h f = tt
