-- IPv6 addresses and prefixes: each text spells one, and each is read from its canonical text.
use Rattle.std.proofs.Common.{◌≡◌, ◌<◌, ◌≤◌, ◌^◌, ◌∙◌, sym, ap, subst, refl, ℕ, zero, suc, List, [], ◌∷◌, length, take, drop, ◌++◌, ◌+◌, ◌-◌, ◌*◌, ◌/◌, ◌%◌, Bool, true, false, ◌&&◌, eqb, arith, inl, inr, length-append, length-drop, flat_map, ⊎_elim, replicate, lit≤}
use Rattle.std.specs.Prelude.{All}
use Rattle.std.specs.List.{list_all, AllByRecursion}
use Rattle.std.specs.Fmt.{decimal}
use Rattle.std.proofs.lemmas.Bool.{cond_both}
use Rattle.std.proofs.lemmas.Bool.Decides.{nat_tests}
use Rattle.std.proofs.lemmas.Int.Digits.{digits_value-lt}
use Rattle.std.proofs.lemmas.Fmt.{decimal_injective}
use Rattle.std.proofs.lemmas.List.{length-replicate, length-take}
use Rattle.std.proofs.lemmas.List.Elements.{All-from_recursion, All-head, All-tail}
use Rattle.std.proofs.Math.Nat.{pow-le-pow_right}
use Rattle.std.specs.declared.net.ipv6_addr.Ipv6Addr.{Ipv6Addr}
use Rattle.std.specs.Char.{digit_char}
use Rattle.std.specs.Net.Addr.{ipv6_segments, segments_of}
use Rattle.std.specs.Net.Grammar.{IsGroup, IsGroupsAfter, IsGroups, IsColonHex}
use Rattle.std.specs.Net.Text.{hex, groups_text, longest_zero_run, hex_groups_text, compressed_text, leading_zero_digits}
use Rattle.std.proofs.NetLemmas.Alphabet.{IsHexOrColon, All-hex_groups_text}
use Rattle.std.proofs.NetLemmas.Texts.{AllSegments, IsColonHex-hex_groups_text}
use Rattle.std.proofs.NetLemmas.Theorems.{IsIpv6Text_unique}
use Rattle.cfg_values.specs.Cut.{IsCut}
use Rattle.cfg_values.specs.Address6.{is_group_byte, IsAddress6, IsNetwork6, IsHostRoute6, IsPrefix6, Network6, network6, prefix6_text}
use Rattle.cfg_values.proofs.CutLemmas.{not_cut, IsCut-before, IsCut-after}

both_true : (a b : Bool) → (a && b) ≡ true → (a ≡ true) × (b ≡ true)
both_true true true e = (refl, refl)
both_true true false e = absurd cc
both_true false b e = absurd cc

-- a byte of an address is no slash
no_slash : (b : ℕ) → is_group_byte b ≡ true → eqb b 47 ≡ false
no_slash b e = grind (arith, nat_tests)

none_in_bytes : (bytes : List ℕ) → list_all is_group_byte bytes ≡ true → AllByRecursion (λ b. eqb b 47 ≡ false) bytes
none_in_bytes [] e = tt
none_in_bytes (b ∷ bytes) e =
    let parts = both_true (is_group_byte b) (list_all is_group_byte bytes) e in (no_slash b parts.0, none_in_bytes bytes parts.1)

pub no_slash_in_address6 : (text groups : List ℕ) → IsAddress6 text groups → All (λ b. eqb b 47 ≡ false) text
no_slash_in_address6 text groups address = All-from_recursion (λ b. eqb b 47 ≡ false) text (none_in_bytes text address.bare)

-- a prefix with a length is cut at its slash
pub network6_is_cut : (bytes : List ℕ) (net : Network6) (n : IsNetwork6 bytes net) → IsCut 47 bytes n.text (decimal net.bits)
network6_is_cut bytes net n = record { joined = n.spelled; first = no_slash_in_address6 n.text net.groups n.address }

-- a text writes one address
pub IsAddress6-unique : (text one two : List ℕ) → IsAddress6 text one → IsAddress6 text two → one ≡ two
IsAddress6-unique text one two h g =
    let a : Ipv6Addr = record { segments = one } in
    let b : Ipv6Addr = record { segments = two } in
    ap ipv6_segments (IsIpv6Text_unique text a b h.spelled g.spelled)

same_network : (one two : Network6) → one.groups ≡ two.groups → one.bits ≡ two.bits → one ≡ two
same_network one two groups bits = ap (λ g. network6 g one.bits) groups ∙ ap (λ b. network6 two.groups b) bits

host_or_network : (bytes : List ℕ) (one two : Network6) → IsHostRoute6 bytes one → IsNetwork6 bytes two → ⊥
host_or_network bytes one two host n = not_cut 47 bytes n.text (decimal two.bits) (no_slash_in_address6 bytes one.groups host.address) n.spelled

IsNetwork6-unique : (bytes : List ℕ) (one two : Network6) → IsNetwork6 bytes one → IsNetwork6 bytes two → one ≡ two
IsNetwork6-unique bytes one two m n =
    let cut = network6_is_cut bytes one m in
    let other = network6_is_cut bytes two n in
    let texts = IsCut-before 47 bytes m.text (decimal one.bits) n.text (decimal two.bits) cut other in
    let bits = IsCut-after 47 bytes m.text (decimal one.bits) n.text (decimal two.bits) cut other in
    same_network one two (IsAddress6-unique m.text one.groups two.groups m.address (subst (λ t. IsAddress6 t two.groups) (sym texts) n.address))
    (decimal_injective one.bits two.bits (omega (arith, m.within)) (omega (arith, n.within)) bits)

-- a prefix is determined by its text
pub IsPrefix6-unique : (bytes : List ℕ) (one two : Network6) → IsPrefix6 bytes one → IsPrefix6 bytes two → one ≡ two
IsPrefix6-unique bytes one two (inl h) (inl g) =
    same_network one two (IsAddress6-unique bytes one.groups two.groups h.address g.address) (h.whole ∙ sym g.whole)
IsPrefix6-unique bytes one two (inl h) (inr n) = absurd (host_or_network bytes one two h n)
IsPrefix6-unique bytes one two (inr m) (inl g) = absurd (host_or_network bytes two one g m)
IsPrefix6-unique bytes one two (inr m) (inr n) = IsNetwork6-unique bytes one two m n

-- a group is below 2 ^ 16
group_below : (text : List ℕ) (s : ℕ) → IsGroup text s → s < 2 ^ 16
group_below text s h =
    let below = digits_value-lt 16 text h.0.0.1 in
    let most : 16 ^ length text ≤ 16 ^ 4 = pow-le-pow_right (lit≤ tt) h.1 in
    omega (arith, below, most, h.0.1)

two_below : (a b c d : ℕ) → (a < 256) × (b < 256) × (c < 256) × (d < 256) → AllSegments ((a * 256 + b) ∷ (c * 256 + d) ∷ [])
two_below a b c d fit zero = omega (arith, fit.0, fit.1)
two_below a b c d fit (suc zero) = omega (arith, fit.2, fit.3)
two_below a b c d fit (suc (suc k)) = omega arith

groups_below : (ipv4 : Bool) (lead text xs : List ℕ) → IsGroupsAfter ipv4 lead text xs → AllSegments xs
groups_below ipv4 lead text [] h k = omega arith
groups_below ipv4 lead text (s ∷ xs) (inl h) zero = group_below h.0 s h.3
groups_below ipv4 lead text (s ∷ xs) (inl h) (suc k) = groups_below ipv4 (58 ∷ []) h.1 xs h.4 k
groups_below ipv4 lead text (s ∷ xs) (inr h) k =
    let dotted = h.4 in
    subst (λ (l : List ℕ). AllSegments l) (sym (h.5 ∙ ap segments_of dotted.value)) (two_below dotted.a dotted.b dotted.c dotted.d dotted.fit) k

append_below : (xs ys : List ℕ) → AllSegments xs → AllSegments ys → AllSegments (xs ++ ys)
append_below [] ys h g k = g k
append_below (x ∷ xs) ys h g zero = h 0
append_below (x ∷ xs) ys h g (suc k) = append_below xs ys (λ j. h (suc j)) g k

zeros_below : (n : ℕ) → AllSegments (replicate n 0)
zeros_below zero k = omega arith
zeros_below (suc n) zero = omega arith
zeros_below (suc n) (suc k) = zeros_below n k

-- an address has eight groups below 2 ^ 16
pub groups_are : (text xs : List ℕ) → IsColonHex text xs → (length xs ≡ 8) × AllSegments xs
groups_are text xs (inl h) = (h.1, groups_below true [] text xs h.0)
groups_are text xs (inr h) =
    let zeros = replicate (8 - length h.head - length h.tail) 0 in (
      ap (λ (l : List ℕ). length l) h.value
          ∙ omega (
            arith,
            h.room,
            length-append (h.head ++ zeros) h.tail,
            length-append h.head zeros,
            length-replicate {A = ℕ} (8 - length h.head - length h.tail) 0,
          ),
      subst (λ (l : List ℕ). AllSegments l) (sym h.value)
          (append_below (h.head ++ zeros) h.tail
          (append_below h.head zeros (groups_below false [] h.head_text h.head h.head_groups) (zeros_below (8 - length h.head - length h.tail)))
          (groups_below true [] h.tail_text h.tail h.tail_groups)),
    )

-- what is printed of groups are such bytes
group_byte : (b : ℕ) → IsHexOrColon b → is_group_byte b ≡ true
group_byte b (inl h) = grind (arith, nat_tests)
group_byte b (inr h) = grind (arith, nat_tests)

listed : (bytes : List ℕ) → All IsHexOrColon bytes → list_all is_group_byte bytes ≡ true
listed [] h = refl
listed (b ∷ bytes) h =
    ap (λ t. t && list_all is_group_byte bytes) (group_byte b (All-head IsHexOrColon b bytes h)) ∙ listed bytes (All-tail IsHexOrColon b bytes h)

-- eight groups are spelled by their text
own_address6 : (xs : List ℕ) → length xs ≡ 8 → AllSegments xs → IsAddress6 (hex_groups_text xs) xs
own_address6 xs eight below =
    record { bare = listed (hex_groups_text xs) (All-hex_groups_text xs below); spelled = IsColonHex-hex_groups_text xs eight below }

-- an address's own text spells it
pub address6_again : (text xs : List ℕ) → IsAddress6 text xs → IsAddress6 (hex_groups_text xs) xs
address6_again text xs h = let are = groups_are text xs h.spelled in own_address6 xs are.0 are.1

-- eight zero groups are an address
pub zero_address6 : IsAddress6 (hex_groups_text (replicate 8 0)) (replicate 8 0)
zero_address6 = own_address6 (replicate 8 0) (length-replicate {A = ℕ} 8 0) (zeros_below 8)

-- the groups of a prefix are an address
pub prefix6_address : (bytes : List ℕ) (net : Network6) → IsPrefix6 bytes net → IsAddress6 (hex_groups_text net.groups) net.groups
prefix6_address bytes net prefix =
    ⊎_elim (λ host. address6_again bytes net.groups host.address) (λ n. address6_again n.text net.groups n.address) prefix

-- and its length is at most 128
pub prefix6_bits : (bytes : List ℕ) (net : Network6) → IsPrefix6 bytes net → net.bits ≤ 128
prefix6_bits bytes net prefix = ⊎_elim (λ host. omega (arith, host.whole)) (λ n. n.within) prefix

-- a prefix's own text spells it
pub prefix6_again : (bytes : List ℕ) (net : Network6) → IsPrefix6 bytes net → IsNetwork6 (prefix6_text net) net
prefix6_again bytes net prefix = record {
  text = hex_groups_text net.groups;
  address = prefix6_address bytes net prefix;
  within = prefix6_bits bytes net prefix;
  spelled = refl;
}

-- what is printed is short
hex_short : (n : ℕ) → length (hex n) ≤ 4
unfolding hex
hex_short n =
    omega (
      arith,
      length-drop (leading_zero_digits n)
          (digit_char (n / 0x1000) ∷ digit_char (n / 0x100 % 16) ∷ digit_char (n / 0x10 % 16) ∷ digit_char (n % 16) ∷ []),
    )

more_short : (xs : List ℕ) → length (flat_map (λ t. 58 ∷ hex t) xs) ≤ 5 * length xs
more_short [] = omega arith
more_short (x ∷ xs) =
    omega (arith, hex_short x, more_short xs, length-append (58 ∷ hex x) (flat_map (λ t. 58 ∷ hex t) xs))

groups_short : (xs : List ℕ) → length (groups_text xs) ≤ 5 * length xs
groups_short [] = omega arith
groups_short (x ∷ xs) = omega (arith, hex_short x, more_short xs, length-append (hex x) (flat_map (λ t. 58 ∷ hex t) xs))

compressed_short : (xs : List ℕ) (run : ℕ × ℕ) → length (compressed_text xs run) ≤ 10 * length xs + 2
compressed_short xs run =
    let head = groups_text (take run.0 xs) in
    let tail = groups_text (drop (run.0 + run.1) xs) in
    let cut : length (head ++ (58 ∷ 58 ∷ []) ++ tail) ≤ 10 * length xs + 2 =
    omega (
      arith,
      length-append (head ++ (58 ∷ 58 ∷ [])) tail,
      length-append head (58 ∷ 58 ∷ []),
      groups_short (take run.0 xs),
      groups_short (drop (run.0 + run.1) xs),
      length-take run.0 xs,
      length-drop (run.0 + run.1) xs,
    ) in
    let whole : length (groups_text xs) ≤ 10 * length xs + 2 = omega (arith, groups_short xs) in
    cond_both _ _ _ (λ (t : List ℕ). length t ≤ 10 * length xs + 2) (λ _. cut) (λ _. whole)

pub address6_short : (text xs : List ℕ) → IsAddress6 text xs → length (hex_groups_text xs) ≤ 82
unfolding hex_groups_text
address6_short text xs h = omega (arith, compressed_short xs (longest_zero_run xs), (groups_are text xs h.spelled).0)

-- an address isn't empty
group_some : (text : List ℕ) (s : ℕ) → IsGroup text s → 0 < length text
group_some text s h = h.0.0.0

groups_some : (ipv4 : Bool) (text : List ℕ) (s : ℕ) (xs : List ℕ) → IsGroupsAfter ipv4 [] text (s ∷ xs) → 0 < length text
groups_some ipv4 text s xs (inl h) = omega (arith, ap (λ (l : List ℕ). length l) h.2, length-append h.0 h.1, group_some h.0 s h.3)
groups_some ipv4 text s xs (inr h) =
    let d = h.4 in
    let front = decimal d.a ++ (46 ∷ []) ++ decimal d.b ++ (46 ∷ []) ++ decimal d.c in
    omega (
      arith,
      ap (λ (l : List ℕ). length l) (h.3 ∙ d.spelled),
      length-append (front ++ (46 ∷ [])) (decimal d.d),
      length-append front (46 ∷ []),
    )

hex_some : (text xs : List ℕ) → length xs ≡ 8 → IsGroups true text xs → 0 < length text
hex_some text [] e h = absurd (omega (arith, e))
hex_some text (s ∷ xs) e h = groups_some true text s xs h

pub address6_some : (text xs : List ℕ) → IsAddress6 text xs → 0 < length text
address6_some text xs h = by_form h.spelled
  where
    by_form : IsColonHex text xs → 0 < length text
    by_form (inl g) = hex_some text xs g.1 g.0
    by_form (inr g) =
        omega (
          arith,
          ap (λ (l : List ℕ). length l) g.spelled,
          length-append (g.head_text ++ (58 ∷ 58 ∷ [])) g.tail_text,
          length-append g.head_text (58 ∷ 58 ∷ []),
        )
