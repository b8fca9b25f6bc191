-- Addresses and prefixes: each text spells one, and each is read from its canonical text.
use Rattle.std.proofs.Common.{◌≡◌, ◌≤◌, ◌∙◌, sym, ap, subst, refl, ℕ, List, [], ◌∷◌, length, ◌++◌, eqb, false, arith, lit<, ◌*◌, ◌-◌, zero, suc, length-append, ⊎_elim, replicate}
use Rattle.std.specs.Prelude.{All}
use Rattle.std.specs.Fmt.{decimal}
use Rattle.std.proofs.lemmas.List.{length-replicate, append-nil}
use Rattle.std.specs.Int.{w32, to_be_bytes}
use Rattle.std.proofs.lemmas.Fmt.{length-decimal-le}
use Rattle.cfg_values.specs.Cut.{IsCut}
use Rattle.cfg_values.specs.Address.{AreOctets, IsAddress, IsArea, IsFront, IsNetwork, IsPrefix, Network, dotted, filled, prefix_text}
use Rattle.cfg_values.proofs.DotLemmas.{no_mark_in_dotted, front_from_address}

-- no slash stands in numbers that are joined by dots
pub no_slash_in_front : (bytes numbers : List ℕ) → IsFront bytes numbers → All (λ b. eqb b 47 ≡ false) bytes
no_slash_in_front bytes numbers front =
    subst (λ bs. All (λ b. eqb b 47 ≡ false) bs) (sym front.spelled) (no_mark_in_dotted 47 numbers (lit< tt) refl front.octets)

pub no_slash_in_address : (bytes quad : List ℕ) → IsAddress bytes quad → All (λ b. eqb b 47 ≡ false) bytes
no_slash_in_address bytes quad address =
    subst (λ bs. All (λ b. eqb b 47 ≡ false) bs) (sym address.spelled) (no_mark_in_dotted 47 quad (lit< tt) refl address.octets)

-- a prefix with a length is cut at its slash
pub network_is_cut : (bytes : List ℕ) (net : Network) (n : IsNetwork bytes net) → IsCut 47 bytes n.text (decimal net.bits)
network_is_cut bytes net n = record { joined = n.spelled; first = no_slash_in_front n.text n.numbers n.front }

-- joined octets are short
pub length-dotted-le : (numbers : List ℕ) → AreOctets numbers → length (dotted numbers) ≤ 4 * length numbers
length-dotted-le [] octets = omega arith
length-dotted-le (n ∷ []) octets = omega (arith, length-decimal-le 3 n (omega arith) (omega arith) (omega arith))
length-dotted-le (n ∷ m ∷ numbers) octets =
    omega (
      arith,
      length-decimal-le 3 n (omega arith) (omega arith) (omega arith),
      length-dotted-le (m ∷ numbers) octets.1,
      length-append (decimal n) (46 ∷ dotted (m ∷ numbers)),
    )

-- an address's own text spells it
pub address_again : (bytes quad : List ℕ) → IsAddress bytes quad → IsAddress (dotted quad) quad
address_again bytes quad address = record { four = address.four; octets = address.octets; spelled = refl }

-- the four bytes of a number are octets
pub be_bytes-octets : (n : ℕ) → AreOctets (to_be_bytes w32 n)
be_bytes-octets n = (omega arith, (omega arith, (omega arith, (omega arith, tt))))

pub area_again : (bytes quad : List ℕ) → IsArea bytes quad → IsAddress (dotted quad) quad
area_again bytes quad area = ⊎_elim (λ address. address_again bytes quad address)
    (λ numbered. subst (λ q. IsAddress (dotted q) q) (sym numbered.split)
    (record { four = refl; octets = be_bytes-octets numbered.number; spelled = refl })) area

-- octets, and zeros after them
pub octets-append : (numbers others : List ℕ) → AreOctets numbers → AreOctets others → AreOctets (numbers ++ others)
octets-append [] others one other = other
octets-append (n ∷ numbers) others one other = (one.0, octets-append numbers others one.1 other)

pub octets-zeros : (k : ℕ) → AreOctets (replicate k 0)
octets-zeros zero = tt
octets-zeros (suc k) = (omega arith, octets-zeros k)

-- the numbers of a front, with zeros after them, are an address
pub filled_address : (bytes numbers : List ℕ) → IsFront bytes numbers → IsAddress (dotted (filled numbers)) (filled numbers)
filled_address bytes numbers front = record {
  four = length-append numbers (replicate (4 - length numbers) 0) ∙ omega (arith, length-replicate {A = ℕ} (4 - length numbers) 0, front.at_most_four);
  octets = octets-append numbers (replicate (4 - length numbers) 0) front.octets (octets-zeros (4 - length numbers));
  spelled = refl;
}

-- the numbers of a prefix are an address
pub prefix_quad : (bytes : List ℕ) (net : Network) → IsPrefix bytes net → IsAddress (dotted net.quad) net.quad
prefix_quad bytes net prefix = ⊎_elim (λ host. address_again bytes net.quad host.address)
    (λ n. subst (λ q. IsAddress (dotted q) q) (sym n.filled_up) (filled_address n.text n.numbers n.front)) prefix

-- and its length is at most 32
pub prefix_bits : (bytes : List ℕ) (net : Network) → IsPrefix bytes net → net.bits ≤ 32
prefix_bits bytes net prefix = ⊎_elim (λ host. omega (arith, host.whole)) (λ n. n.within) prefix

-- four numbers lack none
pub filled_whole : (quad : List ℕ) → length quad ≡ 4 → filled quad ≡ quad
filled_whole quad four = ap (λ k. quad ++ replicate (4 - k) 0) four ∙ append-nil quad

-- a prefix's own text spells it
pub prefix_again : (bytes : List ℕ) (net : Network) → IsPrefix bytes net → IsNetwork (prefix_text net) net
prefix_again bytes net prefix =
    let address = prefix_quad bytes net prefix in
    record {
      text = dotted net.quad;
      numbers = net.quad;
      front = front_from_address (dotted net.quad) net.quad address;
      filled_up = sym (filled_whole net.quad address.four);
      within = prefix_bits bytes net prefix;
      spelled = refl;
    }
