-- Networks and the names that spell them as they are kept.
use Rattle.std.proofs.Common.{◌≡◌, ◌≢◌, ℕ, ◌≤◌, ◌<◌, Bool, true, false, not, ◌&&◌, List, [], ◌∷◌, ◌++◌, length, map, refl, sym, ap, subst, ◌∙◌, inr, arith, eqb, ltb, leb, append_assoc}
use Rattle.std.specs.Prelude.{◌↔◌, IsTrue}
use Rattle.std.specs.List.{before_first, after_first, slice_split, list_all}
use Rattle.std.specs.Fmt.{decimal}
use Rattle.std.specs.Int.{w32, from_be_bytes}
use Rattle.std.specs.Str.Parse.{digits_value}
use Rattle.std.specs.Net.Addr.{ipv4_octets, ipv4_bits}
use Rattle.std.specs.Net.Grammar.{IsDotted}
use Rattle.std.specs.Net.Text.{dotted_text}
use Rattle.std.specs.declared.net.ipv4_addr.Ipv4Addr.{Ipv4Addr}
use Rattle.std.proofs.lemmas.Bool.{leb-true, le-leb, ltb-true, lt-ltb, eqb-true, ne_eqb, and_from}
use Rattle.std.proofs.lemmas.Fmt.{decimal_is_IsNumeral, decimal_nonempty}
use Rattle.std.proofs.lemmas.Slice.Eq.{bytes_eq-Decides}
use Rattle.cfg_base.specs.declared.path.Step.{Step}
use Rattle.cfg_schema.specs.Profile.{same_word}
use Rattle.cfg_values.specs.Address.{IsAddress, AreOctets, Network, network, dotted, prefix_text}
use Rattle.cfg_values.proofs.SpellingLemmas.{IsAddress-unique}
use Rattle.cfg_values.proofs.DotLemmas.{parts_of-dotted, front_from_address}
use Rattle.cfg_values.proofs.AddressLemmas.{no_slash_in_address, prefix_quad, prefix_bits, filled_whole}
use Rattle.cfg_tree.specs.Statements.{last_of}
use Rattle.commit_check.specs.Kinds.{is_route}
use Rattle.commit_check.proofs.CutLemmas.{before_mark, behind_mark, cut_there}
use Rattle.commit_check.specs.Network.{IsKept, bits_past, HasStrayBits, network_in, is_network, is_kept, has_stray_bits}

abbrev before : List ℕ → List ℕ
before name = before_first (λ b. eqb b 47) name

abbrev behind : List ℕ → List ℕ
behind name = after_first (λ b. eqb b 47) name

-- four numbers and a length, read on both sides of the slash
pub kept_from : (name quad : List ℕ) (bits : ℕ) → IsAddress (before name) quad → bits ≤ 32 → behind name ≡ decimal bits → IsKept name (network quad bits)
kept_from name quad bits address few digits =
    let some : 0 < length (behind name) = subst (λ ds. 0 < length ds) (sym digits) (decimal_nonempty bits (omega arith)) in
    let joined : name ≡ before name ++ 47 ∷ decimal bits = cut_there 47 name some ∙ ap (λ ds. before name ++ 47 ∷ ds) digits in
    record {
      spells = inr (record {
        text = before name;
        numbers = quad;
        front = front_from_address (before name) quad address;
        filled_up = sym (filled_whole quad address.four);
        within = few;
        spelled = joined;
      });
      kept = joined ∙ ap (λ t. t ++ 47 ∷ decimal bits) address.spelled;
    }

-- what stands on both sides of the slash
pub record IsCutAt (name : List ℕ) (net : Network) : Type 0 where
  pub address : IsAddress (before name) net.quad
  pub few : net.bits ≤ 32
  pub digits : behind name ≡ decimal net.bits

pub kept_cut : (name : List ℕ) (net : Network) → IsKept name net → IsCutAt name net
kept_cut name net k =
    let address = prefix_quad name net k.spells in
    let none = no_slash_in_address (dotted net.quad) net.quad address in
    let front : before name ≡ dotted net.quad = ap before k.kept ∙ before_mark 47 (dotted net.quad) (decimal net.bits) none in
    record {
      address = subst (λ bs. IsAddress bs net.quad) (sym front) address;
      few = prefix_bits name net k.spells;
      digits = ap behind k.kept ∙ behind_mark 47 (dotted net.quad) (decimal net.bits) none;
    }

-- the values of the digits of octets are the octets
values_back : (numbers : List ℕ) → AreOctets numbers → map (digits_value 10) (map decimal numbers) ≡ numbers
values_back [] octets = refl
values_back (n ∷ numbers) octets =
    ap (λ m. m ∷ map (digits_value 10) (map decimal numbers)) (decimal_is_IsNumeral n (omega arith)).1
    ∙ ap (λ ns. n ∷ ns) (values_back numbers octets.1)

-- the network of a name that is kept is that of its numbers
pub kept_in : (name : List ℕ) (net : Network) → IsKept name net → network_in name ≡ net
kept_in name net k =
    let cut = kept_cut name net k in
    let address = cut.address in
    let quad : map (digits_value 10) (slice_split (λ b. eqb b 46) (before name)) ≡ net.quad =
    ap (λ bs. map (digits_value 10) (slice_split (λ b. eqb b 46) bs)) address.spelled
    ∙ ap (map (digits_value 10)) (parts_of-dotted net.quad address.octets (omega (arith, address.four)))
    ∙ values_back net.quad address.octets in
    let bits : digits_value 10 (behind name) ≡ net.bits = ap (digits_value 10) cut.digits ∙ (decimal_is_IsNumeral net.bits (omega (arith, cut.few))).1 in
    ap (λ q. network q (digits_value 10 (behind name))) quad ∙ ap (λ b. network net.quad b) bits

octets_pass : (numbers : List ℕ) → AreOctets numbers → list_all (λ n. ltb n 256) numbers ≡ true
octets_pass [] octets = refl
octets_pass (n ∷ numbers) octets = and_from (ltb n 256) _ (lt-ltb n 256 octets.0) (octets_pass numbers octets.1)

both : (a b : Bool) → (a && b) ≡ true → (a ≡ true) × (b ≡ true)
both true b e = (refl, e)
both false b e = cc

passed_octets : (numbers : List ℕ) → list_all (λ n. ltb n 256) numbers ≡ true → AreOctets numbers
passed_octets [] e = tt
passed_octets (n ∷ numbers) e = let (first, rest) = both (ltb n 256) _ e in (ltb-true n 256 first, passed_octets numbers rest)

-- a name that is kept passes the test, and what passes it is kept
pub kept_passes : (name : List ℕ) (net : Network) → IsKept name net → is_kept name ≡ true
kept_passes name net k =
    let cut = kept_cut name net k in
    subst (λ n. (is_network n && same_word name (prefix_text n)) ≡ true) (sym (kept_in name net k))
    (and_from (is_network net) _
    (and_from (eqb (length net.quad) 4) _ (ap (λ n. eqb n 4) cut.address.four)
    (and_from (list_all (λ n. ltb n 256) net.quad) _ (octets_pass net.quad cut.address.octets) (le-leb net.bits 32 cut.few)))
    ((bytes_eq-Decides name (prefix_text net)).1 k.kept))

pub passed_kept : (name : List ℕ) → is_kept name ≡ true → IsKept name (network_in name)
passed_kept name e =
    let net = network_in name in
    let (sound, same) = both (is_network net) (same_word name (prefix_text net)) e in
    let (four, more) = both (eqb (length net.quad) 4) (list_all (λ n. ltb n 256) net.quad && leb net.bits 32) sound in
    let (octets, few) = both (list_all (λ n. ltb n 256) net.quad) (leb net.bits 32) more in
    let text : name ≡ prefix_text net = (bytes_eq-Decides name (prefix_text net)).0 same in
    let address : IsAddress (dotted net.quad) net.quad = record {
      four = eqb-true (length net.quad) 4 four;
      octets = passed_octets net.quad octets;
      spelled = refl;
    } in
    record {
      spells = inr (record {
        text = dotted net.quad;
        numbers = net.quad;
        front = front_from_address (dotted net.quad) net.quad address;
        filled_up = sym (filled_whole net.quad address.four);
        within = leb-true net.bits 32 few;
        spelled = text;
      });
      kept = text;
    }

-- four numbers joined by dots, in the words of the library
joined_text : (a b c d : ℕ) → dotted (a ∷ b ∷ c ∷ d ∷ []) ≡ dotted_text a b c d
joined_text a b c d = simp append_assoc

pub dotted_is : (text quad : List ℕ) → IsAddress text quad → IsDotted text quad
dotted_is text [] address = absurd (omega (arith, address.four))
dotted_is text (a ∷ []) address = absurd (omega (arith, address.four))
dotted_is text (a ∷ b ∷ []) address = absurd (omega (arith, address.four))
dotted_is text (a ∷ b ∷ c ∷ []) address = absurd (omega (arith, address.four))
dotted_is text (a ∷ b ∷ c ∷ d ∷ []) address =
    let octets = address.octets in
    record { a = a; b = b; c = c; d = d; fit = (octets.0, octets.1.0, octets.1.1.0, octets.1.1.1.0); value = refl; spelled = address.spelled ∙ joined_text a b c d }
dotted_is text (a ∷ b ∷ c ∷ d ∷ e ∷ quad) address = absurd (omega (arith, address.four))

-- an address of these numbers
pub address_with : List ℕ → Ipv4Addr
address_with quad = record { octets = quad }

pub octets_with : (quad : List ℕ) → ipv4_octets (address_with quad) ≡ quad
unfolding address_with
octets_with quad = refl

-- the number of an address
pub bits_are : (address : Ipv4Addr) → ipv4_bits address ≡ from_be_bytes w32 (ipv4_octets address)
unfolding ipv4_bits
bits_are address = refl

-- the test of a route, by the network that its name spells, or where it spells none
pub stray_some : (path : List Step) (net : Network) (b : Bool) → is_route path ≡ true → IsKept (last_of path).name net → b ≡ not (eqb (bits_past net) 0)
    → b ≡ has_stray_bits path
stray_some path net b route k e =
    e ∙ ap (λ n. not (eqb (bits_past n) 0)) (sym (kept_in (last_of path).name net k))
    ∙ sym (ap (λ r. r && (is_kept (last_of path).name && not (eqb (bits_past (network_in (last_of path).name)) 0))) route
    ∙ ap (λ r. r && not (eqb (bits_past (network_in (last_of path).name)) 0)) (kept_passes (last_of path).name net k))

pub stray_none : (path : List Step) → ((net : Network) → ¬ (IsKept (last_of path).name net)) → false ≡ has_stray_bits path
stray_none path none = by_test (is_kept (last_of path).name) refl
  where
    by_route : (r : Bool) → false ≡ (r && false)
    by_route true = refl
    by_route false = refl

    by_test : (b : Bool) → is_kept (last_of path).name ≡ b → false ≡ has_stray_bits path
    by_test true k = absurd (none (network_in (last_of path).name) (passed_kept (last_of path).name k))
    by_test false k =
        by_route (is_route path) ∙ ap (λ b. is_route path && (b && not (eqb (bits_past (network_in (last_of path).name)) 0))) (sym k)

-- the test of a route decides that bits past its length aren't all 0
pub stray_told : (path : List Step) → IsTrue (has_stray_bits path) ↔ HasStrayBits path
stray_told path = (told, tells)
  where
    told : IsTrue (has_stray_bits path) → HasStrayBits path
    told e =
        let (route, more) = both (is_route path) _ e in
        let (kept, stray) = both (is_kept (last_of path).name) _ more in
        record {
          route = route;
          net = network_in (last_of path).name;
          name = passed_kept (last_of path).name kept;
          stray = λ zero. let test = sym stray ∙ ap (λ n. not (eqb n 0)) zero in cc;
        }

    tells : HasStrayBits path → IsTrue (has_stray_bits path)
    tells h =
        sym (stray_some path h.net true h.route h.name (some_bits (bits_past h.net) h.stray))
      where
        some_bits : (n : ℕ) → n ≢ 0 → true ≡ not (eqb n 0)
        some_bits n some = sym (ap not (ne_eqb n 0 some))

-- two names that are kept have the same text before the slash exactly where their networks have the same four numbers
pub same_numbers : (name other : List ℕ) (one two : Network) → IsKept name one → IsKept other two → (before name ≡ before other) ↔ (one.quad ≡ two.quad)
same_numbers name other one two k l = (
  λ same. quads same,
  λ same. (kept_cut name one k).address.spelled ∙ ap dotted same ∙ sym (kept_cut other two l).address.spelled,
)
  where
    quads : before name ≡ before other → one.quad ≡ two.quad
    quads same =
        let address = subst (λ bs. IsAddress bs one.quad) same (kept_cut name one k).address in
        IsAddress-unique (before other) one.quad two.quad address (kept_cut other two l).address
