-- Each kind of the profile's rows has a spelling.
use Rattle.std.proofs.Common.{◌≡◌, ℕ, zero, suc, ◌≤◌, Bool, true, ◌&&◌, nat_le, List, [], ◌∷◌, refl, arith, inl, codes, leb-true, replicate}
use Rattle.std.specs.List.{list_all}
use Rattle.std.specs.Fmt.{decimal}
use Rattle.std.specs.Net.Text.{hex_groups_text}
use Rattle.cfg_base.specs.declared.kind.Kind.{Kind}
use Rattle.cfg_base.specs.declared.kind.Kind.TheVariants.{Name, Host, Text, Address, Prefix, Prefix6, Area, IfName, IfUnit, Number, OneOf}
use Rattle.cfg_base.specs.declared.kind.Choice.{Choice}
use Rattle.cfg_base.specs.declared.kind.Choice.TheVariants.{Permission, RootLogin, GroupType, Protocol, NextHop, PacketProtocol}
use Rattle.cfg_schema.specs.declared.table.Line.{Line}
use Rattle.cfg_schema.specs.Profile.{profile, line_at, row_of}
use Rattle.cfg_schema.proofs.TestLemmas.{both}
use Rattle.cfg_values.specs.Address.{IsAddress, dotted, network}
use Rattle.cfg_values.specs.Address6.{network6}
use Rattle.cfg_values.specs.Interface.{EveryUnit, every_unit}
use Rattle.cfg_values.specs.Spelling.{IsCanonicalOf}
use Rattle.cfg_values.proofs.NumberLemmas.{IsNumber-decimal}
use Rattle.cfg_values.proofs.Address6Lemmas.{zero_address6}

-- some bytes are a spelling of the kind
pub record HasSpelling (kind : Kind) : Type 0 where
  pub bytes : List ℕ
  pub word : List ℕ
  pub spelled : IsCanonicalOf kind bytes word

-- a range of numbers has one that ten digits write
abbrev has_value : Kind → Bool
has_value (Number from to) = nat_le from to && nat_le from 4294967295
has_value _ = true

abbrev zeros : List ℕ
zeros = 0 ∷ 0 ∷ 0 ∷ 0 ∷ []

zero_address : IsAddress (dotted zeros) zeros
zero_address = record { four = refl; octets = (omega arith, (omega arith, (omega arith, (omega arith, tt)))); spelled = refl }

number_spelled : (from to : ℕ) → (nat_le from to && nat_le from 4294967295) ≡ true → HasSpelling (Number from to)
number_spelled from to h =
    let parts = both (nat_le from to) (nat_le from 4294967295) h
    in let within : from ≤ to = leb-true from to parts.0
    in let small : from ≤ 4294967295 = leb-true from 4294967295 parts.1
    in record {
      bytes = decimal from;
      word = decimal from;
      spelled = record { value = from; spells = record { read = IsNumber-decimal from (omega arith); low = omega arith; high = within }; canonical_is = refl };
    }

choice_spelled : (choice : Choice) → HasSpelling (OneOf choice)
choice_spelled Permission = record { bytes = codes "all"; word = codes "all"; spelled = record { value = codes "all"; spells = ((0, omega arith, refl), refl); canonical_is = refl } }
choice_spelled RootLogin = record { bytes = codes "allow"; word = codes "allow"; spelled = record { value = codes "allow"; spells = ((0, omega arith, refl), refl); canonical_is = refl } }
choice_spelled GroupType = record { bytes = codes "external"; word = codes "external"; spelled = record { value = codes "external"; spells = ((0, omega arith, refl), refl); canonical_is = refl } }
choice_spelled Protocol = record { bytes = codes "bgp"; word = codes "bgp"; spelled = record { value = codes "bgp"; spells = ((0, omega arith, refl), refl); canonical_is = refl } }
choice_spelled NextHop = record { bytes = codes "self"; word = codes "self"; spelled = record { value = codes "self"; spells = ((0, omega arith, refl), refl); canonical_is = refl } }
choice_spelled PacketProtocol = record { bytes = codes "icmp"; word = codes "icmp"; spelled = record { value = codes "icmp"; spells = ((0, omega arith, refl), refl); canonical_is = refl } }

kind_spelled : (kind : Kind) → has_value kind ≡ true → HasSpelling kind
kind_spelled Name h = record { bytes = codes "a"; word = codes "a"; spelled = record { value = codes "a"; spells = ((omega arith, omega arith, refl), refl); canonical_is = refl } }
kind_spelled Host h = record { bytes = codes "a"; word = codes "a"; spelled = record { value = codes "a"; spells = ((omega arith, omega arith, refl), refl); canonical_is = refl } }
kind_spelled Text h = record { bytes = codes "a"; word = codes "a"; spelled = record { value = codes "a"; spells = (record { short = omega arith; each = refl }, refl); canonical_is = refl } }
kind_spelled Address h = record { bytes = dotted zeros; word = dotted zeros; spelled = record { value = zeros; spells = zero_address; canonical_is = refl } }
kind_spelled Prefix h = record {
  bytes = dotted zeros;
  word = _;
  spelled = record { value = network zeros 32; spells = inl record { address = zero_address; whole = refl }; canonical_is = refl };
}
kind_spelled Prefix6 h = record {
  bytes = hex_groups_text (replicate 8 0);
  word = _;
  spelled = record { value = network6 (replicate 8 0) 128; spells = inl record { address = zero_address6; whole = refl }; canonical_is = refl };
}
kind_spelled Area h = record { bytes = dotted zeros; word = dotted zeros; spelled = record { value = zeros; spells = inl zero_address; canonical_is = refl } }
kind_spelled IfName h = record {
  bytes = codes "a";
  word = codes "a";
  spelled = record { value = codes "a"; spells = (record { some = omega arith; short = omega arith; first = refl; each = refl }, refl); canonical_is = refl };
}
kind_spelled IfUnit h = record { bytes = every_unit; word = every_unit; spelled = record { value = EveryUnit; spells = refl; canonical_is = refl } }
kind_spelled (Number from to) h = number_spelled from to h
kind_spelled (OneOf choice) h = choice_spelled choice

abbrev has_values : Line → Bool
has_values line = has_value line.name_kind && has_value line.value_kind

profile_has_values : list_all has_values profile ≡ true
unfolding profile
profile_has_values = refl

values_at : (lines : List Line) (row : ℕ) → list_all has_values lines ≡ true → has_values (line_at lines row) ≡ true
values_at [] row h = refl
values_at (line ∷ lines) zero h = (both (has_values line) _ h).0
values_at (line ∷ lines) (suc row) h = values_at lines row (both (has_values line) _ h).1

-- the names of a row have a spelling
pub name_spelled : (row : ℕ) → HasSpelling (row_of row).name_kind
name_spelled row = kind_spelled (row_of row).name_kind (both (has_value (row_of row).name_kind) _ (values_at profile row profile_has_values)).0

-- and so have its values
pub value_spelled : (row : ℕ) → HasSpelling (row_of row).value_kind
value_spelled row = kind_spelled (row_of row).value_kind (both (has_value (row_of row).name_kind) _ (values_at profile row profile_has_values)).1
