-- IPv6 prefixes that are kept, and the groups before their slash.
use Rattle.std.proofs.Common.{◌≡◌, ℕ, List, sym, ap, subst, ◌∙◌, eqb}
use Rattle.std.specs.Prelude.{◌↔◌}
use Rattle.std.specs.List.{before_first}
use Rattle.std.specs.Fmt.{decimal}
use Rattle.std.specs.Net.Text.{hex_groups_text}
use Rattle.cfg_values.specs.Address6.{Network6, IsAddress6}
use Rattle.cfg_values.proofs.Address6Lemmas.{IsAddress6-unique, no_slash_in_address6, prefix6_address}
use Rattle.commit_check.specs.Network.{IsKept6}
use Rattle.commit_check.proofs.CutLemmas.{before_mark}

abbrev before : List ℕ → List ℕ
before name = before_first (λ b. eqb b 47) name

-- before the slash stands the text of the groups
groups_before : (name : List ℕ) (net : Network6) → IsKept6 name net → before name ≡ hex_groups_text net.groups
groups_before name net k =
    ap before k.kept
    ∙ before_mark 47 (hex_groups_text net.groups) (decimal net.bits)
    (no_slash_in_address6 (hex_groups_text net.groups) net.groups (prefix6_address name net k.spells))

-- two names that are kept have the same text before the slash exactly where their networks have the same eight groups
pub same_groups : (name other : List ℕ) (one two : Network6) → IsKept6 name one → IsKept6 other two → (before name ≡ before other) ↔ (one.groups ≡ two.groups)
same_groups name other one two k l = (
  λ same. groups same,
  λ same. groups_before name one k ∙ ap hex_groups_text same ∙ sym (groups_before other two l),
)
  where
    groups : before name ≡ before other → one.groups ≡ two.groups
    groups same =
        let text : hex_groups_text one.groups ≡ hex_groups_text two.groups = sym (groups_before name one k) ∙ same ∙ groups_before other two l in
        IsAddress6-unique (hex_groups_text two.groups) one.groups two.groups
        (subst (λ t. IsAddress6 t one.groups) text (prefix6_address name one k.spells)) (prefix6_address other two l.spells)
