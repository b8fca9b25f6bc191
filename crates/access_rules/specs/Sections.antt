-- Which statements are of which section. The sections and their words are this project's own.
use Rattle.std.specs.Prelude.{ℕ, List, [], ◌∷◌, find, Option, codes}
use Rattle.cfg_base.specs.Words.{lists}
use Rattle.access_rules.specs.declared.section.Section.{Section}
use Rattle.access_rules.specs.declared.section.Section.TheVariants.{System, Interface, Routing, Firewall}

-- all sections, in their order
abbrev pub all_sections : List Section
all_sections = System ∷ Interface ∷ Routing ∷ Firewall ∷ []

-- the first words of the statements at the top that are of a section
abbrev pub heads_of : Section → List (List ℕ)
heads_of System =
    codes "version" ∷ codes "system" ∷ codes "groups" ∷ codes "apply-groups" ∷ codes "apply-groups-except" ∷ []
heads_of Interface = codes "interfaces" ∷ codes "vlans" ∷ []
heads_of Routing = codes "routing-options" ∷ codes "protocols" ∷ codes "policy-options" ∷ []
heads_of Firewall = codes "firewall" ∷ []

-- the section of a statement at the top, by its first word
abbrev pub section_of : List ℕ → Option Section
section_of head = find (λ section. lists (heads_of section) head) all_sections

-- the word that lets see a section
abbrev pub see_word : Section → List ℕ
see_word System = codes "system"
see_word Interface = codes "interface"
see_word Routing = codes "routing"
see_word Firewall = codes "firewall"

-- the word that lets change it, and see it too
abbrev pub alter_word : Section → List ℕ
alter_word System = codes "system-control"
alter_word Interface = codes "interface-control"
alter_word Routing = codes "routing-control"
alter_word Firewall = codes "firewall-control"
