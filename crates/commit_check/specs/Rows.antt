-- The rows of which the rules speak: their numbers in cfg_schema's table, and the words with which their statements begin.
use Rattle.std.specs.Prelude.{ℕ, List, [], ◌∷◌, codes}

abbrev pub rows : List (ℕ × List ℕ)
rows =
    (6, codes "system") ∷ (11, codes "login") ∷ (12, codes "class") ∷ (14, codes "user") ∷ (17, codes "class")
    ∷ (30, codes "interfaces") ∷ (31, []) ∷ (35, codes "vlan-tagging") ∷ (36, codes "unit") ∷ (39, codes "vlan-id") ∷ (40, codes "family")
    ∷ (42, codes "address") ∷ (43, codes "routing-options") ∷ (44, codes "static") ∷ (45, codes "route") ∷ (46, codes "next-hop")
    ∷ (47, codes "discard") ∷ (51, codes "protocols") ∷ (52, codes "bgp") ∷ (53, codes "group") ∷ (54, codes "type") ∷ (56, codes "import")
    ∷ (57, codes "export") ∷ (58, codes "peer-as") ∷ (59, codes "neighbor") ∷ (61, codes "import") ∷ (62, codes "export")
    ∷ (63, codes "peer-as") ∷ (64, codes "ospf") ∷ (65, codes "export") ∷ (66, codes "area") ∷ (67, codes "interface")
    ∷ (73, codes "policy-options") ∷ (74, codes "prefix-list") ∷ (76, codes "policy-statement") ∷ (77, codes "term") ∷ (78, codes "from")
    ∷ (81, codes "prefix-list") ∷ (91, codes "from") ∷ (93, codes "family") ∷ (95, codes "address") ∷ (96, codes "filter")
    ∷ (97, codes "input") ∷ (98, codes "output") ∷ (99, codes "firewall") ∷ (100, codes "family") ∷ (101, codes "filter")
    ∷ (102, codes "term") ∷ (110, codes "then") ∷ (112, codes "accept") ∷ (113, codes "discard") ∷ (114, codes "reject")
    ∷ (115, codes "vlans") ∷ (116, []) ∷ (118, codes "vlan-id") ∷ []

-- the one names of those that are Fixed; no other row has one
abbrev pub fixed_rows : List (ℕ × List ℕ)
fixed_rows = (40, codes "inet") ∷ (93, codes "inet6") ∷ (100, codes "inet") ∷ []
