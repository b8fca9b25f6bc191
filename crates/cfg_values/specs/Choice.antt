-- The words of each fixed set of values.
use Rattle.std.specs.Prelude.{ℕ, List, [], ◌∷◌, codes}
use Rattle.cfg_base.specs.declared.kind.Choice.{Choice}
use Rattle.cfg_base.specs.declared.kind.Choice.TheVariants.{Permission, RootLogin, GroupType, Protocol, NextHop, PacketProtocol}

-- the words that may stand for a value of the set
abbrev pub words_of : Choice → List (List ℕ)
words_of Permission =
    codes "all" ∷ codes "clear" ∷ codes "configure" ∷ codes "firewall" ∷ codes "firewall-control" ∷ codes "interface"
    ∷ codes "interface-control" ∷ codes "routing" ∷ codes "routing-control" ∷ codes "system" ∷ codes "system-control"
    ∷ codes "view" ∷ codes "view-configuration" ∷ []
words_of RootLogin = codes "allow" ∷ codes "deny" ∷ codes "deny-password" ∷ []
words_of GroupType = codes "external" ∷ codes "internal" ∷ []
words_of Protocol = codes "bgp" ∷ codes "direct" ∷ codes "local" ∷ codes "ospf" ∷ codes "static" ∷ []
words_of NextHop = codes "self" ∷ []
words_of PacketProtocol = codes "icmp" ∷ codes "ospf" ∷ codes "tcp" ∷ codes "udp" ∷ []
