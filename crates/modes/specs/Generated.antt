-- The configuration of so many interfaces that mode gen makes, as a curly text. It is this project's own.
use Rattle.std.specs.Prelude.{ℕ, zero, suc, ◌/◌, ◌%◌, List, [], ◌++◌, codes, decimal}

-- a group with an MTU for all such interfaces, the name of the system, and the level of the interfaces
abbrev pub front_text : List ℕ
front_text = codes "groups JUMBO interfaces <ge-*> mtu 9000;\napply-groups JUMBO;\nsystem host-name gen;\ninterfaces {\n"

-- the address of an interface, by its number in two bytes
abbrev pub address_text : ℕ → List ℕ
address_text i = codes "10." ++ (decimal (i / 256) ++ (codes "." ++ (decimal (i % 256) ++ codes ".1/24")))

-- an interface, by its number: its description, and its address
abbrev pub interface_text : ℕ → List ℕ
interface_text i =
    codes "ge-0/0/" ++ (decimal i ++ (codes " {\ndescription \"port " ++ (decimal i
    ++ (codes "\";\nunit 0 family inet address " ++ (address_text i ++ codes ";\n}\n")))))

-- so many interfaces, numbered from 0
abbrev pub interfaces_text : ℕ → List ℕ
interfaces_text zero = []
interfaces_text (suc i) = interfaces_text i ++ interface_text i

-- the text of the configuration of so many interfaces
abbrev pub configuration_text : ℕ → List ℕ
configuration_text number = front_text ++ (interfaces_text number ++ codes "}\n")
