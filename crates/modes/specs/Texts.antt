-- What the modes write that serve no session. The texts are this project's own.
use Rattle.std.specs.Prelude.{ℕ, List, ◌++◌, Option, Some, None, codes, decimal}
use Rattle.commit_ledger.specs.Kept.{Kept, Unconfirmed, kept_commits}

-- a line of a name and a number
abbrev pub number_line : List ℕ → ℕ → List ℕ
number_line name number = name ++ (decimal number ++ codes "\n")

abbrev pub init_text : List ℕ
init_text = codes "journal created\n"

-- the deadline of an unconfirmed run
abbrev pub deadline_line : Option Unconfirmed → List ℕ
deadline_line None = codes "deadline none\n"
deadline_line (Some run) = number_line (codes "deadline ") run.deadline

-- how many entries the list has, how many commits are kept, and the deadline
abbrev pub check_text : Kept → List ℕ
check_text kept = number_line (codes "entries ") kept.count ++ (number_line (codes "commits ") (kept_commits kept) ++ deadline_line kept.pending)

-- what is said of a configuration that was made: its statements, the paths of its expansion, the bytes of its text, and how
-- many commits are kept
abbrev pub gen_text : ℕ → ℕ → ℕ → ℕ → List ℕ
gen_text statements expanded bytes commits =
    number_line (codes "statements ") statements ++ (number_line (codes "expanded ") expanded
    ++ (number_line (codes "bytes ") bytes ++ number_line (codes "commits ") commits))
