-- The list of commits as it is shown. Junos OS CLI User Guide, on displaying the commit history; the layout is this
-- project's own.
use Rattle.std.specs.Prelude.{◌≡◌, ℕ, ◌-◌, ◌==◌, List, [], ◌∷◌, ◌++◌, length, replicate, if◌then◌else◌, codes, decimal}
use Rattle.commit_ledger.specs.declared.entry.Commit.{Commit}
use Rattle.commit_ledger.specs.declared.entry.Via.{Via}
use Rattle.commit_ledger.specs.declared.entry.Via.TheVariants.{Cli, Other}
use Rattle.commit_ledger.specs.Date.{date_text_at}
use Rattle.commit_ledger.specs.Kept.{Kept, commits_of}

-- a number, and blanks after it up to four places
abbrev pub in_four_places : ℕ → List ℕ
in_four_places n = decimal n ++ replicate (4 - length (decimal n)) 32

abbrev pub via_text : Via → List ℕ
via_text Cli = codes " via cli"
via_text Other = codes " via other"

-- of a commit that needed a confirmation, within how many minutes
abbrev pub confirmed_text : ℕ → List ℕ
confirmed_text minutes =
    if minutes == 0 then [] else codes " commit confirmed, rollback in " ++ (decimal minutes ++ codes " mins")

-- a comment stands on a line of its own
abbrev pub comment_text : List ℕ → List ℕ
comment_text [] = []
comment_text (byte ∷ bytes) = codes "    " ++ (byte ∷ bytes ++ codes "\n")

-- what stands after the way in which it came
abbrev pub line_rest : Commit → List ℕ
line_rest commit = confirmed_text commit.minutes ++ (codes "\n" ++ comment_text commit.comment)

-- what stands after the date: who made the commit and how, and its comment
abbrev pub line_end : Commit → List ℕ
line_end commit = codes " UTC by " ++ (commit.user ++ (via_text commit.via ++ line_rest commit))

-- the lines of the commit that is rollback n
abbrev pub lines_of : ℕ → Commit → List ℕ
lines_of n commit = in_four_places n ++ (date_text_at commit.moment ++ line_end commit)

-- the lines of commits, oldest first in the list and the last one's first in the text: as many stand after a commit in the
-- list as its rollback number says
abbrev pub all_lines : List Commit → List ℕ
all_lines [] = []
all_lines (commit ∷ newer) = all_lines newer ++ lines_of (length newer) commit

-- the list of the commits that are kept
abbrev pub listing_of : Kept → List ℕ
listing_of kept = all_lines (commits_of kept)

-- a text is that list
abbrev pub IsListing : Kept → List ℕ → Type 0
IsListing kept text = text ≡ listing_of kept
