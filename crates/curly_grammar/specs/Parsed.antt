-- What the functions below `parse` answer.
use Rattle.std.specs.Prelude.{◌≡◌, ◌≢◌, ◌⊎◌, ◌≤◌, ◌<◌, ℕ, List, length, take, Option, Some, None, Result, Ok, Err, slice_get}
use Rattle.cfg_base.specs.declared.path.Step.{Step}
use Rattle.cfg_lex.specs.Lexed.{Lexed}
use Rattle.cfg_lex.specs.Tokens.{capped}
use Rattle.cfg_tree.specs.declared.limit.TheConstants.{MAX_STATEMENTS}
use Rattle.cfg_tree.specs.Statements.{size_of}
use Rattle.cfg_tree.specs.Stated.{stated_from_none, different, paths_of}
use Rattle.curly_grammar.specs.declared.end.End.{End}
use Rattle.curly_grammar.specs.declared.fault.TextFault.{TextFault}
use Rattle.curly_grammar.specs.declared.fault.TextFault.TheVariants as fault
use Rattle.curly_grammar.specs.declared.fault.Why.{Why}
use Rattle.curly_grammar.specs.declared.marked.Marked.{Marked}
use Rattle.curly_grammar.specs.Fault.{why_not, of_reason, IsLeftmostFault}
use Rattle.curly_grammar.specs.Grammar.{Reads}
use Rattle.curly_grammar.specs.Reading.{Run, start, Takes, Goes}

-- tokens were read up to one that isn't taken
pub record IsEndAt (tokens : List Lexed) (end : End) (run : Run) : Type 0 where
  pub within : end.at < length tokens
  pub read : Goes start (take end.at tokens) run
  pub never : (token : Lexed) → slice_get tokens end.at ≡ Some token → (one : Run) → Takes run.state token one → ⊥
  pub why : end.why ≡ why_not run.state (slice_get tokens end.at)

-- tokens were read, all of them or up to one
abbrev pub IsRead : List Lexed → Option End → Run → Type 0
IsRead tokens None run = Goes start tokens run
IsRead tokens (Some end) run = IsEndAt tokens end run

-- the fault of a text that isn't read for this reason, where these paths were met
abbrev pub IsRefusal : List (List Step) → Why → ℕ → TextFault → Type 0
IsRefusal paths why byte told =
    (told ≡ fault.NoMemory)
    ⊎ (((MAX_STATEMENTS < different paths) × (told ≡ fault.TooMany))
    ⊎ ((different paths ≤ MAX_STATEMENTS) × (told ≡ of_reason why (capped byte))))

-- what the statements of a run make
pub record MakesMarked (run : Run) (marked : Marked) : Type 0 where
  pub tree : marked.tree ≡ stated_from_none run.items
  pub tags : marked.replaced ≡ run.tags
  pub few : different (paths_of run.items) ≤ MAX_STATEMENTS

abbrev pub Makes : Run → Result Marked TextFault → Type 0
Makes run (Ok marked) = MakesMarked run marked
Makes run (Err told) = (told ≡ fault.NoMemory) ⊎ ((MAX_STATEMENTS < different (paths_of run.items)) × (told ≡ fault.TooMany))

-- a text's reading
pub record IsParsedAs (text : List ℕ) (marked : Marked) : Type 0 where
  pub reads : Reads text marked.tree marked.replaced
  pub few : size_of marked.tree ≤ MAX_STATEMENTS

-- what a text says, or its leftmost fault
abbrev pub Parses : List ℕ → Result Marked TextFault → Type 0
Parses text (Ok marked) = IsParsedAs text marked
Parses text (Err told) = told ≢ fault.NoMemory → IsLeftmostFault text told
