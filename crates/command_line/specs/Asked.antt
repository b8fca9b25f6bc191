-- What the words of a command line ask. The modes, options and limits are this project's own.
-- Bytes by number: : is 58.
use Rattle.std.specs.Prelude.{◌≡◌, ◌==◌, ◌<◌, ◌≤◌, ◌⊎◌, ℕ, true, List, [], ◌∷◌, ◌++◌, length, map, codes}
use Rattle.std.specs.List.{All, IsDistinct, before_first, after_first}
use Rattle.std.specs.Str.{IsUtf8}
use Rattle.std.specs.Str.Parse.{IsNumeral, digits_value, without_leading_plus}
use Rattle.cfg_base.specs.Kind.{IsName}
use Rattle.cfg_base.specs.Words.{same_word}
use Rattle.cfg_base.specs.declared.kind.Kind.TheVariants.{Number}
use Rattle.cfg_values.specs.Spelling.{IsSpelling}
use Rattle.clap.specs.Words.{Text}
use Rattle.command_line.specs.Command.{faults_in}
use Rattle.command_line.specs.Given.{Given, given}
use Rattle.command_line.specs.declared.asked.Asked.{Asked}
use Rattle.command_line.specs.declared.asked.RunMode.{RunMode}
use Rattle.command_line.specs.declared.asked.RunMode.TheVariants.{Init, Serve, Check, Gen}

abbrev pub name_of : RunMode → Text
name_of Init = codes "init"
name_of Serve = codes "serve"
name_of Check = codes "check"
name_of Gen = codes "gen"

-- a number as Rust reads a `u64`: digits, with or without a plus before them
pub record IsLimit (least : ℕ) (text : Text) (number : ℕ) : Type 0 where
  pub digits : IsNumeral 10 (without_leading_plus text)
  pub value : number ≡ digits_value 10 (without_leading_plus text)
  pub low : least ≤ number
  pub high : number ≤ 4294967295

-- the user of a session word stands before its first colon, and the file after it
abbrev pub user_in : Text → Text
user_in word = before_first (λ b. b == 58) word

abbrev pub file_in : Text → Text
file_in word = after_first (λ b. b == 58) word

pub record IsSessionWord (word : Text) : Type 0 where
  pub colon : word ≡ user_in word ++ 58 ∷ file_in word
  pub user : IsName (user_in word)
  pub file : 0 < length (file_in word)
  pub short : length (file_in word) ≤ 255

-- at most 64 session words, whose files are all different
pub record AreSessions (words : List Text) : Type 0 where
  pub each : All IsSessionWord words
  pub few : length words ≤ 64
  pub once : IsDistinct same_word (map file_in words)

-- the user of each session word, or where there is none that of the one session
abbrev pub users_of : Text → List Text → List Text
users_of user [] = user ∷ []
users_of user (word ∷ words) = map user_in (word ∷ words)

-- what is given asks this
pub record IsAsked (g : Given) (asked : Asked) : Type 0 where
  pub mode : g.mode ≡ name_of asked.mode
  pub place : asked.place ≡ g.place
  pub short : length g.place ≤ 255
  -- how many interfaces are to be made
  pub number : g.mode ≡ codes "gen" → IsSpelling (Number 1 3000) g.place
  pub user : IsName g.user
  pub sessions : AreSessions g.sessions
  -- session words stand with this mode alone
  pub served : (g.sessions ≡ []) ⊎ (g.mode ≡ codes "serve")
  pub users : asked.users ≡ users_of g.user g.sessions
  pub files : asked.files ≡ map file_in g.sessions
  pub input : IsLimit 1 g.input asked.limits.input
  pub journal : IsLimit 4096 g.journal asked.limits.journal
  pub access : asked.access ≡ g.access
  -- rights are asked for with this mode alone
  pub guarded : g.access ≡ true → g.mode ≡ codes "serve"

-- the words ask this: they are text, clap takes them, and what it finds in them asks this
pub record Asks (words : List Text) (asked : Asked) : Type 0 where
  pub text : All IsUtf8 words
  pub taken : faults_in words ≡ []
  pub meant : IsAsked (given words) asked
