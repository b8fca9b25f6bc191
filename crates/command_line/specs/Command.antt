-- The command of the program as clap is told it: a mode, a place, any number of session words, three options, and a flag. Its
-- words are read as clap reads those of such a command.
use Rattle.std.specs.Prelude.{true, List, [], ◌∷◌, Some, codes, ◌^◌, ◌-◌}
use Rattle.clap.specs.Words.{App, Kinds, Row, Rule, Text, fault_of, matches_of, new_app, new_rule, with_rule}
use Rattle.clap.specs.Simple.{on_top}
use Rattle.clap.specs.declared.builder.action.ArgAction.TheVariants.{SetTrue}

abbrev pub mode_rule : Rule
mode_rule = record (new_rule (codes "mode")) { required = true }

abbrev pub place_rule : Rule
place_rule = record (new_rule (codes "place")) { required = true }

-- any number of words
abbrev pub session_rule : Rule
session_rule = record (new_rule (codes "session")) { range = Some (record { start_inclusive = 0; end_inclusive = 2 ^ 64 - 1 }) }

-- `--name VALUE`, where it isn't given with its usual value
abbrev pub option_rule : Text → Text → Rule
option_rule name usual = record (new_rule name) { long = Some name; defaults = usual ∷ [] }

-- `--name`, which takes no value: `true` stands for it where it is given, and `false` where it isn't
abbrev pub flag_rule : Text → Rule
flag_rule name = record (new_rule name) { long = Some name; action = Some SetTrue }

-- a command whose words don't begin with the program's name, and that knows no words for help and for a version
abbrev pub bare : App
bare = on_top (λ s. record s { no_binary_name = true; disable_help_flag = true; disable_version_flag = true }) (new_app (codes "confd"))

abbrev pub with_places : App
with_places = with_rule (with_rule (with_rule bare mode_rule) place_rule) session_rule

abbrev pub with_options : App
with_options =
    with_rule (with_rule (with_rule with_places (option_rule (codes "user") (codes "root")))
    (option_rule (codes "input") (codes "16777216"))) (option_rule (codes "journal-limit") (codes "67108864"))

abbrev pub confd : App
confd = with_rule with_options (flag_rule (codes "access"))

-- the kinds of fault that clap finds in the words: none where it takes them
unfoldable pub faults_in : List Text → Kinds
faults_in words = fault_of confd words

-- what clap makes of words that it takes: a row for each of the command's arguments that has a value
unfoldable pub rows_in : List Text → List Row
rows_in words = matches_of confd words
