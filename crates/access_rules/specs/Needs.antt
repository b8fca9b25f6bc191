-- Which rights each command needs, and whether it is allowed. This project's own.
use Rattle.std.specs.Prelude.{◌≡◌, ℕ, not, List, [], ◌∷◌, ◌++◌, map, find, Option, Some, None, Result, Ok, Err, ⊤}
use Rattle.cfg_base.specs.declared.path.Step.{Step}
use Rattle.commands.specs.declared.command.Command.{Command}
use Rattle.commands.specs.declared.command.Command.TheVariants as command
use Rattle.commands.specs.declared.command.Form.{Form}
use Rattle.commands.specs.declared.command.Form.TheVariants.{Curly, SetLines, Inherited}
use Rattle.commands.specs.declared.command.Op.{Op}
use Rattle.commands.specs.declared.command.Op.TheVariants as op
use Rattle.access_rules.specs.declared.fault.AccessFault.{AccessFault}
use Rattle.access_rules.specs.declared.fault.AccessFault.TheVariants.{Denied, NoMemory}
use Rattle.access_rules.specs.declared.right.Right.{Right}
use Rattle.access_rules.specs.declared.right.Right.TheVariants.{View, Configure, Clear, See, Alter}
use Rattle.access_rules.specs.declared.section.Section.{Section}
use Rattle.access_rules.specs.declared.section.Section.TheVariants.{System}
use Rattle.access_rules.specs.Sections.{section_of, all_sections}
use Rattle.access_rules.specs.Rights.{has_right}

-- the first word of the statement at the top that words from a level on are of: the level's own, and at the top the first of the words
abbrev pub top_word : List Step → List (List ℕ) → Option (List ℕ)
top_word [] [] = None
top_word [] (word ∷ words) = Some word
top_word (step ∷ rest) words = Some step.head

-- the right of a section, where there is one
abbrev pub right_in : (Section → Right) → Option Section → List Right
right_in right None = []
right_in right (Some section) = right section ∷ []

-- what is shown has to be seen: one section, or all of them where everything is shown
abbrev pub see_needs : Option (List ℕ) → List Right
see_needs None = map See all_sections
see_needs (Some word) = right_in See (section_of word)

-- what is inherited comes from groups, which are of the first section
abbrev pub form_needs : Form → List Right
form_needs Curly = []
form_needs SetLines = []
form_needs Inherited = See System ∷ []

-- what a show needs from a level on
abbrev pub show_needs : List Step → List (List ℕ) → Form → List Right
show_needs level words form = form_needs form ++ see_needs (top_word level words)

-- the words that name what is changed; of two statements those of the first, since the second stands beside it
abbrev pub changed_words : Op → List (List ℕ)
changed_words (op.Set words) = words
changed_words (op.Delete words) = words
changed_words (op.Activate words) = words
changed_words (op.Deactivate words) = words
changed_words (op.Protect words) = words
changed_words (op.Unprotect words) = words
changed_words (op.Rename from to) = from
changed_words (op.Copy from to) = from
changed_words (op.Insert moved before anchor) = moved

-- what is changed has to be of a section that may be changed; words that begin no statement change nothing
abbrev pub alter_needs : Option (List ℕ) → List Right
alter_needs None = []
alter_needs (Some word) = right_in Alter (section_of word)

-- a change of all statements
abbrev pub replace_needs : List Right
replace_needs = Configure ∷ map Alter all_sections

-- the rights that a command needs at a level, in their order
abbrev pub needs_of : List Step → Command → List Right
needs_of level command.ShowCommits = View ∷ []
needs_of level command.Status = View ∷ []
needs_of level command.ClearCommit = Clear ∷ []
needs_of level (command.ShowActive words form) = show_needs [] words form
needs_of level (command.Show words form) = show_needs level words form
needs_of level (command.Configure mode) = Configure ∷ []
needs_of level (command.Edit words) = Configure ∷ []
needs_of level (command.Up levels) = Configure ∷ []
needs_of level command.Top = Configure ∷ []
needs_of level command.CheckOnly = Configure ∷ []
needs_of level (command.Commit minutes comment quit) = Configure ∷ []
needs_of level (command.CommitAt when comment) = Configure ∷ []
needs_of level command.Update = Configure ∷ []
needs_of level (command.Change change) = Configure ∷ alter_needs (top_word level (changed_words change))
needs_of level (command.Load way text) = replace_needs
needs_of level (command.Rollback number) = replace_needs
needs_of level command.Exit = []
needs_of level command.ExitAll = []
needs_of level command.Logout = []

-- the first of these rights that words don't give
abbrev pub first_missing : List (List ℕ) → List Right → Option Right
first_missing words needs = find (λ right. not (has_right words right)) needs

-- a command at a level is allowed where words give each right that it needs, and else denied by the first one that they don't
abbrev pub Allows : List (List ℕ) → List Step → Command → Result ⊤ AccessFault → Type 0
Allows words level asked (Ok done) = first_missing words (needs_of level asked) ≡ None
Allows words level asked (Err (Denied right)) = first_missing words (needs_of level asked) ≡ Some right
Allows words level asked (Err NoMemory) = Unit {0}
