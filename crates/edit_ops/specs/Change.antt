-- What a change makes of the statements. Junos OS CLI User Guide, on set, delete, activate, deactivate, protect, unprotect, rename, copy
-- and insert.
use Rattle.std.specs.Prelude.{ℕ, zero, suc, ◌-◌, ◌==◌, Bool, true, false, not, ◌&&◌, List, [], ◌∷◌, length, take, flat_map, if◌then◌else◌, Option, Some, None, is_some, is_none, Result, Ok, Err}
use Rattle.std.specs.List.{list_all}
use Rattle.std.specs.FinMap as map
use Rattle.commands.specs.declared.command.Op.{Op}
use Rattle.commands.specs.declared.command.Op.TheVariants.{Set, Delete, Activate, Deactivate, Protect, Unprotect, Rename, Copy, Insert}
use Rattle.cfg_base.specs.declared.path.Step.{Step}
use Rattle.cfg_base.specs.declared.value.Value.{Value}
use Rattle.cfg_schema.specs.declared.place.Place.{Place}
use Rattle.cfg_schema.specs.Profile.{same_word}
use Rattle.cfg_schema.specs.Place.{place_of}
use Rattle.cfg_tree.specs.Statements.{Statements, parent_of, last_of}
use Rattle.cfg_tree.specs.Tree.{lists}
use Rattle.cfg_tree.specs.Change.{put_at, removed, is_ordered, with_order, without}
use Rattle.cfg_tree.specs.Moving.{renamed, copied}
use Rattle.edit_ops.specs.declared.fault.EditFault.{EditFault}
use Rattle.edit_ops.specs.declared.fault.EditFault.TheVariants.{NotNamed, NotOrdered, NotThere, AlreadyThere}
use Rattle.edit_ops.specs.declared.subject.Subject.{Subject}
use Rattle.edit_ops.specs.Value.{no_value, value_or_none, value_set, words_without, at_row, has_name}

-- the words that name the statement to be changed
abbrev pub words_of : Op → List (List ℕ)
words_of (Set words) = words
words_of (Delete words) = words
words_of (Activate words) = words
words_of (Deactivate words) = words
words_of (Protect words) = words
words_of (Unprotect words) = words
words_of (Rename from to) = from
words_of (Copy from to) = from
words_of (Insert moved before anchor) = moved

-- the words that name a second statement, where there are some
abbrev pub second_words : Op → Option (List (List ℕ))
second_words (Set words) = None
second_words (Delete words) = None
second_words (Activate words) = None
second_words (Deactivate words) = None
second_words (Protect words) = None
second_words (Unprotect words) = None
second_words (Rename from to) = Some to
second_words (Copy from to) = Some to
second_words (Insert moved before anchor) = Some anchor

-- an empty level is put where a path is missing
abbrev pub with_level : Statements → List Step → Statements
with_level m path = if is_some (map.get m path) then m else put_at m path no_value

-- the same for the first n levels of a path, outermost first
abbrev pub with_levels : Statements → ℕ → List Step → Statements
with_levels m zero path = m
with_levels m (suc n) path = with_level (with_levels m n path) (take (suc n) path)

-- the levels above a path, and then the path with these words
abbrev pub set_of : Statements → List Step → List (List ℕ) → Statements
set_of m path words =
    put_at (with_levels m (length path - 1) path) path (value_set path (value_or_none (map.get m path)) words)

-- a statement keeps the words that are left, and goes with the last of them
abbrev pub left_at : Statements → List Step → Value → List (List ℕ) → Statements
left_at m path value [] = removed m path
left_at m path value (word ∷ words) = put_at m path (record value { words = word ∷ words })

-- a deletion without words takes the statement and all below; one with words takes these, where all of them are there
abbrev pub deleted_from : Statements → List Step → Value → List (List ℕ) → Option Statements
deleted_from m path value [] = Some (removed m path)
deleted_from m path value (word ∷ words) =
    if list_all (lists value.words) (word ∷ words)
    then Some (left_at m path value (words_without value.words (word ∷ words)))
    else None

abbrev pub deleted_of : Statements → List Step → Option Value → List (List ℕ) → Option Statements
deleted_of m path None words = None
deleted_of m path (Some value) words = deleted_from m path value words

-- the marks of a statement that is there
abbrev pub marked : Statements → List Step → Option Value → (Value → Value) → Option Statements
marked m path None mark = None
marked m path (Some value) mark = Some (put_at m path (mark value))

-- the statements, or the refusal that something of the path isn't there
abbrev pub if_there : List Step → Option Statements → Result Statements EditFault
if_there path None = Err (NotThere path)
if_there path (Some n) = Ok n

abbrev pub deleted_at : Statements → List Step → List (List ℕ) → Result Statements EditFault
deleted_at m path words = if_there path (deleted_of m path (map.get m path) words)

abbrev pub marked_at : Statements → List Step → (Value → Value) → Result Statements EditFault
marked_at m path mark = if_there path (marked m path (map.get m path) mark)

-- two paths follow the same row
abbrev pub same_row : Option Place → Option Place → Bool
same_row None other = false
same_row (Some here) None = false
same_row (Some here) (Some there) = here.row == there.row

-- a path below the same parent is another name for a statement: it is as long and of the same row, whose statements have names
abbrev pub is_name_for : List Step → List Step → Bool
is_name_for path other = at_row has_name (place_of path) && ((length other == length path) && same_row (place_of path) (place_of other))

-- a cause of refusal: whether it holds, and the refusal
abbrev pub Cause : Type 0
Cause = Bool × EditFault

-- of these causes the first that holds, and the statements where none does
abbrev pub unless : List Cause → Statements → Result Statements EditFault
unless [] n = Ok n
unless (cause ∷ causes) n = if cause.0 then Err cause.1 else unless causes n

-- why a statement gets no other name, and no copy under one
abbrev pub move_causes : Statements → List Step → List Step → List Cause
move_causes m path other =
    (not (is_name_for path other), NotNamed path)
    ∷ (is_none (map.get m path), NotThere path)
    ∷ (is_some (map.get m other), AlreadyThere other)
    ∷ []

-- why a statement isn't put next to another one
abbrev pub insert_causes : Statements → List Step → List Step → List Cause
insert_causes m path anchor =
    (not (is_name_for path anchor), NotNamed path)
    ∷ (not (is_ordered path), NotOrdered path)
    ∷ (is_none (map.get m path), NotThere path)
    ∷ (is_none (map.get m anchor), NotThere anchor)
    ∷ []

-- a name before or after another one
abbrev pub beside : Bool → List ℕ → List ℕ → List (List ℕ)
beside true name anchor = name ∷ anchor ∷ []
beside false name anchor = anchor ∷ name ∷ []

-- the names with another one next to an anchor
abbrev pub with_beside : Bool → List ℕ → List ℕ → List (List ℕ) → List (List ℕ)
with_beside before name anchor names = flat_map (λ other. if same_word anchor other then beside before name anchor else other ∷ []) names

-- the names with one of them taken out and put next to another; a name next to itself stays
abbrev pub moved_beside : Bool → List ℕ → List ℕ → List (List ℕ) → List (List ℕ)
moved_beside before name anchor names =
    if same_word name anchor then names else with_beside before name anchor (without name names)

-- the statements with another order of the parent's children
abbrev pub inserted : Statements → Bool → List Step → List Step → Statements
inserted m before path anchor = with_order m (parent_of path) (moved_beside before (last_of path).name (last_of anchor).name)

-- the statements with another name, a copy or another order, or the first cause for which there are none
abbrev pub renamed_to : Statements → List Step → List Step → Result Statements EditFault
renamed_to m path other = unless (move_causes m path other) (renamed m path other)

abbrev pub copied_to : Statements → List Step → List Step → Result Statements EditFault
copied_to m path other = unless (move_causes m path other) (copied m path other)

abbrev pub inserted_at : Statements → Bool → List Step → List Step → Result Statements EditFault
inserted_at m before path anchor = unless (insert_causes m path anchor) (inserted m before path anchor)

-- the second statement that a change names, or the first where it names one alone
abbrev pub path_or : List Step → Option (List Step) → List Step
path_or path None = path
path_or path (Some other) = other

abbrev pub other_of : Subject → List Step
other_of subject = path_or subject.target.path subject.other

-- the statements after a change of what its words name, or the first cause for which there are none
abbrev pub changed : Statements → Op → Subject → Result Statements EditFault
changed m (Set words) subject = Ok (set_of m subject.target.path subject.target.words)
changed m (Delete words) subject = deleted_at m subject.target.path subject.target.words
changed m (Activate words) subject = marked_at m subject.target.path (λ value. record value { inactive = false })
changed m (Deactivate words) subject = marked_at m subject.target.path (λ value. record value { inactive = true })
changed m (Protect words) subject = marked_at m subject.target.path (λ value. record value { protected = true })
changed m (Unprotect words) subject = marked_at m subject.target.path (λ value. record value { protected = false })
changed m (Rename from to) subject = renamed_to m subject.target.path (other_of subject)
changed m (Copy from to) subject = copied_to m subject.target.path (other_of subject)
changed m (Insert moved before anchor) subject = inserted_at m before subject.target.path (other_of subject)
