-- What a change answers: what its words name, and the first cause for which it is refused.
use Rattle.std.specs.Prelude.{◌≡◌, ◌≢◌, ◌≤◌, ◌<◌, ◌⊎◌, ℕ, Bool, true, Decides, List, [], length, Option, Some, None, Ok, Err}
use Rattle.commands.specs.declared.command.Op.{Op}
use Rattle.commands.specs.declared.command.Op.TheVariants.{Set, Delete, Activate, Deactivate, Protect, Unprotect, Rename, Copy, Insert}
use Rattle.cfg_base.specs.declared.path.Step.{Step}
use Rattle.cfg_tree.specs.declared.limit.TheConstants.{MAX_STATEMENTS}
use Rattle.cfg_resolve.specs.declared.target.Target.{Target}
use Rattle.cfg_resolve.specs.declared.target.WordsFault.{WordsFault}
use Rattle.cfg_resolve.specs.declared.target.WordsFault.TheVariants as words
use Rattle.cfg_tree.specs.Statements.{Statements, size_of, parent_of}
use Rattle.cfg_resolve.specs.Resolve.{ResolvesTo, target}
use Rattle.edit_ops.specs.declared.fault.EditFault.{EditFault}
use Rattle.edit_ops.specs.declared.fault.EditFault.TheVariants.{Unknown, BadValue, Incomplete, Extra, Protected, TooMany, NoMemory}
use Rattle.edit_ops.specs.Value.{has_words_at}
use Rattle.edit_ops.specs.declared.subject.Subject.{Subject}
use Rattle.edit_ops.specs.Change.{words_of, second_words, changed}
use Rattle.edit_ops.specs.Block.{IsSpared, IsFree, IsBlockedBy}

-- a refusal of the words as a refusal of the change
abbrev pub edit_fault : WordsFault → EditFault
edit_fault (words.Unknown path) = Unknown path
edit_fault (words.BadValue path) = BadValue path
edit_fault (words.Incomplete path) = Incomplete path
edit_fault (words.Extra path) = Extra path
edit_fault words.NoMemory = NoMemory

-- a Leaf or Many has a word at least
abbrev pub IsEnough : Target → Type 0
IsEnough target = has_words_at target.path ≡ true → 0 < length target.words

-- no words follow a statement
abbrev pub HasNoWords : Target → Type 0
HasNoWords target = target.words ≡ []

-- what more a change asks of the words: one at least to set of a Leaf or Many; none after any other statement but one to be deleted
abbrev pub IsWhole : Op → Target → Type 0
IsWhole (Set _) target = IsEnough target
IsWhole (Delete _) target = Unit {0}
IsWhole (Activate _) target = HasNoWords target
IsWhole (Deactivate _) target = HasNoWords target
IsWhole (Protect _) target = HasNoWords target
IsWhole (Unprotect _) target = HasNoWords target
IsWhole (Rename _ _) target = HasNoWords target
IsWhole (Copy _ _) target = HasNoWords target
IsWhole (Insert _ _ _) target = HasNoWords target

-- the refusal where it isn't so
abbrev pub unwhole : Op → List Step → EditFault
unwhole (Set _) path = Incomplete path
unwhole (Delete _) path = Extra path
unwhole (Activate _) path = Extra path
unwhole (Deactivate _) path = Extra path
unwhole (Protect _) path = Extra path
unwhole (Unprotect _) path = Extra path
unwhole (Rename _ _) path = Extra path
unwhole (Copy _ _) path = Extra path
unwhole (Insert _ _ _) path = Extra path

-- the words of a second statement, where there are some, name it from the parent of the first
abbrev pub NamesOther : Option (List (List ℕ)) → List Step → Option (List Step) → Type 0
NamesOther None path other = other ≡ None
NamesOther (Some words) path None = ⊥
NamesOther (Some words) path (Some other) = ResolvesTo (parent_of path) words (Ok (target other []))

-- the change's words name this statement with these words, and the second one
pub record NamesSubject (level : List Step) (op : Op) (subject : Subject) : Type 0 where
  pub names : ResolvesTo level (words_of op) (Ok subject.target)
  pub is_whole : IsWhole op subject.target
  pub other : NamesOther (second_words op) subject.target.path subject.other

-- words name no statement from a level, or too few or too many words follow it
pub record IsMisnamed (level : List Step) (words : List (List ℕ)) (fault : EditFault) : Type 0 where
  pub why : WordsFault
  pub refused : ResolvesTo level words (Err why)
  pub is : fault ≡ edit_fault why

pub record IsUnwhole (level : List Step) (words : List (List ℕ)) (whole : Target → Type 0) (refusal : List Step → EditFault)
    (fault : EditFault) : Type 0 where
  pub target : Target
  pub names : ResolvesTo level words (Ok target)
  pub not_whole : ¬ (whole target)
  pub is : fault ≡ refusal target.path

abbrev pub IsNameFault : List Step → List (List ℕ) → (Target → Type 0) → (List Step → EditFault) → EditFault → Type 0
IsNameFault level words whole refusal fault = IsMisnamed level words fault ⊎ IsUnwhole level words whole refusal fault

-- the same of the words of a second statement, where the first is named
pub record IsOtherFault (level : List Step) (op : Op) (fault : EditFault) : Type 0 where
  pub target : Target
  pub names : ResolvesTo level (words_of op) (Ok target)
  pub is_whole : IsWhole op target
  pub words : List (List ℕ)
  pub second : second_words op ≡ Some words
  pub cause : IsNameFault (parent_of target.path) words HasNoWords Extra fault

abbrev pub IsWordsFault : List Step → Op → EditFault → Type 0
IsWordsFault level op fault = IsNameFault level (words_of op) (IsWhole op) (unwhole op) fault ⊎ IsOtherFault level op fault

-- a protected statement keeps the change that would be made
pub record IsKept (m : Statements) (op : Op) (subject : Subject) (path : List Step) : Type 0 where
  pub next : Statements
  pub made : changed m op subject ≡ Ok next
  pub blocked : IsBlockedBy m next (IsSpared op subject.target.path) path

-- nothing keeps it, and there would be too many statements
pub record IsTooMany (m : Statements) (op : Op) (subject : Subject) : Type 0 where
  pub next : Statements
  pub made : changed m op subject ≡ Ok next
  pub free : IsFree m next (IsSpared op subject.target.path)
  pub many : MAX_STATEMENTS < size_of next

-- why a change of what is named is refused: the first cause for which there is no map after it; or a protected statement, or the limit
abbrev pub IsChangeFault : Statements → Op → Subject → EditFault → Type 0
IsChangeFault m op subject (Protected path) = IsKept m op subject path
IsChangeFault m op subject TooMany = IsTooMany m op subject
IsChangeFault m op subject NoMemory = Unit {0}
IsChangeFault m op subject fault = changed m op subject ≡ Err fault

-- the change is made
pub record Makes (m n : Statements) (op : Op) (subject : Subject) : Type 0 where
  pub made : changed m op subject ≡ Ok n
  pub free : IsFree m n (IsSpared op subject.target.path)
  pub few : size_of n ≤ MAX_STATEMENTS

-- a change: it is made of what its words name, and reports whether the map changed; or it is refused
pub record IsChange (m n : Statements) (level : List Step) (op : Op) (told : Bool) : Type 0 where
  pub subject : Subject
  pub asks : NamesSubject level op subject
  pub makes : Makes m n op subject
  pub tells : Decides told (n ≢ m)

pub record IsRefused (m : Statements) (level : List Step) (op : Op) (fault : EditFault) : Type 0 where
  pub subject : Subject
  pub asks : NamesSubject level op subject
  pub cause : IsChangeFault m op subject fault

abbrev pub IsEditFault : Statements → List Step → Op → EditFault → Type 0
IsEditFault m level op fault = IsWordsFault level op fault ⊎ IsRefused m level op fault
