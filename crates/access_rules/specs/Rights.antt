-- The rights of a user. Junos OS CLI User Guide, on login classes; which words there are, and what each gives, is this project's own.
use Rattle.std.specs.Prelude.{ℕ, Bool, false, ◌||◌, List, [], ◌∷◌, Option, Some, None, codes, if◌then◌else◌}
use Rattle.std.specs.FinMap as finite
use Rattle.std.specs.List.{list_any}
use Rattle.cfg_base.specs.Words.{same_word}
use Rattle.cfg_base.specs.declared.path.Step.{Step}
use Rattle.cfg_tree.specs.Full.{Expansion}
use Rattle.cfg_tree.specs.Tree.{step_of}
use Rattle.cfg_tree.specs.declared.full.Given.{Given}
use Rattle.access_rules.specs.declared.right.Right.{Right}
use Rattle.access_rules.specs.declared.right.Right.TheVariants.{View, Configure, Clear, See, Alter}
use Rattle.access_rules.specs.Sections.{see_word, alter_word}

-- the word of a right
abbrev pub word_of : Right → List ℕ
word_of View = codes "view"
word_of Configure = codes "configure"
word_of Clear = codes "clear"
word_of (See section) = see_word section
word_of (Alter section) = alter_word section

-- two more words let see a section: the one that lets change it, and the one that lets see every section
abbrev pub gives_besides : List ℕ → Right → Bool
gives_besides word (See section) = same_word word (alter_word section) || same_word word (codes "view-configuration")
gives_besides word right = false

-- a word of a class gives a right: `all` gives each, and else it is the right's own word or one of those two
abbrev pub gives : List ℕ → Right → Bool
gives word right = same_word word (codes "all") || same_word word (word_of right) || gives_besides word right

-- one of these words gives a right
abbrev pub has_right : List (List ℕ) → Right → Bool
has_right words right = list_any (λ word. gives word right) words

-- a step without a name
abbrev pub plain : List ℕ → Step
plain head = step_of head []

-- `system login`, a statement of that head and name, and one below it
abbrev pub login_path : List ℕ → List ℕ → List ℕ → List Step
login_path head name below = plain (codes "system") ∷ plain (codes "login") ∷ step_of head name ∷ plain below ∷ []

-- the words of a statement of an expansion, and none where there is no statement
abbrev pub given_words : Option Given → List (List ℕ)
given_words None = []
given_words (Some given) = given.words

-- the first of these words, or another one where there is none
abbrev pub first_or : List ℕ → List (List ℕ) → List ℕ
first_or other [] = other
first_or other (word ∷ words) = word

-- the class of a user
abbrev pub class_of : Expansion → List ℕ → List ℕ
class_of full user =
    first_or (codes "unauthorized") (given_words (finite.get full (login_path (codes "user") user (codes "class"))))

-- the words of a class: those of the predefined ones, and of another one those that it is permitted
abbrev pub words_of_class : Expansion → List ℕ → List (List ℕ)
words_of_class full class =
    (if same_word class (codes "super-user") then codes "all" ∷ []
    else (if same_word class (codes "operator") then codes "clear" ∷ codes "view" ∷ []
    else (if same_word class (codes "read-only") then codes "view" ∷ []
    else (if same_word class (codes "unauthorized") then []
    else given_words (finite.get full (login_path (codes "class") class (codes "permissions")))))))

-- the words that give a user's rights: those of the user's class, and `all` for root, whatever is configured
abbrev pub rights_of : Expansion → List ℕ → List (List ℕ)
rights_of full user = (if same_word user (codes "root") then codes "all" ∷ [] else words_of_class full (class_of full user))
