-- The words by which a statement is named. That a name or a head is left out where it is empty is this project's own.
use Rattle.std.specs.Prelude.{ℕ, List, [], ◌∷◌, ◌++◌, flat_map}
use Rattle.cfg_base.specs.declared.path.Step.{Step}

-- the word, where it isn't empty
abbrev pub word_if_any : List ℕ → List (List ℕ)
word_if_any [] = []
word_if_any (byte ∷ bytes) = (byte ∷ bytes) ∷ []

-- a step's head and then its name: `system` is one word, `unit 0` two, `ge-0/0/0` below `interfaces` one
abbrev pub words_of_step : Step → List (List ℕ)
words_of_step step = word_if_any step.head ++ word_if_any step.name

-- the words of the steps, one step after the other
abbrev pub own_words : List Step → List (List ℕ)
own_words steps = flat_map words_of_step steps
