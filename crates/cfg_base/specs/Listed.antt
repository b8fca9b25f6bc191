-- Where the words of a list stand: one in the list itself, and more in blocks. How lists are kept is this project's own.
use Rattle.std.specs.Prelude.{ℕ, List, [], ◌∷◌}
use Rattle.cfg_base.specs.declared.word_list.Listed.{Listed}
use Rattle.cfg_base.specs.declared.word_list.Listed.TheVariants.{None, One, More}

-- the words that are kept
abbrev pub words_of : Listed → List (List ℕ)
words_of None = []
words_of (One word) = word ∷ []
words_of (More words) = words.value
