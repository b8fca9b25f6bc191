-- Which statements are live, by a look-up of values. Junos OS CLI User Guide, on deactivating statements.
use Rattle.std.specs.Prelude.{ℕ, Bool, true, false, not, ◌&&◌, List, [], ◌∷◌, ◌++◌, Option, Some, None, if◌then◌else◌}
use Rattle.cfg_base.specs.declared.path.Step.{Step}
use Rattle.cfg_base.specs.declared.value.Value.{Value}

-- a look-up of values by their paths
abbrev pub Look : Type 0
Look = List Step → Option Value

-- a statement is there and has no inactive mark
abbrev pub is_active : Option Value → Bool
is_active None = false
is_active (Some value) = not value.inactive

-- from a path on, each further step leads to a statement without the inactive mark
abbrev pub live_from : Look → List Step → List Step → Bool
live_from look above [] = true
live_from look above (step ∷ rest) =
    is_active (look (above ++ step ∷ [])) && live_from look (above ++ step ∷ []) rest

-- a path is live: neither it nor any path above it is inactive; the top stands by itself
abbrev pub is_live : Look → List Step → Bool
is_live look path = live_from look [] path

-- the words of a value, and none where there is no value
abbrev pub words_of : Option Value → List (List ℕ)
words_of None = []
words_of (Some value) = value.words

-- the words of a live statement, and none where the statement isn't live
abbrev pub live_words : Look → List Step → List (List ℕ)
live_words look path = (if is_live look path then words_of (look path) else [])
