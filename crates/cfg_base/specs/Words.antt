-- Lists of words: which words stand in them, and lists that are joined and parted.
-- Junos OS CLI User Guide, on set and delete of statements with several values.
use Rattle.std.specs.Prelude.{◌≡◌, ℕ, ◌<◌, ◌-◌, Bool, true, false, not, ◌&&◌, List, [], ◌∷◌, ◌++◌, length, filter, slice_index_or, nat_eq, if◌then◌else◌}
use Rattle.std.specs.List.{list_any}
use Rattle.std.specs.Cmp.Lexicographic.{pointwise}
use Rattle.std.specs.BTreeSet.{BTreeSet, contains}
use Rattle.cfg_base.specs.Order.{word_cmp}
use Rattle.cfg_base.specs.Blocks.{flat, AreSized}
use Rattle.cfg_base.specs.declared.shared.TheConstants.{MAX_ITEMS}

-- two words have the same bytes
abbrev pub same_word : List ℕ → List ℕ → Bool
same_word = pointwise nat_eq

-- a list of words has this one
abbrev pub lists : List (List ℕ) → List ℕ → Bool
lists words word = list_any (same_word word) words

-- the words with one more, where it isn't there yet
abbrev pub with_word : List (List ℕ) → List ℕ → List (List ℕ)
with_word words word = if lists words word then words else words ++ word ∷ []

-- the words of one list, and then those of another that aren't there yet, each once
abbrev pub joined : List (List ℕ) → List (List ℕ) → List (List ℕ)
joined words [] = words
joined words (word ∷ more) = joined (with_word words word) more

-- the words of one list that aren't in another
abbrev pub words_without : List (List ℕ) → List (List ℕ) → List (List ℕ)
words_without words gone = filter (λ word. not (lists gone word)) words

-- the set has exactly the words of a list
abbrev pub Knows : List (List ℕ) → BTreeSet (List ℕ) → Type 0
Knows words known = (word : List ℕ) → contains word_cmp known word ≡ lists words word

-- the set has exactly those of the given words that the list hasn't
abbrev pub Misses : List (List ℕ) → List (List ℕ) → BTreeSet (List ℕ) → Type 0
Misses words given missing = (word : List ℕ) → contains word_cmp missing word ≡ (lists given word && not (lists words word))

-- the blocks of a list, and how many words they have
pub record AreListed (blocks : List (List (List ℕ))) (count : ℕ) : Type 0 where
  pub sized : AreSized blocks
  pub counted : count ≡ length (flat blocks)

-- there is a last block, and it takes one more
pub record TakesOne {X : Type 0} (bs : List (List X)) : Type 0 where
  pub some : 0 < length bs
  pub few : (d : List X) → length (slice_index_or bs (length bs - 1) d) < MAX_ITEMS

abbrev pub HasRoom : {X : Type 0} → List (List X) → Bool → Type 0
HasRoom bs true = TakesOne bs
HasRoom bs false = Unit {0}
