-- Changes that name two statements, on either side of a mark. Junos OS CLI User Guide, on rename, copy and insert.
use Rattle.std.specs.Prelude.{◌≡◌, ◌<◌, ℕ, List, [], ◌∷◌, ◌++◌, length, map, take, drop, not}
use Rattle.std.specs.List.{prefix_len}
use Rattle.commands.specs.declared.command.Op.{Op}
use Rattle.commands.specs.declared.mover.Mover.{Mover}
use Rattle.commands.specs.Mover.{op_of}
use Rattle.shell_words.specs.declared.keyword.Keyword.{Keyword}
use Rattle.shell_words.specs.declared.keyword.Keyword.TheVariants.{Mark}
use Rattle.shell_words.specs.Item.{Item}
use Rattle.shell_words.specs.Form.{is_mark}

-- how many tokens stand before the first such mark
abbrev pub tokens_before : Keyword → List Item → ℕ
tokens_before mark items = prefix_len (λ item. not (is_mark mark item)) items

-- the words of the tokens after the first one
abbrev pub words_behind_first : List Item → List (List ℕ)
words_behind_first [] = []
words_behind_first (first ∷ items) = map (λ (item : Item). item.token.word) items

-- the words between a line's keyword and the first such mark
abbrev pub front_words : Keyword → List Item → List (List ℕ)
front_words mark items = words_behind_first (take (tokens_before mark items) items)

-- the words after that mark
abbrev pub back_words : Keyword → List Item → List (List ℕ)
back_words mark items = words_behind_first (drop (tokens_before mark items) items)

-- the change of this kind that a line asks
abbrev pub change_in : Mover → List Item → Op
change_in mover items = op_of mover (front_words (Mark mover) items) (back_words (Mark mover) items)

-- there are words on both sides, and together they are these
pub record AreSides (front back words : List (List ℕ)) : Type 0 where
  pub some_front : 0 < length front
  pub some_back : 0 < length back
  pub joined : words ≡ front ++ back
