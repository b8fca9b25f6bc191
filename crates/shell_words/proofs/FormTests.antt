-- Tests of the table of forms, and what they say of each form.
use Rattle.std.proofs.Common.{ℕ, List, [], ◌∷◌, Bool, true, false, not, ◌&&◌, ◌||◌}
use Rattle.std.specs.List.{list_all}
use Rattle.std.specs.Prelude.{codes, nat_le}
use Rattle.cfg_base.specs.Words.{same_word}
use Rattle.cfg_lex.specs.declared.token.TokenKind.{TokenKind}
use Rattle.cfg_lex.specs.declared.token.TokenKind.TheVariants as kind
use Rattle.cfg_lex.specs.Lexed.{lexed}
use Rattle.shell_words.specs.declared.form.Symbol.{Symbol}
use Rattle.shell_words.specs.declared.form.Symbol.TheVariants.{Keyword, Mark, Word, Neither, Number, Time, OpenBracket, CloseBracket}
use Rattle.shell_words.specs.declared.form.Part.{Part}
use Rattle.shell_words.specs.declared.form.Part.TheVariants.{Nothing, One, Many}
use Rattle.shell_words.specs.declared.form.Makes.{Makes}
use Rattle.shell_words.specs.declared.form.Makes.TheVariants.{Move, Commit, Synchronize}
use Rattle.shell_words.specs.declared.form.Confirmed.TheVariants.{InMinutes}
use Rattle.shell_words.specs.declared.form.CommandForm.{CommandForm}
use Rattle.shell_words.specs.declared.keyword.Keyword as keywords
use Rattle.shell_words.specs.declared.keyword.Keyword.TheVariants as key
use Rattle.shell_words.specs.Item.{Item}
use Rattle.shell_words.specs.Form.{is_of, names, parts_of}
use Rattle.shell_words.specs.Keyword.{spelled}
use Rattle.shell_words.specs.Number.{number_of, is_between}

-- tokens of the symbol are words
abbrev pub are_words : Symbol → Bool
are_words (Keyword keyword) = true
are_words (Mark keyword) = true
are_words Word = true
are_words (Neither one other) = true
are_words (Number low high) = true
are_words Time = true
are_words OpenBracket = false
are_words CloseBracket = false

-- a test that no token is of both
abbrev pub differ : Symbol → Symbol → Bool
differ (Keyword one) (Keyword other) = not (same_word (spelled one) (spelled other))
differ (Keyword one) (Mark other) = not (same_word (spelled one) (spelled other))
differ (Mark one) (Mark other) = not (same_word (spelled one) (spelled other))
differ (Number low high) (Keyword other) = not (is_between low high (number_of (spelled other)))
differ (Neither one other) (Mark mark) = same_word (spelled one) (spelled mark) || same_word (spelled other) (spelled mark)
differ OpenBracket other = false
differ CloseBracket other = false
differ one OpenBracket = are_words one
differ one CloseBracket = are_words one
differ one other = false

-- in either order
abbrev pub disjoint : Symbol → Symbol → Bool
disjoint one other = differ one other || differ other one

-- what follows a run ends it: no token of the run's symbol may stand there
abbrev pub ends : Symbol → List Part → Bool
ends symbol [] = true
ends symbol (Nothing ∷ parts) = ends symbol parts
ends symbol (One next ∷ parts) = disjoint symbol next
ends symbol (Many next ∷ parts) = false

-- each run is ended by what follows it
abbrev pub are_ended : List Part → Bool
are_ended [] = true
are_ended (Nothing ∷ parts) = are_ended parts
are_ended (One symbol ∷ parts) = are_ended parts
are_ended (Many symbol ∷ parts) = ends symbol parts && are_ended parts

-- a token of a symbol
abbrev pub example_word : Symbol → List ℕ
example_word (Keyword keyword) = spelled keyword
example_word (Mark keyword) = spelled keyword
example_word Word = codes "1"
example_word (Neither one other) = codes "1"
example_word (Number low high) = codes "1"
example_word Time = codes "00:00"
example_word OpenBracket = []
example_word CloseBracket = []

abbrev pub example_kind : Symbol → TokenKind
example_kind (Keyword keyword) = kind.Bare
example_kind (Mark keyword) = kind.Bare
example_kind Word = kind.Bare
example_kind (Neither one other) = kind.Bare
example_kind (Number low high) = kind.Bare
example_kind Time = kind.Bare
example_kind OpenBracket = kind.OpenBracket
example_kind CloseBracket = kind.CloseBracket

abbrev pub example : Symbol → Item
example symbol = record { token = lexed (example_kind symbol) (example_word symbol); place = 0 }

-- each token that must stand in a line is one of its symbol
abbrev pub have_examples : List Part → Bool
have_examples [] = true
have_examples (Nothing ∷ parts) = have_examples parts
have_examples (One symbol ∷ parts) = is_of symbol (example symbol) && have_examples parts
have_examples (Many symbol ∷ parts) = have_examples parts

-- a token stands in each line
abbrev pub are_some : List Part → Bool
are_some [] = false
are_some (Nothing ∷ parts) = are_some parts
are_some (One symbol ∷ parts) = true
are_some (Many symbol ∷ parts) = are_some parts

-- a test that no line is of both parts, where the first ones begin with one token; the last argument tests the parts after it
abbrev pub apart_one : Symbol → (List Part → Bool) → List Part → Bool
apart_one symbol rest [] = true
apart_one symbol rest (Nothing ∷ others) = apart_one symbol rest others
apart_one symbol rest (One other ∷ others) = disjoint symbol other || rest others
apart_one symbol rest (Many other ∷ others) = (disjoint symbol other || rest (Many other ∷ others)) && apart_one symbol rest others

-- where they begin with a run
abbrev pub apart_many : Symbol → (List Part → Bool) → List Part → Bool
apart_many symbol rest [] = rest []
apart_many symbol rest (Nothing ∷ others) = apart_many symbol rest others
apart_many symbol rest (One other ∷ others) = (disjoint symbol other || apart_many symbol rest others) && rest (One other ∷ others)
apart_many symbol rest (Many other ∷ others) = rest (Many other ∷ others) && apart_many symbol rest others

-- a test that no line is of both
abbrev pub apart : List Part → List Part → Bool
apart [] others = are_some others
apart (Nothing ∷ parts) others = apart parts others
apart (One symbol ∷ parts) others = apart_one symbol (apart parts) others
apart (Many symbol ∷ parts) others = apart_many symbol (apart parts) others

abbrev pub is_sound : CommandForm → Bool
is_sound form = (are_ended (parts_of form) && have_examples (parts_of form)) && are_some (parts_of form)

-- of two forms no line is of both
abbrev pub all_apart : List CommandForm → Bool
all_apart [] = true
all_apart (form ∷ forms) = list_all (λ (other : CommandForm). apart (parts_of form) (parts_of other)) forms && all_apart forms

-- a test of the first part, which is one token, and of the parts after it
abbrev pub leads : (Symbol → Bool) → (List Part → Bool) → List Part → Bool
leads test rest [] = false
leads test rest (Nothing ∷ parts) = false
leads test rest (One symbol ∷ parts) = test symbol && rest parts
leads test rest (Many symbol ∷ parts) = false

-- where it is a run
abbrev pub runs : (Symbol → Bool) → (List Part → Bool) → List Part → Bool
runs test rest [] = false
runs test rest (Nothing ∷ parts) = false
runs test rest (One symbol ∷ parts) = false
runs test rest (Many symbol ∷ parts) = test symbol && rest parts

abbrev pub is_end : List Part → Bool
is_end [] = true
is_end (Nothing ∷ parts) = is_end parts
is_end (One symbol ∷ parts) = false
is_end (Many symbol ∷ parts) = false

-- no token of the symbol is the mark, and it is as this says whether it names something
abbrev pub passes : keywords.Keyword → (Bool → Bool) → Symbol → Bool
passes mark named symbol = disjoint symbol (Mark mark) && named (names symbol)

abbrev pub is_the_mark : keywords.Keyword → Symbol → Bool
is_the_mark mark (Mark other) = same_word (spelled mark) (spelled other)
is_the_mark mark other = false

-- a test of what stands after the mark, from the mark on, and from the first word on
abbrev pub behind_mark : List Part → Bool
behind_mark parts = leads names (runs names is_end) parts

abbrev pub from_mark : keywords.Keyword → List Part → Bool
from_mark mark parts = leads (is_the_mark mark) behind_mark parts

abbrev pub from_words : keywords.Keyword → List Part → Bool
from_words mark parts = runs (passes mark (λ named. named)) (from_mark mark) parts

-- a test that the parts are a keyword, words but the mark, the mark, and words
abbrev pub have_sides : keywords.Keyword → List Part → Bool
have_sides mark parts = leads (passes mark not) (leads (passes mark (λ named. named)) (from_words mark)) parts

abbrev pub are_sides : Makes → List Part → Bool
are_sides (Move mover) parts = have_sides (key.Mark mover) parts
are_sides other parts = true

-- the symbol names nothing
abbrev pub is_unnamed : Symbol → Bool
is_unnamed symbol = not (names symbol)

-- it is a number of minutes that a commit may have
abbrev pub is_minutes : Symbol → Bool
is_minutes (Number low high) = nat_le high 65535
is_minutes other = false

-- a test that the minutes are behind one keyword
abbrev pub from_minutes : List Part → Bool
from_minutes parts = leads is_unnamed (leads is_minutes (λ others. true)) parts

-- a test that the first word of a commit that states its minutes is their number
abbrev pub are_timed : Makes → List Part → Bool
are_timed (Commit InMinutes comment quit) parts = leads is_unnamed from_minutes parts
are_timed (Synchronize InMinutes comment quit) parts = leads is_unnamed (leads is_unnamed from_minutes) parts
are_timed other parts = true
