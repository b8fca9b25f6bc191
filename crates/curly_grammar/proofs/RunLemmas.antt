-- Runs over tokens: one after another, in parts, and at most one over the same tokens.
use Rattle.std.proofs.Common.{◌≡◌, ℕ, List, [], ◌∷◌, ◌++◌, Bool, true, false, refl, sym, ap, subst, ◌∙◌, append-nil, append_assoc}
use Rattle.cfg_base.specs.declared.kind.Kind.{Kind}
use Rattle.cfg_base.specs.declared.kind.Shape.{Shape}
use Rattle.cfg_base.specs.declared.kind.Shape.TheVariants.{Container, Fixed, Keyed, Bare, Leaf, Flag, Many}
use Rattle.cfg_base.specs.declared.path.Step.{Step}
use Rattle.cfg_base.specs.declared.value.Value.{Value}
use Rattle.cfg_entries.specs.EntryMap.{Pair}
use Rattle.cfg_lex.specs.declared.token.TokenKind.{TokenKind}
use Rattle.cfg_lex.specs.declared.token.TokenKind.TheVariants as kind
use Rattle.cfg_lex.specs.Lexed.{Lexed}
use Rattle.cfg_schema.specs.declared.answer.Child.{Child}
use Rattle.cfg_schema.specs.declared.answer.Child.TheVariants as begun
use Rattle.cfg_schema.specs.Profile.{row_of}
use Rattle.cfg_values.proofs.SpellingLemmas.{IsCanonicalOf-unique}
use Rattle.cfg_tree.proofs.NameLemmas.{name_unique}
use Rattle.curly_grammar.specs.declared.phase.Marks.{Marks}
use Rattle.curly_grammar.specs.declared.phase.Phase.{Phase}
use Rattle.curly_grammar.specs.declared.phase.Phase.TheVariants.{Between, Marked, Naming, Valuing, Listing, After}
use Rattle.curly_grammar.specs.Grammar.{Level, is_mark, is_open}
use Rattle.curly_grammar.specs.Reading.{no_marks, ReadState, Run, silent, and_then, Turn, turned, whole, child_at, IsNamed, BeginsAs, BeginsStep, NamesAs, NamesStep, TakesFirst, TakesAfter, IsValued, TakesWord, TakesSemicolon, TakesOpenBrace, Leaves, TakesCloseBrace, TakesOpenBracket, TakesCloseBracket, TakesWordTo, TakesBy, Takes, Goes}

-- a run of these parts
abbrev pub run_of : ReadState → List (Pair Value) → List (List Step) → Run
run_of s items tags = record { state = s; items = items; tags = tags }

pub then-assoc : (a b c : Run) → and_then (and_then a b) c ≡ and_then a (and_then b c)
then-assoc a b c =
    ap (λ (xs : List (Pair Value)). run_of c.state xs ((a.tags ++ b.tags) ++ c.tags)) (append_assoc a.items b.items c.items)
    ∙ ap (λ (xs : List (List Step)). run_of c.state (a.items ++ (b.items ++ c.items)) xs) (append_assoc a.tags b.tags c.tags)

pub then-silent : (a : Run) → and_then a (silent a.state) ≡ a
then-silent a =
    ap (λ (xs : List (Pair Value)). run_of a.state xs (a.tags ++ [])) (append-nil a.items)
    ∙ ap (λ (xs : List (List Step)). run_of a.state a.items xs) (append-nil a.tags)

-- one run after another
pub goes_join : (xs ys : List Lexed) (s : ReadState) (one two : Run) → Goes s xs one → Goes one.state ys two → Goes s (xs ++ ys) (and_then one two)
goes_join [] ys s one two a b =
    subst (λ (r : Run). Goes r.state ys two → Goes s ys (and_then r two)) (sym a) (λ g. g) b
goes_join (x ∷ xs) ys s one two a b = (
  a.0,
  and_then a.1 two,
  a.2,
  goes_join xs ys a.0.state a.1 two a.3 (subst (λ (r : Run). Goes r.state ys two) a.4 b),
  ap (λ (r : Run). and_then r two) a.4 ∙ then-assoc a.0 a.1 two,
)

-- a run over one token
pub goes_one : (s : ReadState) (token : Lexed) (run : Run) → Takes s token run → Goes s (token ∷ []) run
goes_one s token run taken = (run, silent run.state, taken, refl, sym (then-silent run))

-- a token and then more
pub goes_more : (s : ReadState) (token : Lexed) (tokens : List Lexed) (one more : Run) → Takes s token one → Goes one.state tokens more → Goes s (token ∷ tokens) (and_then one more)
goes_more s token tokens one more taken goes = (one, more, taken, goes, refl)

-- a run in two parts
pub record Parts (xs ys : List Lexed) (s : ReadState) (run : Run) : Type 0 where
  pub one : Run
  pub two : Run
  pub first : Goes s xs one
  pub second : Goes one.state ys two
  pub joined : run ≡ and_then one two

pub goes_split : (xs ys : List Lexed) (s : ReadState) (run : Run) → Goes s (xs ++ ys) run → Parts xs ys s run
goes_split [] ys s run g = record { one = silent s; two = run; first = refl; second = g; joined = refl }
goes_split (x ∷ xs) ys s run g =
    let parts = goes_split xs ys g.0.state g.1 g.3
    in record {
      one = and_then g.0 parts.one;
      two = parts.two;
      first = (g.0, parts.one, g.2, parts.first, refl);
      second = parts.second;
      joined = g.4 ∙ ap (λ (r : Run). and_then g.0 r) parts.joined ∙ sym (then-assoc g.0 parts.one parts.two);
    }

named_once : (in_group : Bool) (kind : Kind) (bytes : List ℕ) (marks : Marks) (level : List ℕ → Level) (a b : Turn)
    → IsNamed in_group kind bytes marks level a → IsNamed in_group kind bytes marks level b → a ≡ b
named_once in_group kind bytes marks level a b h g =
    h.makes
    ∙ ap (λ (name : List ℕ). whole marks (level name) []) (name_unique in_group kind bytes h.name g.name h.is_name g.is_name)
    ∙ sym g.makes

valued_once : (level : Level) (bytes : List ℕ) (make : List ℕ → Turn) (a b : Turn) → IsValued level bytes make a → IsValued level bytes make b → a ≡ b
valued_once level bytes make a b h g =
    h.makes ∙ ap make (IsCanonicalOf-unique (row_of level.place.row).value_kind bytes h.word g.word h.spelled g.spelled) ∙ sym g.makes

begins_as_once : (shape : Shape) (kind : Kind) (row : ℕ) (at : Level) (marks : Marks) (word : List ℕ) (a b : Turn)
    → BeginsAs shape kind row at marks word a → BeginsAs shape kind row at marks word b → a ≡ b
begins_as_once Container kind row at marks word a b h g = h ∙ sym g
begins_as_once Flag kind row at marks word a b h g = h ∙ sym g
begins_as_once Bare kind row at marks word a b h g = named_once _ kind word marks _ a b h g
begins_as_once Keyed kind row at marks word a b h g = h ∙ sym g
begins_as_once Fixed kind row at marks word a b h g = h ∙ sym g
begins_as_once Leaf kind row at marks word a b h g = h ∙ sym g
begins_as_once Many kind row at marks word a b h g = h ∙ sym g

begins_once : (child : Child) (at : Level) (marks : Marks) (word : List ℕ) (a b : Turn) → BeginsStep child at marks word a → BeginsStep child at marks word b → a ≡ b
begins_once begun.Unknown at marks word a b h g = absurd h
begins_once (begun.BadName row) at marks word a b h g = h ∙ sym g
begins_once (begun.Row row) at marks word a b h g = begins_as_once (row_of row).shape _ row at marks word a b h g

names_as_once : (shape : Shape) (kind : Kind) (row : ℕ) (at : Level) (marks : Marks) (head word : List ℕ) (a b : Turn)
    → NamesAs shape kind row at marks head word a → NamesAs shape kind row at marks head word b → a ≡ b
names_as_once Keyed kind row at marks head word a b h g = named_once _ kind word marks _ a b h g
names_as_once Fixed kind row at marks head word a b h g = h ∙ sym g
names_as_once Container kind row at marks head word a b h g = absurd h
names_as_once Bare kind row at marks head word a b h g = absurd h
names_as_once Leaf kind row at marks head word a b h g = absurd h
names_as_once Flag kind row at marks head word a b h g = absurd h
names_as_once Many kind row at marks head word a b h g = absurd h

names_once : (child : Child) (at : Level) (marks : Marks) (head word : List ℕ) (a b : Turn) → NamesStep child at marks head word a → NamesStep child at marks head word b → a ≡ b
names_once begun.Unknown at marks head word a b h g = absurd h
names_once (begun.BadName row) at marks head word a b h g = absurd h
names_once (begun.Row row) at marks head word a b h g = names_as_once (row_of row).shape _ row at marks head word a b h g

first_once : (mark : Bool) (here : Level) (marks : Marks) (token : Lexed) (a b : Turn) → TakesFirst mark here marks token a → TakesFirst mark here marks token b → a ≡ b
first_once true here marks token a b h g = h.1 ∙ sym g.1
first_once false here marks token a b h g = begins_once (child_at here token.word []) here marks token.word a b h g

after_once : (opens : Bool) (level : Level) (word : List ℕ) (a b : Turn) → TakesAfter opens level word a → TakesAfter opens level word b → a ≡ b
after_once true level word a b h g = begins_once (child_at level word []) level no_marks word a b h g
after_once false level word a b h g = absurd h

word_once : (phase : Phase) (here : Level) (token : Lexed) (a b : Turn) → TakesWord phase here token a → TakesWord phase here token b → a ≡ b
word_once Between here token a b h g = first_once (is_mark token) here no_marks token a b h g
word_once (Marked marks) here token a b h g = first_once (is_mark token) here marks token a b h g
word_once (Naming marks at head) here token a b h g = names_once (child_at at head token.word) at marks head token.word a b h g
word_once (Valuing marks level) here token a b h g = valued_once level token.word _ a b h g
word_once (Listing marks level words) here token a b h g = valued_once level token.word _ a b h g
word_once (After level) here token a b h g = after_once (is_open level) level token.word a b h g

word_to_once : (s : ReadState) (token : Lexed) (a b : Run) → TakesWordTo s token a → TakesWordTo s token b → a ≡ b
word_to_once s token a b h g =
    h.makes ∙ ap (λ (t : Turn). turned s t) (word_once s.phase s.here token h.turn g.turn h.taken g.taken) ∙ sym g.makes

semicolon_once : (phase : Phase) (s : ReadState) (a b : Run) → TakesSemicolon phase s a → TakesSemicolon phase s b → a ≡ b
semicolon_once (After level) s a b h g = h ∙ sym g
semicolon_once Between s a b h g = absurd h
semicolon_once (Marked marks) s a b h g = absurd h
semicolon_once (Naming marks at head) s a b h g = absurd h
semicolon_once (Valuing marks level) s a b h g = absurd h
semicolon_once (Listing marks level words) s a b h g = absurd h

open_once : (phase : Phase) (s : ReadState) (a b : Run) → TakesOpenBrace phase s a → TakesOpenBrace phase s b → a ≡ b
open_once (After level) s a b h g = h.1 ∙ sym g.1
open_once Between s a b h g = absurd h
open_once (Marked marks) s a b h g = absurd h
open_once (Naming marks at head) s a b h g = absurd h
open_once (Valuing marks level) s a b h g = absurd h
open_once (Listing marks level words) s a b h g = absurd h

leaves_once : (outer : List Level) (a b : Run) → Leaves outer a → Leaves outer b → a ≡ b
leaves_once [] a b h g = absurd h
leaves_once (here ∷ outer) a b h g = h ∙ sym g

close_once : (phase : Phase) (s : ReadState) (a b : Run) → TakesCloseBrace phase s a → TakesCloseBrace phase s b → a ≡ b
close_once Between s a b h g = leaves_once s.outer a b h g
close_once (Marked marks) s a b h g = absurd h
close_once (Naming marks at head) s a b h g = absurd h
close_once (Valuing marks level) s a b h g = absurd h
close_once (Listing marks level words) s a b h g = absurd h
close_once (After level) s a b h g = absurd h

list_once : (phase : Phase) (s : ReadState) (a b : Run) → TakesOpenBracket phase s a → TakesOpenBracket phase s b → a ≡ b
list_once (Valuing marks level) s a b h g = h.1 ∙ sym g.1
list_once Between s a b h g = absurd h
list_once (Marked marks) s a b h g = absurd h
list_once (Naming marks at head) s a b h g = absurd h
list_once (Listing marks level words) s a b h g = absurd h
list_once (After level) s a b h g = absurd h

listed_once : (phase : Phase) (s : ReadState) (a b : Run) → TakesCloseBracket phase s a → TakesCloseBracket phase s b → a ≡ b
listed_once (Listing marks level words) s a b h g = h.1 ∙ sym g.1
listed_once Between s a b h g = absurd h
listed_once (Marked marks) s a b h g = absurd h
listed_once (Naming marks at head) s a b h g = absurd h
listed_once (Valuing marks level) s a b h g = absurd h
listed_once (After level) s a b h g = absurd h

by_kind_once : (kind : TokenKind) (s : ReadState) (token : Lexed) (a b : Run) → TakesBy kind s token a → TakesBy kind s token b → a ≡ b
by_kind_once kind.Semicolon s token a b h g = semicolon_once s.phase s a b h g
by_kind_once kind.OpenBrace s token a b h g = open_once s.phase s a b h g
by_kind_once kind.CloseBrace s token a b h g = close_once s.phase s a b h g
by_kind_once kind.OpenBracket s token a b h g = list_once s.phase s a b h g
by_kind_once kind.CloseBracket s token a b h g = listed_once s.phase s a b h g
by_kind_once kind.Bare s token a b h g = word_to_once s token a b h g
by_kind_once kind.Quoted s token a b h g = word_to_once s token a b h g

-- a token leads from a state to one other at most
pub takes_once : (s : ReadState) (token : Lexed) (a b : Run) → Takes s token a → Takes s token b → a ≡ b
takes_once s token a b h g = by_kind_once token.kind s token a b h g

-- and so do tokens
pub goes_once : (xs : List Lexed) (s : ReadState) (a b : Run) → Goes s xs a → Goes s xs b → a ≡ b
goes_once [] s a b h g = h ∙ sym g
goes_once (x ∷ xs) s a b h g =
    let one = takes_once s x h.0 g.0 h.2 g.2
    in let more = goes_once xs g.0.state h.1 g.1 (subst (λ (r : Run). Goes r.state xs h.1) one h.3) g.3
    in h.4 ∙ ap (λ (r : Run). and_then r h.1) one ∙ ap (λ (r : Run). and_then g.0 r) more ∙ sym g.4
