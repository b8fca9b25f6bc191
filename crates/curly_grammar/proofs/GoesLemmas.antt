-- What the grammar spells is read.
use Rattle.std.proofs.Common.{◌≡◌, ◌≢◌, ℕ, ◌<◌, Bool, true, false, cond, ◌||◌, List, [], ◌∷◌, ◌++◌, length, map, refl, sym, ap, subst, ◌∙◌, append-nil, append_assoc, arith}
use Rattle.std.specs.List.{flat_map, list_any, AllByRecursion}
use Rattle.cfg_base.specs.declared.kind.Kind.{Kind}
use Rattle.cfg_base.specs.declared.kind.Shape.{Shape}
use Rattle.cfg_base.specs.declared.kind.Shape.TheVariants.{Container, Fixed, Keyed, Bare, Leaf, Flag, Many}
use Rattle.cfg_base.specs.declared.path.Step.{Step}
use Rattle.cfg_base.specs.declared.value.Value.{Value}
use Rattle.cfg_base.specs.Words.{joined}
use Rattle.cfg_entries.specs.EntryMap.{Pair}
use Rattle.cfg_lex.specs.declared.token.TokenKind.{TokenKind}
use Rattle.cfg_lex.specs.declared.token.TokenKind.TheVariants as kind
use Rattle.cfg_lex.specs.Lexed.{Lexed, is_word_kind}
use Rattle.cfg_schema.specs.declared.answer.Child.{Child}
use Rattle.cfg_schema.specs.declared.answer.Child.TheVariants as begun
use Rattle.cfg_schema.specs.Profile.{row_of}
use Rattle.cfg_values.specs.Spelling.{IsCanonicalOf}
use Rattle.cfg_tree.specs.Gather.{is_many}
use Rattle.cfg_tree.specs.Tree.{step_of}
use Rattle.cfg_tree.specs.Typed.{AllSpelled}
use Rattle.curly_grammar.specs.declared.phase.Marks.{Marks}
use Rattle.curly_grammar.specs.declared.phase.Phase.{Phase}
use Rattle.curly_grammar.specs.declared.phase.Phase.TheVariants.{Between, Marked, Naming, Valuing, Listing, After}
use Rattle.curly_grammar.specs.Grammar.{sign, IsWord, is_inactive, is_protect, is_replace, is_mark, Part, One, Two, Listed, Text, End, Short, Block, spell_part, spell, head_of, AreWords, word_of, StandsFor, Level, LeadsTo, is_open, said, LeadTo, Says, tagged, Tells, top_level, Derives, next_of}
use Rattle.curly_grammar.specs.Reading.{no_marks, with_mark, ReadState, state, Run, silent, Turn, turned, quiet, item_of, tag_of, whole, below, child_at, HasRows, BeginsAs, BeginsStep, NamesAs, NamesStep, TakesFirst, TakesAfter, start, TakesWord, TakesWordTo, TakesBy, Takes, Goes}
use Rattle.curly_grammar.proofs.RunLemmas.{run_of, goes_join, goes_one, goes_more}
use Rattle.curly_grammar.proofs.HeadLemmas.{row_stands, row_head, row_alone, fixed_wants_name, rows_there}

-- marks after marks
abbrev pub with_marks : Marks → List Lexed → Marks
with_marks marks [] = marks
with_marks marks (token ∷ tokens) = with_marks (with_mark marks token) tokens

or_assoc : (a b c : Bool) → ((a || b) || c) ≡ (a || (b || c))
or_assoc true b c = refl
or_assoc false b c = refl

or_false : (a : Bool) → (a || false) ≡ a
or_false true = refl
or_false false = refl

inactive_is : (ts : List Lexed) (marks : Marks) → (with_marks marks ts).inactive ≡ (marks.inactive || list_any is_inactive ts)
inactive_is [] marks = sym (or_false marks.inactive)
inactive_is (t ∷ ts) marks = inactive_is ts (with_mark marks t) ∙ or_assoc marks.inactive (is_inactive t) (list_any is_inactive ts)

protected_is : (ts : List Lexed) (marks : Marks) → (with_marks marks ts).protected ≡ (marks.protected || list_any is_protect ts)
protected_is [] marks = sym (or_false marks.protected)
protected_is (t ∷ ts) marks = protected_is ts (with_mark marks t) ∙ or_assoc marks.protected (is_protect t) (list_any is_protect ts)

replace_is : (ts : List Lexed) (marks : Marks) → (with_marks marks ts).replace ≡ (marks.replace || list_any is_replace ts)
replace_is [] marks = sym (or_false marks.replace)
replace_is (t ∷ ts) marks = replace_is ts (with_mark marks t) ∙ or_assoc marks.replace (is_replace t) (list_any is_replace ts)

-- a statement with its marks, as the grammar says it
pub item_said : (marks : List Lexed) (level : Level) (words : List (List ℕ)) → item_of (with_marks no_marks marks) level words ≡ said marks level words
item_said marks level words =
    ap (λ (b : Bool). (level.path, record { inactive = b; protected = (with_marks no_marks marks).protected; order = []; words = words })) (inactive_is marks no_marks)
    ∙ ap (λ (b : Bool). (level.path, record { inactive = list_any is_inactive marks; protected = b; order = []; words = words })) (protected_is marks no_marks)

pub tag_said : (marks : List Lexed) (level : Level) (words : List (List ℕ)) (others : List (Pair Value)) → tag_of (with_marks no_marks marks) level ≡ tagged marks (said marks level words ∷ others)
tag_said marks level words others = ap (λ (b : Bool). cond b (level.path ∷ []) []) (replace_is marks no_marks)

-- a word is taken, whatever its kind
word_by : (k : TokenKind) (s : ReadState) (token : Lexed) (run : Run) → is_word_kind k ≡ true → TakesWordTo s token run → TakesBy k s token run
word_by kind.Bare s token run h t = t
word_by kind.Quoted s token run h t = t
word_by kind.OpenBrace s token run h t = absurd cc
word_by kind.CloseBrace s token run h t = absurd cc
word_by kind.OpenBracket s token run h t = absurd cc
word_by kind.CloseBracket s token run h t = absurd cc
word_by kind.Semicolon s token run h t = absurd cc

pub takes_word : (s : ReadState) (token : Lexed) (turn : Turn) → IsWord token → TakesWord s.phase s.here token turn → Takes s token (turned s turn)
takes_word s token turn word taken = word_by token.kind s token (turned s turn) word record { turn = turn; taken = taken; makes = refl }

mark_by : (k : TokenKind) (word : List ℕ) → is_mark record { kind = k; word = word } ≡ true → is_word_kind k ≡ true
mark_by kind.Bare word h = refl
mark_by kind.Quoted word h = refl
mark_by kind.OpenBrace word h = h
mark_by kind.CloseBrace word h = h
mark_by kind.OpenBracket word h = h
mark_by kind.CloseBracket word h = h
mark_by kind.Semicolon word h = h

pub mark_is_word : (token : Lexed) → is_mark token ≡ true → IsWord token
mark_is_word token h = mark_by token.kind token.word h

whole_is : (marks : Marks) (one two : Level) (words others : List (List ℕ)) → one ≡ two → words ≡ others → whole marks one words ≡ whole marks two others
whole_is marks one two words others e f = ap (λ (l : Level). whole marks l words) e ∙ ap (λ (ws : List (List ℕ)). whole marks two ws) f

step_is : (at : Level) (row : ℕ) (one two : Step) → one ≡ two → below at row one ≡ below at row two
step_is at row one two e = ap (λ (s : Step). below at row s) e

begins_one : (shape : Shape) (name_kind value_kind : Kind) (row : ℕ) (at : Level) (marks : Marks) (word : Lexed) (step : Step) (words : List (List ℕ))
    → StandsFor shape name_kind value_kind at.place.in_group (One word) step words
    → BeginsAs shape name_kind row at marks word.word (whole marks (below at row step) words)
begins_one Container name_kind value_kind row at marks word step words h = whole_is marks _ _ words [] (step_is at row step _ h.0) h.1
begins_one Flag name_kind value_kind row at marks word step words h = whole_is marks _ _ words [] (step_is at row step _ h.0) h.1
begins_one Bare name_kind value_kind row at marks word step words h = record {
  name = step.name;
  is_name = h.1;
  makes = whole_is marks _ _ words [] (step_is at row step _ (ap (λ (bytes : List ℕ). step_of bytes step.name) h.0)) h.2;
}
begins_one Keyed name_kind value_kind row at marks word step words h = absurd h
begins_one Fixed name_kind value_kind row at marks word step words h = absurd h
begins_one Leaf name_kind value_kind row at marks word step words h = absurd h
begins_one Many name_kind value_kind row at marks word step words h = absurd h

-- a value or a list of values that has to come, of a row whose step is its head
valuing_as : (shape : Shape) (name_kind : Kind) (row : ℕ) (at : Level) (marks : Marks) (word : List ℕ) → (shape ≡ Leaf) → BeginsAs shape name_kind row at marks word (quiet (Valuing marks (below at row (step_of word []))))
valuing_as shape name_kind row at marks word e = subst (λ (s : Shape). BeginsAs s name_kind row at marks word (quiet (Valuing marks (below at row (step_of word []))))) (sym e) refl

listing_as : (shape : Shape) (name_kind : Kind) (row : ℕ) (at : Level) (marks : Marks) (word : List ℕ) → (shape ≡ Many) → BeginsAs shape name_kind row at marks word (quiet (Valuing marks (below at row (step_of word []))))
listing_as shape name_kind row at marks word e = subst (λ (s : Shape). BeginsAs s name_kind row at marks word (quiet (Valuing marks (below at row (step_of word []))))) (sym e) refl

-- the values of a list
pub goes_values : (values : List Lexed) (all done : List (List ℕ)) (here : Level) (outer : List Level) (marks : Marks) (level : Level)
    → AllByRecursion IsWord values → AllSpelled (row_of level.place.row).value_kind (map word_of values) all
    → Goes (state here outer (Listing marks level done)) values (silent (state here outer (Listing marks level (done ++ all))))
goes_values [] [] done here outer marks level are h = ap (λ (ws : List (List ℕ)). silent (state here outer (Listing marks level ws))) (append-nil done)
goes_values [] (word ∷ all) done here outer marks level are h = absurd h
goes_values (value ∷ values) [] done here outer marks level are h = absurd h
goes_values (value ∷ values) (word ∷ all) done here outer marks level are h =
    let s : ReadState = state here outer (Listing marks level done)
    in let next : Run = silent (state here outer (Listing marks level (done ++ word ∷ [])))
    in let taken : Takes s value next = takes_word s value (quiet (Listing marks level (done ++ word ∷ []))) are.0 record { word = word; spelled = h.0; makes = refl }
    in let more = goes_values values all (done ++ word ∷ []) here outer marks level are.1 h.1
    in subst
    (λ (ws : List (List ℕ)). Goes s (value ∷ values) (silent (state here outer (Listing marks level ws))))
    (append_assoc done (word ∷ []) all)
    (goes_more s value values next _ taken more)

spelled_length : (kind : Kind) (values : List Lexed) (all : List (List ℕ)) → AllSpelled kind (map word_of values) all → 0 < length values → 0 < length all
spelled_length kind [] all h l = absurd (omega arith)
spelled_length kind (value ∷ values) [] h l = absurd h
spelled_length kind (value ∷ values) (word ∷ all) h l = omega arith

-- another shape
pub other_shape : (shape one two : Shape) → shape ≡ one → (one ≡ two → ⊥) → shape ≢ two
other_shape shape one two e differ f = differ (sym e ∙ f)

-- what a token of a step begins at a level is taken in this phase
abbrev pub Opens : Level → Phase → Level → Marks → Lexed → Type 0
Opens here phase at marks token = (turn : Turn) → BeginsStep (child_at at token.word []) at marks token.word turn → TakesWord phase here token turn

module _ (here : Level) (outer : List Level) (at : Level) (marks : Marks) (phase : Phase) (next : Level) (words : List (List ℕ)) where
  -- the tokens of a step are read in this phase
  abbrev IsRead : List Lexed → Type 0
  IsRead tokens = Goes (state here outer phase) tokens (turned (state here outer phase) (whole marks next words))

  read_one : (word : Lexed) → Opens here phase at marks word → LeadsTo at (One word) next words → IsRead (word ∷ [])
  read_one word opens leads =
      goes_one (state here outer phase) word _
      (takes_word (state here outer phase) word (whole marks next words) leads.are_words
      (opens (whole marks next words)
      (subst (λ (c : Child). BeginsStep c at marks word.word (whole marks next words)) (sym leads.begins)
      (subst (λ (l : Level). BeginsAs (row_of leads.row).shape (row_of leads.row).name_kind leads.row at marks word.word (whole marks l words)) (sym leads.next_is)
      (begins_one (row_of leads.row).shape _ (row_of leads.row).value_kind leads.row at marks word leads.step words leads.stands_for)))))

  -- a head, and then what follows it
  read_behind : (head : Lexed) (tokens : List Lexed) (between : Phase) → IsWord head → Opens here phase at marks head
      → BeginsStep (child_at at head.word []) at marks head.word (quiet between)
      → Goes (state here outer between) tokens (turned (state here outer between) (whole marks next words))
      → IsRead (head ∷ tokens)
  read_behind head tokens between is_word opens begins goes =
      goes_more (state here outer phase) head tokens (silent (state here outer between)) _
      (takes_word (state here outer phase) head (quiet between) is_word (opens (quiet between) begins)) goes

  -- the head of a row that isn't Fixed begins it alone
  begins_alone : (word other : List ℕ) (row : ℕ) (between : Phase) → child_at at word other ≡ begun.Row row → (row_of row).shape ≢ Bare → (row_of row).shape ≢ Fixed
      → BeginsAs (row_of row).shape (row_of row).name_kind row at marks word (quiet between)
      → BeginsStep (child_at at word []) at marks word (quiet between)
  begins_alone word other row between is not_bare not_fixed h =
      subst (λ (c : Child). BeginsStep c at marks word (quiet between)) (sym (row_alone at.place.row at.place.in_group word other row is not_bare not_fixed [])) h

  -- a name after its head
  read_name : (head name : Lexed) (row : ℕ) → IsWord head → IsWord name → Opens here phase at marks head
      → BeginsStep (child_at at head.word []) at marks head.word (quiet (Naming marks at head.word))
      → child_at at head.word name.word ≡ begun.Row row
      → NamesAs (row_of row).shape (row_of row).name_kind row at marks head.word name.word (whole marks next words)
      → IsRead (head ∷ name ∷ [])
  read_name head name row is_head is_name opens begins is h =
      read_behind head (name ∷ []) (Naming marks at head.word) is_head opens begins
      (goes_one (state here outer (Naming marks at head.word)) name _
      (takes_word (state here outer (Naming marks at head.word)) name (whole marks next words) is_name
      (subst (λ (c : Child). NamesStep c at marks head.word name.word (whole marks next words)) (sym is) h)))

  -- a value after its head
  read_value : (head value : Lexed) (row : ℕ) (word : List ℕ) → IsWord head → IsWord value → Opens here phase at marks head
      → BeginsStep (child_at at head.word []) at marks head.word (quiet (Valuing marks (below at row (step_of head.word []))))
      → IsCanonicalOf (row_of row).value_kind value.word word
      → next ≡ below at row (step_of head.word []) → words ≡ word ∷ []
      → IsRead (head ∷ value ∷ [])
  read_value head value row word is_head is_value opens begins spelled next_is words_are =
      read_behind head (value ∷ []) (Valuing marks (below at row (step_of head.word []))) is_head opens begins
      (goes_one (state here outer (Valuing marks (below at row (step_of head.word [])))) value _
      (takes_word (state here outer (Valuing marks (below at row (step_of head.word [])))) value (whole marks next words) is_value record {
        word = word;
        spelled = spelled;
        makes = whole_is marks next _ words (word ∷ []) next_is words_are;
      }))

  two_read : (shape : Shape) (head word : Lexed) (row : ℕ) (step : Step) → (row_of row).shape ≡ shape → Opens here phase at marks head
      → IsWord head → IsWord word → child_at at head.word word.word ≡ begun.Row row → next ≡ below at row step
      → StandsFor shape (row_of row).name_kind (row_of row).value_kind at.place.in_group (Two head word) step words
      → IsRead (head ∷ word ∷ [])
  two_read Keyed head word row step e opens is_head is_word is next_is h =
      read_name head word row is_head is_word opens
      (begins_alone head.word word.word row _ is (other_shape _ Keyed Bare e (λ x. cc)) (other_shape _ Keyed Fixed e (λ x. cc))
      (subst (λ (s : Shape). BeginsAs s (row_of row).name_kind row at marks head.word (quiet (Naming marks at head.word))) (sym e) refl))
      is
      (subst (λ (s : Shape). NamesAs s (row_of row).name_kind row at marks head.word word.word (whole marks next words)) (sym e) record {
        name = step.name;
        is_name = h.1;
        makes = whole_is marks next _ words [] (next_is ∙ step_is at row step _ (ap (λ (bytes : List ℕ). step_of bytes step.name) h.0)) h.2;
      })
  two_read Fixed head word row step e opens is_head is_word is next_is h =
      read_name head word row is_head is_word opens
      (fixed_wants_name at marks head.word row (row_head at.place.row at.place.in_group head.word word.word row is (other_shape _ Fixed Bare e (λ x. cc))) e)
      is
      (subst (λ (s : Shape). NamesAs s (row_of row).name_kind row at marks head.word word.word (whole marks next words)) (sym e)
      (whole_is marks next _ words [] (next_is ∙ step_is at row step _ h.0) h.1))
  two_read Leaf head word row step e opens is_head is_word is next_is h =
      read_value head word row h.1.word is_head is_word opens
      (begins_alone head.word word.word row _ is (other_shape _ Leaf Bare e (λ x. cc)) (other_shape _ Leaf Fixed e (λ x. cc))
      (valuing_as (row_of row).shape _ row at marks head.word e))
      h.1.canonical (next_is ∙ step_is at row step _ h.0) h.1.alone
  two_read Many head word row step e opens is_head is_word is next_is h =
      read_value head word row h.1.word is_head is_word opens
      (begins_alone head.word word.word row _ is (other_shape _ Many Bare e (λ x. cc)) (other_shape _ Many Fixed e (λ x. cc))
      (listing_as (row_of row).shape _ row at marks head.word e))
      h.1.canonical (next_is ∙ step_is at row step _ h.0) h.1.alone
  two_read Container head word row step e opens is_head is_word is next_is h = absurd h
  two_read Bare head word row step e opens is_head is_word is next_is h = absurd h
  two_read Flag head word row step e opens is_head is_word is next_is h = absurd h

  -- a list of values after its head
  read_list : (head : Lexed) (values : List Lexed) (row : ℕ) (all : List (List ℕ)) → (row_of row).shape ≡ Many → IsWord head → 0 < length values → AllByRecursion IsWord values
      → Opens here phase at marks head → child_at at head.word [] ≡ begun.Row row → AllSpelled (row_of row).value_kind (map word_of values) all
      → next ≡ below at row (step_of head.word []) → words ≡ joined [] all
      → IsRead (head ∷ sign kind.OpenBracket ∷ (values ++ sign kind.CloseBracket ∷ []))
  read_list head values row all e is_head some are opens is spelled next_is words_are =
      let level : Level = below at row (step_of head.word [])
      in read_behind head (sign kind.OpenBracket ∷ (values ++ sign kind.CloseBracket ∷ [])) (Valuing marks level) is_head opens
      (begins_alone head.word [] row _ is (other_shape _ Many Bare e (λ x. cc)) (other_shape _ Many Fixed e (λ x. cc))
      (listing_as (row_of row).shape _ row at marks head.word e))
      (goes_more (state here outer (Valuing marks level)) (sign kind.OpenBracket) (values ++ sign kind.CloseBracket ∷ []) (silent (state here outer (Listing marks level []))) _
      (ap is_many e, refl)
      (goes_join values (sign kind.CloseBracket ∷ []) (state here outer (Listing marks level [])) (silent (state here outer (Listing marks level all))) _
      (goes_values values all [] here outer marks level are spelled)
      (goes_one (state here outer (Listing marks level all)) (sign kind.CloseBracket) (turned (state here outer (Listing marks level all)) (whole marks next words))
      (spelled_length _ values all spelled some, ap (λ (t : Turn). turned (state here outer (Listing marks level all)) t) (whole_is marks next _ words _ next_is words_are)))))

  listed_read : (shape : Shape) (head : Lexed) (values : List Lexed) (row : ℕ) (step : Step) → (row_of row).shape ≡ shape → Opens here phase at marks head
      → AreWords (Listed head values) → child_at at head.word [] ≡ begun.Row row → next ≡ below at row step
      → StandsFor shape (row_of row).name_kind (row_of row).value_kind at.place.in_group (Listed head values) step words
      → IsRead (head ∷ sign kind.OpenBracket ∷ (values ++ sign kind.CloseBracket ∷ []))
  listed_read Many head values row step e opens are is next_is h =
      read_list head values row h.1.all e are.0 are.1 are.2 opens is h.1.canonical (next_is ∙ step_is at row step _ h.0) h.1.once
  listed_read Keyed head values row step e opens are is next_is h = absurd h
  listed_read Fixed head values row step e opens are is next_is h = absurd h
  listed_read Leaf head values row step e opens are is next_is h = absurd h
  listed_read Container head values row step e opens are is next_is h = absurd h
  listed_read Bare head values row step e opens are is next_is h = absurd h
  listed_read Flag head values row step e opens are is next_is h = absurd h

  -- a step is read as it is written
  pub read_part : (part : Part) → Opens here phase at marks (head_of part) → LeadsTo at part next words → IsRead (spell_part part)
  read_part (One word) opens leads = read_one word opens leads
  read_part (Two head word) opens leads =
      two_read (row_of leads.row).shape head word leads.row leads.step refl opens leads.are_words.0 leads.are_words.1 leads.begins leads.next_is leads.stands_for
  read_part (Listed head values) opens leads =
      listed_read (row_of leads.row).shape head values leads.row leads.step refl opens leads.are_words leads.begins leads.next_is leads.stands_for

-- the first of some steps, and the others
pub record Leading (at : Level) (marks : List Lexed) (part : Part) (more : List Part) (items : List (Pair Value)) (last : Level) : Type 0 where
  pub level : Level
  pub words : List (List ℕ)
  pub others : List (Pair Value)
  pub leads : LeadsTo at part level words
  pub opens : 0 < length more → is_open level ≡ true
  pub rest : LeadTo level [] more others last
  pub items_are : items ≡ said marks level words ∷ others

pub lead_parts : (at : Level) (marks : List Lexed) (part : Part) (more : List Part) (items : List (Pair Value)) (last : Level)
    → LeadTo at marks (part ∷ more) items last → Leading at marks part more items last
lead_parts at marks part [] items last h = record {
  level = last;
  words = h.0;
  others = [];
  leads = h.1;
  opens = λ some. absurd (omega (arith, some));
  rest = (refl, refl);
  items_are = h.2;
}
lead_parts at marks part (next ∷ more) items last h = record {
  level = h.0;
  words = h.1;
  others = h.2;
  leads = h.3;
  opens = λ some. h.4;
  rest = h.5;
  items_are = h.6;
}

-- further steps after a level
pub goes_steps : (more : List Part) (here : Level) (outer : List Level) (level last : Level) (items : List (Pair Value)) → (0 < length more → is_open level ≡ true)
    → LeadTo level [] more items last → Goes (state here outer (After level)) (flat_map spell_part more) (run_of (state here outer (After last)) items [])
goes_steps [] here outer level last items opens h =
    ap (λ (l : Level). run_of (state here outer (After l)) items []) h.1 ∙ ap (λ (xs : List (Pair Value)). run_of (state here outer (After level)) xs []) h.0
goes_steps (part ∷ more) here outer level last items opens h =
    let parts = lead_parts level [] part more items last h
    in let is_open_there : is_open level ≡ true = opens (omega arith)
    in subst
    (λ (xs : List (Pair Value)). Goes (state here outer (After level)) (flat_map spell_part (part ∷ more)) (run_of (state here outer (After last)) xs []))
    (sym parts.items_are)
    (goes_join (spell_part part) (flat_map spell_part more) (state here outer (After level))
    (turned (state here outer (After level)) (whole no_marks parts.level parts.words)) (run_of (state here outer (After last)) parts.others [])
    (read_part here outer level no_marks (After level) parts.level parts.words part (λ turn b. subst (λ (x : Bool). TakesAfter x level (head_of part).word turn) (sym is_open_there) b) parts.leads)
    (goes_steps more here outer parts.level last parts.others parts.opens parts.rest))

module _ (here : Level) (outer : List Level) (first : Part) (more : List Part) (items : List (Pair Value)) (last : Level) where
  -- the steps of a statement after its marks
  goes_first : (phase : Phase) (marks : List Lexed) → Opens here phase here (with_marks no_marks marks) (head_of first) → LeadTo here marks (first ∷ more) items last
      → Goes (state here outer phase) (flat_map spell_part (first ∷ more)) (run_of (state here outer (After last)) items (tagged marks items))
  goes_first phase marks opens h =
      let parts = lead_parts here marks first more items last h
      in let m : Marks = with_marks no_marks marks
      in let s : ReadState = state here outer (After last)
      in let told : run_of s (item_of m parts.level parts.words ∷ parts.others) (tag_of m parts.level ++ []) ≡ run_of s (said marks parts.level parts.words ∷ parts.others) (tagged marks (said marks parts.level parts.words ∷ parts.others)) =
      ap (λ (i : Pair Value). run_of s (i ∷ parts.others) (tag_of m parts.level ++ [])) (item_said marks parts.level parts.words)
      ∙ ap (λ (ts : List (List Step)). run_of s (said marks parts.level parts.words ∷ parts.others) ts) (append-nil _ ∙ tag_said marks parts.level parts.words parts.others)
      in subst (λ (xs : List (Pair Value)). Goes (state here outer phase) (flat_map spell_part (first ∷ more)) (run_of s xs (tagged marks xs))) (sym parts.items_are)
      (subst (λ (r : Run). Goes (state here outer phase) (flat_map spell_part (first ∷ more)) r) told
      (goes_join (spell_part first) (flat_map spell_part more) (state here outer phase) (turned (state here outer phase) (whole m parts.level parts.words)) (run_of s parts.others [])
      (read_part here outer here m phase parts.level parts.words first opens parts.leads)
      (goes_steps more here outer parts.level last parts.others parts.opens parts.rest)))

pub mark_taken : (phase : Phase) (here : Level) (outer : List Level) (marks : Marks) (token : Lexed) → HasRows here → is_mark token ≡ true
    → (TakesFirst (is_mark token) here marks token (quiet (Marked (with_mark marks token))) → TakesWord phase here token (quiet (Marked (with_mark marks token))))
    → Takes (state here outer phase) token (silent (state here outer (Marked (with_mark marks token))))
mark_taken phase here outer marks token rows h taken =
    takes_word (state here outer phase) token (quiet (Marked (with_mark marks token))) (mark_is_word token h)
    (taken (subst (λ (b : Bool). TakesFirst b here marks token (quiet (Marked (with_mark marks token)))) (sym h) (rows, refl)))

-- marks after marks
pub goes_marks : (tokens : List Lexed) (here : Level) (outer : List Level) (marks : Marks) → HasRows here → AllByRecursion (λ token. is_mark token ≡ true) tokens
    → Goes (state here outer (Marked marks)) tokens (silent (state here outer (Marked (with_marks marks tokens))))
goes_marks [] here outer marks rows are = refl
goes_marks (token ∷ tokens) here outer marks rows are =
    goes_more (state here outer (Marked marks)) token tokens (silent (state here outer (Marked (with_mark marks token)))) _
    (mark_taken (Marked marks) here outer marks token rows are.0 (λ t. t))
    (goes_marks tokens here outer (with_mark marks token) rows are.1)

first_opens : (here : Level) (marks : Marks) (token : Lexed) → is_mark token ≡ false → (turn : Turn) → BeginsStep (child_at here token.word []) here marks token.word turn
    → TakesFirst (is_mark token) here marks token turn
first_opens here marks token none turn b = subst (λ (x : Bool). TakesFirst x here marks token turn) (sym none) b

-- a statement up to its end
pub goes_statement : (marks : List Lexed) (here : Level) (outer : List Level) (first : Part) (more : List Part) (items : List (Pair Value)) (last : Level)
    → Says here marks first more items last
    → Goes (state here outer Between) (marks ++ flat_map spell_part (first ∷ more)) (run_of (state here outer (After last)) items (tagged marks items))
goes_statement [] here outer first more items last says =
    goes_first here outer first more items last Between [] (λ turn b. first_opens here no_marks (head_of first) says.no_mark turn b) says.steps
goes_statement (mark ∷ marks) here outer first more items last says =
    let parts = lead_parts here (mark ∷ marks) first more items last says.steps
    in let rows : HasRows here = rows_there here parts.leads.row (row_stands here.place.row here.place.in_group (head_of first).word (next_of first) parts.leads.row parts.leads.begins)
    in let m : Marks = with_marks no_marks (mark ∷ marks)
    in goes_join (mark ∷ marks) (flat_map spell_part (first ∷ more)) (state here outer Between) (silent (state here outer (Marked m))) _
    (goes_more (state here outer Between) mark marks (silent (state here outer (Marked (with_mark no_marks mark)))) (silent (state here outer (Marked m)))
    (mark_taken Between here outer no_marks mark rows says.are_marks.0 (λ t. t))
    (goes_marks marks here outer (with_mark no_marks mark) rows says.are_marks.1))
    (goes_first here outer first more items last (Marked m) (mark ∷ marks) (λ turn b. first_opens here m (head_of first) says.no_mark turn b) says.steps)

-- what is said of a text is read of its tokens
pub goes_text : (text : Text) (here : Level) (outer : List Level) (items : List (Pair Value)) (tags : List (List Step)) → Tells text here items tags
    → Goes (state here outer Between) (spell text) (run_of (state here outer Between) items tags)
goes_text End here outer items tags h =
    ap (λ (xs : List (Pair Value)). run_of (state here outer Between) xs tags) h.0 ∙ ap (λ (ts : List (List Step)). run_of (state here outer Between) [] ts) h.1
goes_text (Short marks first more rest) here outer items tags h =
    let own = h.0
    in let last = h.1
    in let s : ReadState = state here outer Between
    in subst (λ (xs : List (Pair Value)). Goes s (spell (Short marks first more rest)) (run_of s xs tags)) (sym h.6)
    (subst (λ (ts : List (List Step)). Goes s (spell (Short marks first more rest)) (run_of s (own ++ h.2) ts)) (sym h.7)
    (subst (λ (tokens : List Lexed). Goes s tokens (run_of s (own ++ h.2) (tagged marks own ++ h.3)))
    (append_assoc marks (flat_map spell_part (first ∷ more)) (sign kind.Semicolon ∷ spell rest))
    (goes_join (marks ++ flat_map spell_part (first ∷ more)) (sign kind.Semicolon ∷ spell rest) s (run_of (state here outer (After last)) own (tagged marks own)) (run_of s h.2 h.3)
    (goes_statement marks here outer first more own last h.4)
    (goes_more (state here outer (After last)) (sign kind.Semicolon) (spell rest) (silent s) (run_of s h.2 h.3) refl (goes_text rest here outer h.2 h.3 h.5)))))
goes_text (Block marks first more body rest) here outer items tags h =
    let own = h.0
    in let last = h.1
    in let s : ReadState = state here outer Between
    in let inside : ReadState = state last (here ∷ outer) Between
    in subst (λ (xs : List (Pair Value)). Goes s (spell (Block marks first more body rest)) (run_of s xs tags)) (sym h.10)
    (subst (λ (ts : List (List Step)). Goes s (spell (Block marks first more body rest)) (run_of s (own ++ (h.2 ++ h.4)) ts)) (sym h.11)
    (subst (λ (tokens : List Lexed). Goes s tokens (run_of s (own ++ (h.2 ++ h.4)) (tagged marks own ++ (h.3 ++ h.5))))
    (append_assoc marks (flat_map spell_part (first ∷ more)) (sign kind.OpenBrace ∷ (spell body ++ sign kind.CloseBrace ∷ spell rest)))
    (goes_join (marks ++ flat_map spell_part (first ∷ more)) (sign kind.OpenBrace ∷ (spell body ++ sign kind.CloseBrace ∷ spell rest)) s (run_of (state here outer (After last)) own (tagged marks own))
    (run_of s (h.2 ++ h.4) (h.3 ++ h.5))
    (goes_statement marks here outer first more own last h.6)
    (goes_more (state here outer (After last)) (sign kind.OpenBrace) (spell body ++ sign kind.CloseBrace ∷ spell rest) (silent inside) (run_of s (h.2 ++ h.4) (h.3 ++ h.5)) (h.7, refl)
    (goes_join (spell body) (sign kind.CloseBrace ∷ spell rest) inside (run_of inside h.2 h.3) (run_of s h.4 h.5)
    (goes_text body last (here ∷ outer) h.2 h.3 h.8)
    (goes_more inside (sign kind.CloseBrace) (spell rest) (silent s) (run_of s h.4 h.5) refl (goes_text rest here outer h.4 h.5 h.9)))))))

-- what the grammar derives is read from the start, and ends there
pub derived_goes : (tokens : List Lexed) (items : List (Pair Value)) (tags : List (List Step)) → Derives tokens items tags → Goes start tokens (run_of start items tags)
derived_goes tokens items tags h =
    subst (λ (ts : List Lexed). Goes start ts (run_of start items tags)) (sym h.spelled) (goes_text h.text top_level [] items tags h.tells)
