-- A word is unknown exactly where it begins a step, and no row of its level takes it.
use Rattle.std.proofs.Common.{◌≡◌, ℕ, ◌<◌, ◌≤◌, ◌⊎◌, Bool, true, false, List, [], ◌∷◌, ◌++◌, length, map, take, refl, sym, ap, subst, ◌∙◌, inl, inr, Some, None, Option, append-nil, append_assoc, arith}
use Rattle.std.specs.Prelude.{slice_get}
use Rattle.std.specs.List.{flat_map, AllByRecursion}
use Rattle.std.proofs.lemmas.Bool.{cases_lt}
use Rattle.std.proofs.lemmas.List.{length-map}
use Rattle.std.proofs.lemmas.Option.{slice_get_past}
use Rattle.cfg_base.specs.declared.kind.Kind.{Kind}
use Rattle.cfg_base.specs.declared.kind.Shape.{Shape}
use Rattle.cfg_base.specs.declared.kind.Shape.TheVariants.{Container, Fixed, Keyed, Bare, Leaf, Flag, Many}
use Rattle.cfg_base.specs.declared.path.Step.{Step}
use Rattle.cfg_base.specs.declared.value.Value.{Value}
use Rattle.cfg_base.specs.Words.{joined}
use Rattle.cfg_entries.specs.EntryMap.{Pair}
use Rattle.cfg_lex.specs.declared.token.TokenKind.{TokenKind}
use Rattle.cfg_lex.specs.declared.token.TokenKind.TheVariants as kind
use Rattle.cfg_lex.specs.Lexed.{Lexed, lexed_in, is_word_kind}
use Rattle.cfg_schema.specs.declared.answer.Child.{Child}
use Rattle.cfg_schema.specs.declared.answer.Child.TheVariants as begun
use Rattle.cfg_schema.specs.Profile.{row_of}
use Rattle.cfg_schema.specs.Child as schema
use Rattle.cfg_schema.proofs.ChildLemmas.{child_begins}
use Rattle.cfg_values.specs.Spelling.{IsCanonicalOf}
use Rattle.cfg_tree.specs.Gather.{is_many}
use Rattle.cfg_tree.specs.Typed.{AllSpelled}
use Rattle.cfg_tree.specs.Stated.{different}
use Rattle.cfg_tree.specs.declared.limit.TheConstants.{MAX_STATEMENTS}
use Rattle.cfg_tree.specs.Tree.{step_of}
use Rattle.curly_grammar.specs.declared.phase.Marks.{Marks}
use Rattle.curly_grammar.specs.declared.phase.Phase.{Phase}
use Rattle.curly_grammar.specs.declared.phase.Phase.TheVariants.{Between, Marked, Naming, Valuing, Listing, After}
use Rattle.curly_grammar.specs.declared.fault.TextFault.TheVariants as fault
use Rattle.curly_grammar.specs.declared.fault.Why.TheVariants.{Unexpected, Unknown}
use Rattle.curly_grammar.specs.Grammar.{Level, Part, One, Two, Listed, Text, End, Short, Block, IsWord, IsValue, LeadTo, LeadsTo, StandsFor, Tells, head_of, is_mark, is_open, said, sign, spell, spell_part, tagged, top_level, word_of}
use Rattle.curly_grammar.specs.Reading.{BeginsAs, BeginsStep, Goes, HasRows, IsValued, Leaves, NamesAs, NamesStep, Run, ReadState, Takes, TakesAfter, TakesBy, TakesCloseBrace, TakesCloseBracket, TakesFirst, TakesOpenBrace, TakesOpenBracket, TakesSemicolon, TakesWord, TakesWordTo, Turn, and_then, below, child_at, no_marks, quiet, silent, start, state, value_kind_of, whole, with_mark}
use Rattle.curly_grammar.specs.Fault.{IsLeftmostFault, paths_met, why_by, why_no_more, why_no_statement, why_no_step, why_no_word, why_not}
use Rattle.curly_grammar.specs.Unknown.{AreStatements, BeginsStepAt, Enters, InText, IsStatement, IsUnknownAt}
use Rattle.curly_grammar.proofs.RunLemmas.{goes_join, goes_one, run_of}
use Rattle.curly_grammar.proofs.HeadLemmas.{row_alone}
use Rattle.curly_grammar.proofs.GoesLemmas.{goes_marks, goes_statement, goes_text, mark_taken, other_shape, with_marks}
use Rattle.curly_grammar.proofs.LeftLemmas.{IsLexed, shape_many, sign_is, some_spelled}
use Rattle.curly_grammar.proofs.EndLemmas.{are_lexed, all_front, end_of_beginning}

-- one text after another
abbrev append_text : Text → Text → Text
append_text End other = other
append_text (Short marks first more rest) other = Short marks first more (append_text rest other)
append_text (Block marks first more body rest) other = Block marks first more body (append_text rest other)

spell-append : (text other : Text) → spell (append_text text other) ≡ spell text ++ spell other
spell-append End other = refl
spell-append (Short marks first more rest) other =
    ap (λ (ts : List Lexed). marks ++ (flat_map spell_part (first ∷ more) ++ sign kind.Semicolon ∷ ts)) (spell-append rest other) ∙ simp append_assoc
spell-append (Block marks first more body rest) other =
    ap (λ (ts : List Lexed). marks ++ (flat_map spell_part (first ∷ more) ++ sign kind.OpenBrace ∷ (spell body ++ sign kind.CloseBrace ∷ ts))) (spell-append rest other) ∙ simp append_assoc

tells_append : (text other : Text) (here : Level) (items others : List (Pair Value)) (tags other_tags : List (List Step))
    → Tells text here items tags → Tells other here others other_tags → Tells (append_text text other) here (items ++ others) (tags ++ other_tags)
tells_append End other here items others tags other_tags h g =
    subst (λ (xs : List (Pair Value)). Tells other here (xs ++ others) (tags ++ other_tags)) (sym h.0)
    (subst (λ (ts : List (List Step)). Tells other here others (ts ++ other_tags)) (sym h.1) g)
tells_append (Short marks first more rest) other here items others tags other_tags h g = (
  h.0,
  h.1,
  h.2 ++ others,
  h.3 ++ other_tags,
  h.4,
  tells_append rest other here h.2 others h.3 other_tags h.5 g,
  ap (λ (xs : List (Pair Value)). xs ++ others) h.6 ∙ append_assoc h.0 h.2 others,
  ap (λ (ts : List (List Step)). ts ++ other_tags) h.7 ∙ append_assoc (tagged marks h.0) h.3 other_tags,
)
tells_append (Block marks first more body rest) other here items others tags other_tags h g = (
  h.0,
  h.1,
  h.2,
  h.3,
  h.4 ++ others,
  h.5 ++ other_tags,
  h.6,
  h.7,
  h.8,
  tells_append rest other here h.4 others h.5 other_tags h.9 g,
  ap (λ (xs : List (Pair Value)). xs ++ others) h.10 ∙ simp append_assoc,
  ap (λ (ts : List (List Step)). ts ++ other_tags) h.11 ∙ simp append_assoc,
)

-- statements after statements
append_statements : (here : Level) (xs ys : List Lexed) → AreStatements here xs → AreStatements here ys → AreStatements here (xs ++ ys)
append_statements here xs ys a b = record {
  text = append_text a.text b.text;
  items = a.items ++ b.items;
  tags = a.tags ++ b.tags;
  tells = tells_append a.text b.text here a.items b.items a.tags b.tags a.tells b.tells;
  spelled = ap (λ (ts : List Lexed). ts ++ ys) a.spelled ∙ ap (λ (ts : List Lexed). spell a.text ++ ts) b.spelled ∙ sym (spell-append a.text b.text);
}

no_statements : (here : Level) → AreStatements here []
no_statements here = record { text = End; items = []; tags = []; tells = (refl, refl); spelled = refl }

-- a statement with its end
short_statement : (here last : Level) (own : List Lexed) → IsStatement here own last → AreStatements here (own ++ sign kind.Semicolon ∷ [])
short_statement here last own s = record {
  text = Short s.marks s.first s.more End;
  items = s.own ++ [];
  tags = tagged s.marks s.own ++ [];
  tells = (s.own, last, [], [], s.says, (refl, refl), refl, refl);
  spelled = ap (λ (ts : List Lexed). ts ++ sign kind.Semicolon ∷ []) s.spelled ∙ append_assoc s.marks (flat_map spell_part (s.first ∷ s.more)) (sign kind.Semicolon ∷ []);
}

block_statement : (here last : Level) (own inner : List Lexed) → IsStatement here own last → is_open last ≡ true → AreStatements last inner
    → AreStatements here (own ++ sign kind.OpenBrace ∷ (inner ++ sign kind.CloseBrace ∷ []))
block_statement here last own inner s opens body = record {
  text = Block s.marks s.first s.more body.text End;
  items = s.own ++ (body.items ++ []);
  tags = tagged s.marks s.own ++ (body.tags ++ []);
  tells = (s.own, last, body.items, body.tags, [], [], s.says, opens, body.tells, (refl, refl), refl, refl);
  spelled =
      ap (λ (ts : List Lexed). ts ++ sign kind.OpenBrace ∷ (inner ++ sign kind.CloseBrace ∷ [])) s.spelled
      ∙ append_assoc s.marks (flat_map spell_part (s.first ∷ s.more)) (sign kind.OpenBrace ∷ (inner ++ sign kind.CloseBrace ∷ []))
      ∙ ap (λ (ts : List Lexed). s.marks ++ (flat_map spell_part (s.first ∷ s.more) ++ sign kind.OpenBrace ∷ (ts ++ sign kind.CloseBrace ∷ []))) body.spelled;
}

-- a further step
lead_more : (more : List Part) (first : Part) (here : Level) (marks : List Lexed) (own : List (Pair Value)) (last : Level) (part : Part) (level : Level) (words : List (List ℕ))
    → LeadTo here marks (first ∷ more) own last → is_open last ≡ true → LeadsTo last part level words
    → (others : List (Pair Value)) × LeadTo here marks (first ∷ (more ++ part ∷ [])) others level
lead_more [] first here marks own last part level words h opens leads =
    (said marks last h.0 ∷ (said [] level words ∷ []), (last, h.0, said [] level words ∷ [], h.1, opens, (words, leads, refl), refl))
lead_more (next ∷ more) first here marks own last part level words h opens leads =
    let deeper = lead_more more next h.0 [] h.2 last part level words h.5 opens leads
    in (said marks h.0 h.1 ∷ deeper.0, (h.0, h.1, deeper.0, h.3, h.4, deeper.1, refl))

spell-more : (parts : List Part) (part : Part) → flat_map spell_part (parts ++ part ∷ []) ≡ flat_map spell_part parts ++ spell_part part
spell-more [] part = append-nil (spell_part part)
spell-more (p ∷ parts) part =
    ap (λ (ts : List Lexed). spell_part p ++ ts) (spell-more parts part) ∙ sym (append_assoc (spell_part p) (flat_map spell_part parts) (spell_part part))

-- more tokens of the statement that has begun
add_own : (outer : List Level) (here : Level) (tokens own more : List Lexed) → InText outer here tokens own → InText outer here (tokens ++ more) (own ++ more)
add_own outer here tokens own more h = record {
  around = h.around;
  before = h.before;
  enters = h.enters;
  whole = h.whole;
  joined = ap (λ (ts : List Lexed). ts ++ more) h.joined ∙ simp append_assoc;
}

-- the statement that has begun is whole
settled : (outer : List Level) (here : Level) (tokens own : List Lexed) → InText outer here tokens own → AreStatements here own → InText outer here tokens []
settled outer here tokens own h are = record {
  around = h.around;
  before = h.before ++ own;
  enters = h.enters;
  whole = append_statements here h.before own h.whole are;
  joined = h.joined ∙ ap (λ (ts : List Lexed). h.around ++ ts) (sym (append-nil (h.before ++ own)));
}

entered_text : (outer : List Level) (here : Level) (tokens : List Lexed) → Enters outer here tokens → InText outer here tokens []
entered_text outer here tokens h = record { around = tokens; before = []; enters = h; whole = no_statements here; joined = sym (append-nil tokens) }

-- the steps of a statement up to a level
record Led (outer : List Level) (here : Level) (tokens : List Lexed) (level : Level) : Type 0 where
  own : List Lexed
  in_text : InText outer here tokens own
  statement : IsStatement here own level

-- a statement whose head stands after a step's beginning, and which needs its name
record NamingAt (outer : List Level) (here at : Level) (head : List ℕ) (tokens : List Lexed) : Type 0 where
  before : List Lexed
  first : Lexed
  is_word : IsWord first
  head_is : first.word ≡ head
  begins : BeginsStepAt outer here before first at
  joined_are : tokens ≡ before ++ first ∷ []

-- a head that needs its values
record ValuingAt (outer : List Level) (here level : Level) (tokens : List Lexed) : Type 0 where
  before : List Lexed
  first : Lexed
  at : Level
  row : ℕ
  is_word : IsWord first
  begun_is : child_at at first.word [] ≡ begun.Row row
  shape : ((row_of row).shape ≡ Leaf) ⊎ ((row_of row).shape ≡ Many)
  begins : BeginsStepAt outer here before first at
  level_is : level ≡ below at row (step_of first.word [])
  joined_are : tokens ≡ before ++ first ∷ []

record ListingAt (outer : List Level) (here level : Level) (words : List (List ℕ)) (tokens : List Lexed) : Type 0 where
  head : List Lexed
  values : List Lexed
  valuing : ValuingAt outer here level head
  many : (row_of valuing.row).shape ≡ Many
  are_words : AllByRecursion IsWord values
  canonical : AllSpelled (value_kind_of level) (map word_of values) words
  joined_are : tokens ≡ head ++ sign kind.OpenBracket ∷ values

-- how a text stands where a reader is in this phase
abbrev Reached : Phase → Level → List Level → List Lexed → Type 0
Reached Between here outer tokens = InText outer here tokens []
Reached (Marked marks) here outer tokens =
    (own : List Lexed) × InText outer here tokens own × AllByRecursion (λ token. is_mark token ≡ true) own × HasRows here
Reached (Naming marks at head) here outer tokens = NamingAt outer here at head tokens
Reached (Valuing marks level) here outer tokens = ValuingAt outer here level tokens
Reached (Listing marks level words) here outer tokens = ListingAt outer here level words tokens
Reached (After level) here outer tokens = Led outer here tokens level

all_marks : (xs ys : List Lexed) → AllByRecursion (λ token. is_mark token ≡ true) xs → AllByRecursion (λ token. is_mark token ≡ true) ys → AllByRecursion (λ token. is_mark token ≡ true) (xs ++ ys)
all_marks [] ys h g = g
all_marks (x ∷ xs) ys h g = (h.0, all_marks xs ys h.1 g)

all_words : (xs ys : List Lexed) → AllByRecursion IsWord xs → AllByRecursion IsWord ys → AllByRecursion IsWord (xs ++ ys)
all_words [] ys h g = g
all_words (x ∷ xs) ys h g = (h.0, all_words xs ys h.1 g)

spelled_more : (k : Kind) (values : List Lexed) (words : List (List ℕ)) (value : Lexed) (word : List ℕ) → AllSpelled k (map word_of values) words → IsCanonicalOf k value.word word
    → AllSpelled k (map word_of (values ++ value ∷ [])) (words ++ word ∷ [])
spelled_more k [] [] value word h g = (g, tt)
spelled_more k [] (w ∷ words) value word h g = absurd h
spelled_more k (v ∷ values) [] value word h g = absurd h
spelled_more k (v ∷ values) (w ∷ words) value word h g = (h.0, spelled_more k values words value word h.1 g)

module _ (outer : List Level) (here : Level) where
  -- a step is whole
  step_led : (before : List Lexed) (at level : Level) (part : Part) (words : List (List ℕ)) → BeginsStepAt outer here before (head_of part) at → LeadsTo at part level words
      → Led outer here (before ++ spell_part part) level
  step_led before at level part words (inl b) leads = record {
    own = b.1.marks ++ spell_part part;
    in_text = add_own outer here before b.1.marks (spell_part part) b.1.in_text;
    statement = record {
      marks = b.1.marks;
      first = part;
      more = [];
      own = said b.1.marks level words ∷ [];
      says = record { are_marks = b.1.are_marks; no_mark = b.1.no_mark; steps = (words, subst (λ (l : Level). LeadsTo l part level words) b.0 leads, refl) };
      spelled = ap (λ (ts : List Lexed). b.1.marks ++ ts) (sym (append-nil (spell_part part)));
    };
  }
  step_led before at level part words (inr g) leads =
      let s = g.statement
      in let steps = lead_more s.more s.first here s.marks s.own at part level words s.says.steps g.opens leads
      in record {
        own = g.own ++ spell_part part;
        in_text = add_own outer here before g.own (spell_part part) g.in_text;
        statement = record {
          marks = s.marks;
          first = s.first;
          more = s.more ++ part ∷ [];
          own = steps.0;
          says = record { are_marks = s.says.are_marks; no_mark = s.says.no_mark; steps = steps.1 };
          spelled =
              ap (λ (ts : List Lexed). ts ++ spell_part part) s.spelled
              ∙ append_assoc s.marks (flat_map spell_part (s.first ∷ s.more)) (spell_part part)
              ∙ ap (λ (ts : List Lexed). s.marks ++ ts) (sym (spell-more (s.first ∷ s.more) part));
        };
      }

  -- the same, after tokens that are these
  step_led_by : (tokens before : List Lexed) (at level : Level) (part : Part) (words : List (List ℕ)) → tokens ≡ before ++ spell_part part
      → BeginsStepAt outer here before (head_of part) at → LeadsTo at part level words → Led outer here tokens level
  step_led_by tokens before at level part words e begins leads = subst (λ (ts : List Lexed). Led outer here ts level) (sym e) (step_led before at level part words begins leads)

  module _ (before : List Lexed) (at : Level) (head : Lexed) (is_word : IsWord head) (begins : BeginsStepAt outer here before head at) where
    abbrev Comes : Turn → Type 0
    Comes turn = Reached turn.phase here outer (before ++ head ∷ [])

    one_comes : (marks : Marks) (row : ℕ) (step : Step) (turn : Turn) → child_at at head.word [] ≡ begun.Row row
        → StandsFor (row_of row).shape (row_of row).name_kind (row_of row).value_kind at.place.in_group (One head) step []
        → turn ≡ whole marks (below at row step) [] → Comes turn
    one_comes marks row step turn is stands e =
        subst Comes (sym e)
        (step_led before at (below at row step) (One head) [] begins record { row = row; step = step; are_words = is_word; begins = is; stands_for = stands; next_is = refl })

    naming_comes : (marks : Marks) (turn : Turn) → turn ≡ quiet (Naming marks at head.word) → Comes turn
    naming_comes marks turn e =
        subst Comes (sym e) record { before = before; first = head; is_word = is_word; head_is = refl; begins = begins; joined_are = refl }

    valuing_comes : (marks : Marks) (row : ℕ) (turn : Turn) → child_at at head.word [] ≡ begun.Row row → ((row_of row).shape ≡ Leaf) ⊎ ((row_of row).shape ≡ Many)
        → turn ≡ quiet (Valuing marks (below at row (step_of head.word []))) → Comes turn
    valuing_comes marks row turn is shape e =
        subst Comes (sym e) record { before = before; first = head; at = at; row = row; is_word = is_word; begun_is = is; shape = shape; begins = begins; level_is = refl; joined_are = refl }

    as_comes : (shape : Shape) (marks : Marks) (row : ℕ) (turn : Turn) → (row_of row).shape ≡ shape → child_at at head.word [] ≡ begun.Row row
        → BeginsAs shape (row_of row).name_kind row at marks head.word turn → Comes turn
    as_comes Container marks row turn e is h =
        one_comes marks row (step_of head.word []) turn is
        (subst (λ (s : Shape). StandsFor s (row_of row).name_kind (row_of row).value_kind at.place.in_group (One head) (step_of head.word []) []) (sym e) (refl, refl)) h
    as_comes Flag marks row turn e is h =
        one_comes marks row (step_of head.word []) turn is
        (subst (λ (s : Shape). StandsFor s (row_of row).name_kind (row_of row).value_kind at.place.in_group (One head) (step_of head.word []) []) (sym e) (refl, refl)) h
    as_comes Bare marks row turn e is h =
        one_comes marks row (step_of [] h.name) turn is
        (subst (λ (s : Shape). StandsFor s (row_of row).name_kind (row_of row).value_kind at.place.in_group (One head) (step_of [] h.name) []) (sym e) (refl, h.is_name, refl)) h.makes
    as_comes Keyed marks row turn e is h = naming_comes marks turn h
    as_comes Fixed marks row turn e is h = naming_comes marks turn h
    as_comes Leaf marks row turn e is h = valuing_comes marks row turn is (inl e) h
    as_comes Many marks row turn e is h = valuing_comes marks row turn is (inr e) h

    -- a word that begins a step
    begin_comes : (marks : Marks) (turn : Turn) → BeginsStep (child_at at head.word []) at marks head.word turn → Comes turn
    begin_comes marks turn = by_child (child_at at head.word []) refl
      where
        by_child : (c : Child) → child_at at head.word [] ≡ c → BeginsStep c at marks head.word turn → Comes turn
        by_child begun.Unknown is h = absurd h
        by_child (begun.BadName row) is h = naming_comes marks turn h
        by_child (begun.Row row) is h = as_comes (row_of row).shape marks row turn refl is h

  -- one token more
  abbrev Next : List Lexed → Lexed → Turn → Type 0
  Next tokens token turn = Reached turn.phase here outer (tokens ++ token ∷ [])

  first_comes : (mark : Bool) (marks : Marks) (own tokens : List Lexed) (token : Lexed) (turn : Turn) → is_mark token ≡ mark → IsWord token → InText outer here tokens own
      → AllByRecursion (λ t. is_mark t ≡ true) own → (0 < length own → HasRows here) → TakesFirst mark here marks token turn → Next tokens token turn
  first_comes true marks own tokens token turn e is_word at are rows h =
      subst (Next tokens token) (sym h.1) (own ++ token ∷ [], add_own outer here tokens own (token ∷ []) at, all_marks own (token ∷ []) are (e, tt), h.0)
  first_comes false marks own tokens token turn e is_word at are rows h =
      begin_comes tokens here token is_word (inl (refl, record { marks = own; in_text = at; are_marks = are; some_rows = rows; no_mark = e })) marks turn h

  name_comes : (marks : Marks) (at : Level) (head : List ℕ) (tokens : List Lexed) (name : Lexed) (row : ℕ) (step : Step) (turn : Turn) → NamingAt outer here at head tokens → IsWord name
      → child_at at head name.word ≡ begun.Row row
      → ((first : Lexed) → first.word ≡ head → StandsFor (row_of row).shape (row_of row).name_kind (row_of row).value_kind at.place.in_group (Two first name) step [])
      → turn ≡ whole marks (below at row step) [] → Next tokens name turn
  name_comes marks at head tokens name row step turn n is_word is stands e =
      subst (Next tokens name) (sym e)
      (step_led_by (tokens ++ name ∷ []) n.before at (below at row step) (Two n.first name) []
      (ap (λ (ts : List Lexed). ts ++ name ∷ []) n.joined_are ∙ append_assoc n.before (n.first ∷ []) (name ∷ [])) n.begins
      record {
        row = row;
        step = step;
        are_words = (n.is_word, is_word);
        begins = ap (λ (bytes : List ℕ). child_at at bytes name.word) n.head_is ∙ is;
        stands_for = stands n.first n.head_is;
        next_is = refl;
      })

  names_as_come : (shape : Shape) (marks : Marks) (at : Level) (head : List ℕ) (tokens : List Lexed) (name : Lexed) (row : ℕ) (turn : Turn) → (row_of row).shape ≡ shape
      → NamingAt outer here at head tokens → IsWord name → child_at at head name.word ≡ begun.Row row → NamesAs shape (row_of row).name_kind row at marks head name.word turn → Next tokens name turn
  names_as_come Keyed marks at head tokens name row turn e n is_word is h =
      name_comes marks at head tokens name row (step_of head h.name) turn n is_word is
      (λ first first_is. subst (λ (s : Shape). StandsFor s (row_of row).name_kind (row_of row).value_kind at.place.in_group (Two first name) (step_of head h.name) []) (sym e) (sym first_is, h.is_name, refl))
      h.makes
  names_as_come Fixed marks at head tokens name row turn e n is_word is h =
      name_comes marks at head tokens name row (step_of head name.word) turn n is_word is
      (λ first first_is. subst (λ (s : Shape). StandsFor s (row_of row).name_kind (row_of row).value_kind at.place.in_group (Two first name) (step_of head name.word) []) (sym e)
      (ap (λ (bytes : List ℕ). step_of bytes name.word) (sym first_is), refl))
      h
  names_as_come Container marks at head tokens name row turn e n is_word is h = absurd h
  names_as_come Bare marks at head tokens name row turn e n is_word is h = absurd h
  names_as_come Leaf marks at head tokens name row turn e n is_word is h = absurd h
  names_as_come Flag marks at head tokens name row turn e n is_word is h = absurd h
  names_as_come Many marks at head tokens name row turn e n is_word is h = absurd h

  names_come : (marks : Marks) (at : Level) (head : List ℕ) (tokens : List Lexed) (name : Lexed) (turn : Turn) → NamingAt outer here at head tokens → IsWord name
      → NamesStep (child_at at head name.word) at marks head name.word turn → Next tokens name turn
  names_come marks at head tokens name turn n is_word = by_child (child_at at head name.word) refl
    where
      by_child : (c : Child) → child_at at head name.word ≡ c → NamesStep c at marks head name.word turn → Next tokens name turn
      by_child begun.Unknown is h = absurd h
      by_child (begun.BadName row) is h = absurd h
      by_child (begun.Row row) is h = names_as_come (row_of row).shape marks at head tokens name row turn refl n is_word is h

  -- a value after its head
  module _ (level : Level) (tokens : List Lexed) (v : ValuingAt outer here level tokens) where
    not_bare : ((row_of v.row).shape ≡ Leaf) ⊎ ((row_of v.row).shape ≡ Many) → (row_of v.row).shape ≡ Bare → ⊥
    not_bare (inl e) = other_shape (row_of v.row).shape Leaf Bare e (λ x. cc)
    not_bare (inr e) = other_shape (row_of v.row).shape Many Bare e (λ x. cc)

    not_fixed : ((row_of v.row).shape ≡ Leaf) ⊎ ((row_of v.row).shape ≡ Many) → (row_of v.row).shape ≡ Fixed → ⊥
    not_fixed (inl e) = other_shape (row_of v.row).shape Leaf Fixed e (λ x. cc)
    not_fixed (inr e) = other_shape (row_of v.row).shape Many Fixed e (λ x. cc)

    one_stands : (value : Lexed) (words : List (List ℕ)) → IsValue (row_of v.row).value_kind value.word words → ((row_of v.row).shape ≡ Leaf) ⊎ ((row_of v.row).shape ≡ Many)
        → StandsFor (row_of v.row).shape (row_of v.row).name_kind (row_of v.row).value_kind v.at.place.in_group (Two v.first value) (step_of v.first.word []) words
    one_stands value words means (inl e) =
        subst (λ (s : Shape). StandsFor s (row_of v.row).name_kind (row_of v.row).value_kind v.at.place.in_group (Two v.first value) (step_of v.first.word []) words) (sym e) (refl, means)
    one_stands value words means (inr e) =
        subst (λ (s : Shape). StandsFor s (row_of v.row).name_kind (row_of v.row).value_kind v.at.place.in_group (Two v.first value) (step_of v.first.word []) words) (sym e) (refl, means)

    value_comes : (marks : Marks) (value : Lexed) (turn : Turn) → IsWord value → IsValued level value.word (λ word. whole marks level (word ∷ [])) turn → Next tokens value turn
    value_comes marks value turn is_word h =
        let spelled : IsCanonicalOf (row_of v.row).value_kind value.word h.word = subst (λ (l : Level). IsCanonicalOf (value_kind_of l) value.word h.word) v.level_is h.spelled
        in subst (Next tokens value) (sym h.makes)
        (subst (λ (l : Level). Led outer here (tokens ++ value ∷ []) l) (sym v.level_is)
        (step_led_by (tokens ++ value ∷ []) v.before v.at (below v.at v.row (step_of v.first.word [])) (Two v.first value) (h.word ∷ [])
        (ap (λ (ts : List Lexed). ts ++ value ∷ []) v.joined_are ∙ append_assoc v.before (v.first ∷ []) (value ∷ [])) v.begins
        record {
          row = v.row;
          step = step_of v.first.word [];
          are_words = (v.is_word, is_word);
          begins = row_alone v.at.place.row v.at.place.in_group v.first.word [] v.row v.begun_is (not_bare v.shape) (not_fixed v.shape) value.word;
          stands_for = one_stands value (h.word ∷ []) record { word = h.word; canonical = spelled; alone = refl } v.shape;
          next_is = refl;
        }))

  listed_comes : (marks : Marks) (level : Level) (words : List (List ℕ)) (tokens : List Lexed) (value : Lexed) (turn : Turn) → ListingAt outer here level words tokens → IsWord value
      → IsValued level value.word (λ word. quiet (Listing marks level (words ++ word ∷ []))) turn → Next tokens value turn
  listed_comes marks level words tokens value turn l is_word h =
      subst (Next tokens value) (sym h.makes) record {
        head = l.head;
        values = l.values ++ value ∷ [];
        valuing = l.valuing;
        many = l.many;
        are_words = all_words l.values (value ∷ []) l.are_words (is_word, tt);
        canonical = spelled_more (value_kind_of level) l.values words value h.word l.canonical h.spelled;
        joined_are = ap (λ (ts : List Lexed). ts ++ value ∷ []) l.joined_are ∙ append_assoc l.head (sign kind.OpenBracket ∷ l.values) (value ∷ []);
      }

  further_comes : (opens : Bool) (level : Level) (tokens : List Lexed) (token : Lexed) (turn : Turn) → is_open level ≡ opens → Led outer here tokens level → IsWord token
      → TakesAfter opens level token.word turn → Next tokens token turn
  further_comes true level tokens token turn e led is_word h =
      begin_comes tokens level token is_word (inr record { own = led.own; in_text = led.in_text; statement = led.statement; opens = e }) no_marks turn h
  further_comes false level tokens token turn e led is_word h = absurd h

  word_comes : (phase : Phase) (tokens : List Lexed) (token : Lexed) (turn : Turn) → Reached phase here outer tokens → IsWord token → TakesWord phase here token turn → Next tokens token turn
  word_comes Between tokens token turn r is_word h = first_comes (is_mark token) no_marks [] tokens token turn refl is_word r tt (λ some. absurd (omega (arith, some))) h
  word_comes (Marked marks) tokens token turn r is_word h = first_comes (is_mark token) marks r.0 tokens token turn refl is_word r.1 r.2 (λ some. r.3) h
  word_comes (Naming marks at head) tokens token turn r is_word h = names_come marks at head tokens token turn r is_word h
  word_comes (Valuing marks level) tokens token turn r is_word h = value_comes level tokens r marks token turn is_word h
  word_comes (Listing marks level words) tokens token turn r is_word h = listed_comes marks level words tokens token turn r is_word h
  word_comes (After level) tokens token turn r is_word h = further_comes (is_open level) level tokens token turn refl r is_word h

-- how a text stands after a run
abbrev ReachedBy : Run → List Lexed → Type 0
ReachedBy run tokens = Reached run.state.phase run.state.here run.state.outer tokens

module _ (here : Level) (outer : List Level) (tokens : List Lexed) (run : Run) where
  semicolon_comes : (phase : Phase) → Reached phase here outer tokens → TakesSemicolon phase (state here outer phase) run → ReachedBy run (tokens ++ sign kind.Semicolon ∷ [])
  semicolon_comes (After level) r h =
      subst (λ (x : Run). ReachedBy x (tokens ++ sign kind.Semicolon ∷ [])) (sym h)
      (settled outer here (tokens ++ sign kind.Semicolon ∷ []) (r.own ++ sign kind.Semicolon ∷ []) (add_own outer here tokens r.own (sign kind.Semicolon ∷ []) r.in_text)
      (short_statement here level r.own r.statement))
  semicolon_comes Between r h = absurd h
  semicolon_comes (Marked marks) r h = absurd h
  semicolon_comes (Naming marks at head) r h = absurd h
  semicolon_comes (Valuing marks level) r h = absurd h
  semicolon_comes (Listing marks level words) r h = absurd h

  open_comes : (phase : Phase) → Reached phase here outer tokens → TakesOpenBrace phase (state here outer phase) run → ReachedBy run (tokens ++ sign kind.OpenBrace ∷ [])
  open_comes (After level) r h =
      subst (λ (x : Run). ReachedBy x (tokens ++ sign kind.OpenBrace ∷ [])) (sym h.1)
      (entered_text (here ∷ outer) level (tokens ++ sign kind.OpenBrace ∷ []) (
        r.in_text.around,
        r.in_text.before,
        r.own,
        r.in_text.enters,
        r.in_text.whole,
        r.statement,
        h.0,
        ap (λ (ts : List Lexed). ts ++ sign kind.OpenBrace ∷ []) r.in_text.joined ∙ simp append_assoc,
      ))
  open_comes Between r h = absurd h
  open_comes (Marked marks) r h = absurd h
  open_comes (Naming marks at head) r h = absurd h
  open_comes (Valuing marks level) r h = absurd h
  open_comes (Listing marks level words) r h = absurd h

  list_comes : (phase : Phase) → Reached phase here outer tokens → TakesOpenBracket phase (state here outer phase) run → ReachedBy run (tokens ++ sign kind.OpenBracket ∷ [])
  list_comes (Valuing marks level) r h =
      subst (λ (x : Run). ReachedBy x (tokens ++ sign kind.OpenBracket ∷ [])) (sym h.1) record {
        head = tokens;
        values = [];
        valuing = r;
        many = shape_many (row_of r.row).shape (subst (λ (l : Level). is_many (row_of l.place.row).shape ≡ true) r.level_is h.0);
        are_words = tt;
        canonical = tt;
        joined_are = refl;
      }
  list_comes Between r h = absurd h
  list_comes (Marked marks) r h = absurd h
  list_comes (Naming marks at head) r h = absurd h
  list_comes (Listing marks level words) r h = absurd h
  list_comes (After level) r h = absurd h

  end_list_comes : (phase : Phase) → Reached phase here outer tokens → TakesCloseBracket phase (state here outer phase) run → ReachedBy run (tokens ++ sign kind.CloseBracket ∷ [])
  end_list_comes (Listing marks level words) r h =
      let v = r.valuing
      in let canonical : AllSpelled (row_of v.row).value_kind (map word_of r.values) words = subst (λ (l : Level). AllSpelled (value_kind_of l) (map word_of r.values) words) v.level_is r.canonical
      in subst (λ (x : Run). ReachedBy x (tokens ++ sign kind.CloseBracket ∷ [])) (sym h.1)
      (subst (λ (l : Level). Led outer here (tokens ++ sign kind.CloseBracket ∷ []) l) (sym v.level_is)
      (step_led_by outer here (tokens ++ sign kind.CloseBracket ∷ []) v.before v.at (below v.at v.row (step_of v.first.word [])) (Listed v.first r.values) (joined [] words)
      (ap (λ (ts : List Lexed). ts ++ sign kind.CloseBracket ∷ []) (r.joined_are ∙ ap (λ (ts : List Lexed). ts ++ sign kind.OpenBracket ∷ r.values) v.joined_are) ∙ simp append_assoc) v.begins
      record {
        row = v.row;
        step = step_of v.first.word [];
        are_words = (v.is_word, some_spelled (row_of v.row).value_kind r.values words canonical h.0, r.are_words);
        begins = v.begun_is;
        stands_for =
            subst (λ (s : Shape). StandsFor s (row_of v.row).name_kind (row_of v.row).value_kind v.at.place.in_group (Listed v.first r.values) (step_of v.first.word []) (joined [] words)) (sym r.many)
            (refl, record { all = words; canonical = canonical; once = refl });
        next_is = refl;
      }))
  end_list_comes Between r h = absurd h
  end_list_comes (Marked marks) r h = absurd h
  end_list_comes (Naming marks at head) r h = absurd h
  end_list_comes (Valuing marks level) r h = absurd h
  end_list_comes (After level) r h = absurd h

leave_comes : (outer : List Level) (here : Level) (tokens : List Lexed) (run : Run) → InText outer here tokens [] → Leaves outer run → ReachedBy run (tokens ++ sign kind.CloseBrace ∷ [])
leave_comes [] here tokens run r h = absurd h
leave_comes (up ∷ outer) here tokens run r h =
    let e = r.enters
    in let block : AreStatements up (e.2 ++ sign kind.OpenBrace ∷ (r.before ++ sign kind.CloseBrace ∷ [])) = block_statement up here e.2 r.before e.5 e.6 r.whole
    in subst (λ (x : Run). ReachedBy x (tokens ++ sign kind.CloseBrace ∷ [])) (sym h) record {
      around = e.0;
      before = e.1 ++ (e.2 ++ sign kind.OpenBrace ∷ (r.before ++ sign kind.CloseBrace ∷ []));
      enters = e.3;
      whole = append_statements up e.1 (e.2 ++ sign kind.OpenBrace ∷ (r.before ++ sign kind.CloseBrace ∷ [])) e.4 block;
      joined =
          ap (λ (ts : List Lexed). ts ++ sign kind.CloseBrace ∷ []) (r.joined ∙ ap (λ (ts : List Lexed). ts ++ (r.before ++ [])) e.7)
          ∙ simp append_assoc;
    }

close_comes : (phase : Phase) (here : Level) (outer : List Level) (tokens : List Lexed) (run : Run) → Reached phase here outer tokens → TakesCloseBrace phase (state here outer phase) run
    → ReachedBy run (tokens ++ sign kind.CloseBrace ∷ [])
close_comes Between here outer tokens run r h = leave_comes outer here tokens run r h
close_comes (Marked marks) here outer tokens run r h = absurd h
close_comes (Naming marks at head) here outer tokens run r h = absurd h
close_comes (Valuing marks level) here outer tokens run r h = absurd h
close_comes (Listing marks level words) here outer tokens run r h = absurd h
close_comes (After level) here outer tokens run r h = absurd h

module _ (s : ReadState) (token : Lexed) (run : Run) (tokens : List Lexed) (lexed : IsLexed token) (r : Reached s.phase s.here s.outer tokens) where
  by_sign : (k : TokenKind) → token.kind ≡ k → is_word_kind k ≡ false → ReachedBy run (tokens ++ sign k ∷ []) → ReachedBy run (tokens ++ token ∷ [])
  by_sign k e no_word h = subst (λ (t : Lexed). ReachedBy run (tokens ++ t ∷ [])) (sym (sign_is token k e no_word lexed)) h

  word_to_comes : IsWord token → TakesWordTo s token run → ReachedBy run (tokens ++ token ∷ [])
  word_to_comes is_word h =
      subst (λ (x : Run). ReachedBy x (tokens ++ token ∷ [])) (sym h.makes) (word_comes s.outer s.here s.phase tokens token h.turn r is_word h.taken)

  by_kind_comes : (k : TokenKind) → token.kind ≡ k → TakesBy k s token run → ReachedBy run (tokens ++ token ∷ [])
  by_kind_comes kind.Semicolon e h = by_sign kind.Semicolon e refl (semicolon_comes s.here s.outer tokens run s.phase r h)
  by_kind_comes kind.OpenBrace e h = by_sign kind.OpenBrace e refl (open_comes s.here s.outer tokens run s.phase r h)
  by_kind_comes kind.CloseBrace e h = by_sign kind.CloseBrace e refl (close_comes s.phase s.here s.outer tokens run r h)
  by_kind_comes kind.OpenBracket e h = by_sign kind.OpenBracket e refl (list_comes s.here s.outer tokens run s.phase r h)
  by_kind_comes kind.CloseBracket e h = by_sign kind.CloseBracket e refl (end_list_comes s.here s.outer tokens run s.phase r h)
  by_kind_comes kind.Bare e h = word_to_comes (ap is_word_kind e) h
  by_kind_comes kind.Quoted e h = word_to_comes (ap is_word_kind e) h

-- how a text stands after tokens that are taken one after another
goes_reached : (tokens : List Lexed) (s : ReadState) (run : Run) (before : List Lexed) → AllByRecursion IsLexed tokens → Reached s.phase s.here s.outer before → Goes s tokens run
    → ReachedBy run (before ++ tokens)
goes_reached [] s run before are r h =
    subst (λ (x : Run). ReachedBy x (before ++ [])) (sym h) (subst (λ (ts : List Lexed). Reached s.phase s.here s.outer ts) (sym (append-nil before)) r)
goes_reached (token ∷ tokens) s run before are r h =
    let one : ReachedBy h.0 (before ++ token ∷ []) = by_kind_comes s token h.0 before are.0 r token.kind refl h.2
    in let more : ReachedBy h.1 ((before ++ token ∷ []) ++ tokens) = goes_reached tokens h.0.state h.1 (before ++ token ∷ []) are.1 one h.3
    in subst (λ (x : Run). ReachedBy x (before ++ token ∷ tokens)) (sym h.4)
    (subst (λ (ts : List Lexed). ReachedBy h.1 ts) (append_assoc before (token ∷ []) tokens) more)

start_reached : (tokens : List Lexed) (run : Run) → AllByRecursion IsLexed tokens → Goes start tokens run → ReachedBy run tokens
start_reached tokens run are h = goes_reached tokens start run [] are (entered_text [] top_level [] (refl, refl)) h

-- a word that no row takes, in a state
no_step : (c : Child) → why_no_step c ≡ Unknown → c ≡ begun.Unknown
no_step begun.Unknown h = refl
no_step (begun.BadName row) h = cc
no_step (begun.Row row) h = cc

record Untaken (outer : List Level) (here : Level) (tokens : List Lexed) (word : Lexed) : Type 0 where
  level : Level
  begins : BeginsStepAt outer here tokens word level
  none : child_at level word.word [] ≡ begun.Unknown

module _ (outer : List Level) (here : Level) (tokens : List Lexed) (word : Lexed) where
  first_untaken : (mark : Bool) (own : List Lexed) → is_mark word ≡ mark → InText outer here tokens own → AllByRecursion (λ t. is_mark t ≡ true) own → (0 < length own → HasRows here)
      → why_no_statement mark here word ≡ Unknown → Untaken outer here tokens word
  first_untaken true own e at are rows h = cc
  first_untaken false own e at are rows h = record {
    level = here;
    begins = inl (refl, record { marks = own; in_text = at; are_marks = are; some_rows = rows; no_mark = e });
    none = no_step (child_at here word.word []) h;
  }

  further_untaken : (opens : Bool) (level : Level) → is_open level ≡ opens → Led outer here tokens level → why_no_more opens level word.word ≡ Unknown → Untaken outer here tokens word
  further_untaken true level e led h = record {
    level = level;
    begins = inr record { own = led.own; in_text = led.in_text; statement = led.statement; opens = e };
    none = no_step (child_at level word.word []) h;
  }
  further_untaken false level e led h = cc

  word_untaken : (phase : Phase) → Reached phase here outer tokens → why_no_word phase here word ≡ Unknown → Untaken outer here tokens word
  word_untaken Between r h = first_untaken (is_mark word) [] refl r tt (λ some. absurd (omega (arith, some))) h
  word_untaken (Marked marks) r h = first_untaken (is_mark word) r.0 refl r.1 r.2 (λ some. r.3) h
  word_untaken (Naming marks at head) r h = cc
  word_untaken (Valuing marks level) r h = cc
  word_untaken (Listing marks level words) r h = cc
  word_untaken (After level) r h = further_untaken (is_open level) level refl r h

record UntakenIn (s : ReadState) (tokens : List Lexed) (token : Lexed) : Type 0 where
  is_word : IsWord token
  untaken : Untaken s.outer s.here tokens token

kind_untaken : (s : ReadState) (tokens : List Lexed) (token : Lexed) (k : TokenKind) → token.kind ≡ k → Reached s.phase s.here s.outer tokens → why_by k s token ≡ Unknown → UntakenIn s tokens token
kind_untaken s tokens token kind.Bare e r h = record { is_word = ap is_word_kind e; untaken = word_untaken s.outer s.here tokens token s.phase r h }
kind_untaken s tokens token kind.Quoted e r h = record { is_word = ap is_word_kind e; untaken = word_untaken s.outer s.here tokens token s.phase r h }
kind_untaken s tokens token kind.OpenBrace e r h = cc
kind_untaken s tokens token kind.CloseBrace e r h = cc
kind_untaken s tokens token kind.OpenBracket e r h = cc
kind_untaken s tokens token kind.CloseBracket e r h = cc
kind_untaken s tokens token kind.Semicolon e r h = cc

-- a fault that is an unknown word is where a word begins a step, and no row of its level takes it
pub unknown_only : (text : List ℕ) (byte : ℕ) → IsLeftmostFault text (fault.Unknown byte) → IsUnknownAt text byte
unknown_only text byte h = by_token (slice_get (map (lexed_in text) h.tokens) h.at) refl
  where
    by_token : (o : Option Lexed) → slice_get (map (lexed_in text) h.tokens) h.at ≡ o → IsUnknownAt text byte
    by_token None e = let f : Unknown ≡ Unexpected = h.why_is ∙ ap (why_not h.run.state) e in cc
    by_token (Some token) e =
        let reached = start_reached (take h.at (map (lexed_in text) h.tokens)) h.run (all_front h.at (map (lexed_in text) h.tokens) (are_lexed text h.tokens)) h.read
        in let why : why_by token.kind h.run.state token ≡ Unknown = sym (h.why_is ∙ ap (why_not h.run.state) e)
        in let found = kind_untaken h.run.state (take h.at (map (lexed_in text) h.tokens)) token token.kind refl reached why
        in let level = found.untaken.level
        in record {
          tokens = h.tokens;
          are_tokens = h.are_tokens;
          at = h.at;
          word = token;
          there = e;
          is_word = found.is_word;
          outer = h.run.state.outer;
          here = h.run.state.here;
          level = level;
          begins = found.untaken.begins;
          untaken = subst (λ (c : Child). schema.Begins level.place.row level.place.in_group token.word [] c) found.untaken.none (child_begins level.place.row level.place.in_group token.word []);
          byte_is = h.byte_is;
        }

-- a run that ends in this state
record RunTo (tokens : List Lexed) (s : ReadState) : Type 0 where
  run : Run
  goes : Goes start tokens run
  ends : run.state ≡ s

run_on : (xs ys : List Lexed) (s : ReadState) (two : Run) → RunTo xs s → Goes s ys two → RunTo (xs ++ ys) two.state
run_on xs ys s two a g = record {
  run = and_then a.run two;
  goes = goes_join xs ys start a.run two a.goes (subst (λ (x : ReadState). Goes x ys two) (sym a.ends) g);
  ends = refl;
}

run_by : (xs ys : List Lexed) (s : ReadState) → ys ≡ xs → RunTo xs s → RunTo ys s
run_by xs ys s e h = subst (λ (ts : List Lexed). RunTo ts s) (sym e) h

enters_run : (outer : List Level) (here : Level) (tokens : List Lexed) → Enters outer here tokens → RunTo tokens (state here outer Between)
enters_run [] here tokens h = record {
  run = silent start;
  goes = subst (λ (ts : List Lexed). Goes start ts (silent start)) (sym h.1) refl;
  ends = ap (λ (l : Level). state l [] Between) (sym h.0);
}
enters_run (up ∷ outer) here tokens h =
    let around = enters_run outer up h.0 h.3
    in let before = h.4
    in let own = h.5
    in let two = run_on h.0 h.1 (state up outer Between) (run_of (state up outer Between) before.items before.tags) around
    (subst (λ (ts : List Lexed). Goes (state up outer Between) ts (run_of (state up outer Between) before.items before.tags)) (sym before.spelled) (goes_text before.text up outer before.items before.tags before.tells))
    in let three = run_on (h.0 ++ h.1) h.2 (state up outer Between) (run_of (state up outer (After here)) own.own (tagged own.marks own.own)) two
    (subst (λ (ts : List Lexed). Goes (state up outer Between) ts (run_of (state up outer (After here)) own.own (tagged own.marks own.own))) (sym own.spelled)
    (goes_statement own.marks up outer own.first own.more own.own here own.says))
    in run_by (((h.0 ++ h.1) ++ h.2) ++ sign kind.OpenBrace ∷ []) tokens (state here (up ∷ outer) Between) (h.7 ∙ simp append_assoc)
    (run_on ((h.0 ++ h.1) ++ h.2) (sign kind.OpenBrace ∷ []) (state up outer (After here)) (silent (state here (up ∷ outer) Between)) three
    (goes_one (state up outer (After here)) (sign kind.OpenBrace) (silent (state here (up ∷ outer) Between)) (h.6, refl)))

text_run : (outer : List Level) (here : Level) (tokens own : List Lexed) (h : InText outer here tokens own) (run : Run) → Goes (state here outer Between) own run → RunTo tokens run.state
text_run outer here tokens own h run g =
    let around = enters_run outer here h.around h.enters
    in let before = h.whole
    in let two = run_on h.around h.before (state here outer Between) (run_of (state here outer Between) before.items before.tags) around
    (subst (λ (ts : List Lexed). Goes (state here outer Between) ts (run_of (state here outer Between) before.items before.tags)) (sym before.spelled) (goes_text before.text here outer before.items before.tags before.tells))
    in run_by ((h.around ++ h.before) ++ own) tokens run.state (h.joined ∙ sym (append_assoc h.around h.before own)) (run_on (h.around ++ h.before) own (state here outer Between) run two g)

-- where a reader is that comes to a word which begins a step
record Standing (outer : List Level) (here : Level) (tokens : List Lexed) (word : Lexed) (level : Level) : Type 0 where
  phase : Phase
  run_to : RunTo tokens (state here outer phase)
  why : why_no_word phase here word ≡ why_no_step (child_at level word.word [])
  begins : (turn : Turn) → TakesWord phase here word turn → (marks : Marks) × BeginsStep (child_at level word.word []) level marks word.word turn

module _ (outer : List Level) (here : Level) (tokens : List Lexed) (word : Lexed) where
  first_why : (mark : Bool) → is_mark word ≡ mark → mark ≡ false → why_no_statement (is_mark word) here word ≡ why_no_step (child_at here word.word [])
  first_why mark e f = ap (λ (b : Bool). why_no_statement b here word) (e ∙ f)

  first_begins : (marks : Marks) (turn : Turn) → is_mark word ≡ false → TakesFirst (is_mark word) here marks word turn → BeginsStep (child_at here word.word []) here marks word.word turn
  first_begins marks turn e h = subst (λ (b : Bool). TakesFirst b here marks word turn) e h

  statement_stands : (marks : List Lexed) → InText outer here tokens marks → AllByRecursion (λ t. is_mark t ≡ true) marks → (0 < length marks → HasRows here) → is_mark word ≡ false
      → Standing outer here tokens word here
  statement_stands [] at are rows none = record {
    phase = Between;
    run_to = text_run outer here tokens [] at (silent (state here outer Between)) refl;
    why = first_why (is_mark word) refl none;
    begins = λ turn h. (no_marks, first_begins no_marks turn none h);
  }
  statement_stands (mark ∷ marks) at are rows none =
      let some : HasRows here = rows (omega arith)
      in let m : Marks = with_marks no_marks (mark ∷ marks)
      in record {
        phase = Marked m;
        run_to = text_run outer here tokens (mark ∷ marks) at (silent (state here outer (Marked m)))
            (goes_join (mark ∷ []) marks (state here outer Between) (silent (state here outer (Marked (with_mark no_marks mark)))) (silent (state here outer (Marked m)))
            (goes_one (state here outer Between) mark (silent (state here outer (Marked (with_mark no_marks mark)))) (mark_taken Between here outer no_marks mark some are.0 (λ t. t)))
            (goes_marks marks here outer (with_mark no_marks mark) some are.1));
        why = first_why (is_mark word) refl none;
        begins = λ turn h. (m, first_begins m turn none h);
      }

  step_stands : (level : Level) → BeginsStepAt outer here tokens word level → Standing outer here tokens word level
  step_stands level (inl b) =
      subst (λ (l : Level). Standing outer here tokens word l) (sym b.0) (statement_stands b.1.marks b.1.in_text b.1.are_marks b.1.some_rows b.1.no_mark)
  step_stands level (inr g) =
      let s = g.statement
      in record {
        phase = After level;
        run_to = text_run outer here tokens g.own g.in_text (run_of (state here outer (After level)) s.own (tagged s.marks s.own))
            (subst (λ (ts : List Lexed). Goes (state here outer Between) ts (run_of (state here outer (After level)) s.own (tagged s.marks s.own))) (sym s.spelled)
            (goes_statement s.marks here outer s.first s.more s.own level s.says));
        why = ap (λ (b : Bool). why_no_more b level word.word) g.opens;
        begins = λ turn h. (no_marks, subst (λ (b : Bool). TakesAfter b level word.word turn) g.opens h);
      }

-- no row takes a word
none_begun : (parent : ℕ) (in_group : Bool) (word : List ℕ) → schema.Begins parent in_group word [] begun.Unknown → schema.child_of parent in_group word [] ≡ begun.Unknown
none_begun parent in_group word none = by_child (schema.child_of parent in_group word []) (child_begins parent in_group word [])
  where
    by_child : (c : Child) → schema.Begins parent in_group word [] c → c ≡ begun.Unknown
    by_child begun.Unknown b = refl
    by_child (begun.BadName row) b = absurd (none.0 row b.0)
    by_child (begun.Row row) (inl b) = absurd (none.0 row b.0)
    by_child (begun.Row row) (inr b) = absurd (none.1 row b.1 b.2)

word_why : (k : TokenKind) (s : ReadState) (token : Lexed) → is_word_kind k ≡ true → why_by k s token ≡ why_no_word s.phase s.here token
word_why kind.Bare s token h = refl
word_why kind.Quoted s token h = refl
word_why kind.OpenBrace s token h = absurd cc
word_why kind.CloseBrace s token h = absurd cc
word_why kind.OpenBracket s token h = absurd cc
word_why kind.CloseBracket s token h = absurd cc
word_why kind.Semicolon s token h = absurd cc

word_taken : (k : TokenKind) (s : ReadState) (token : Lexed) (run : Run) → is_word_kind k ≡ true → TakesBy k s token run → TakesWordTo s token run
word_taken kind.Bare s token run h t = t
word_taken kind.Quoted s token run h t = t
word_taken kind.OpenBrace s token run h t = absurd cc
word_taken kind.CloseBrace s token run h t = absurd cc
word_taken kind.OpenBracket s token run h t = absurd cc
word_taken kind.CloseBracket s token run h t = absurd cc
word_taken kind.Semicolon s token run h t = absurd cc

some_is : (a b : Lexed) → Some a ≡ Some b → a ≡ b
some_is a b e = cc

-- a word that begins a step, and that no row of its level takes
module _ (text : List ℕ) (byte : ℕ) (u : IsUnknownAt text byte) where
  within_tokens : u.at ≤ length (map (lexed_in text) u.tokens)
  within_tokens = by_place (cases_lt u.at (length (map (lexed_in text) u.tokens)))
    where
      by_place : (u.at < length (map (lexed_in text) u.tokens)) ⊎ (length (map (lexed_in text) u.tokens) ≤ u.at) → u.at ≤ length (map (lexed_in text) u.tokens)
      by_place (inl below) = omega (arith, below)
      by_place (inr past) = let e = sym u.there ∙ slice_get_past (map (lexed_in text) u.tokens) u.at past in cc

  module _ (stands : Standing u.outer u.here (take u.at (map (lexed_in text) u.tokens)) u.word u.level) (none : child_at u.level u.word.word [] ≡ begun.Unknown) where
    never_taken : (token : Lexed) → slice_get (map (lexed_in text) u.tokens) u.at ≡ Some token → (one : Run) → Takes stands.run_to.run.state token one → ⊥
    never_taken token there one taken =
        let same : token ≡ u.word = some_is token u.word (sym there ∙ u.there)
        in let by_state : Takes (state u.here u.outer stands.phase) u.word one =
        subst (λ (t : Lexed). Takes (state u.here u.outer stands.phase) t one) same (subst (λ (s : ReadState). Takes s token one) stands.run_to.ends taken)
        in let to = word_taken u.word.kind (state u.here u.outer stands.phase) u.word one u.is_word by_state
        in let begun_step = stands.begins to.turn to.taken
        in subst (λ (c : Child). BeginsStep c u.level begun_step.0 u.word.word to.turn) none begun_step.1

    why_unknown : Unknown ≡ why_not stands.run_to.run.state (slice_get (map (lexed_in text) u.tokens) u.at)
    why_unknown =
        sym (ap (why_not stands.run_to.run.state) u.there
        ∙ ap (λ (s : ReadState). why_by u.word.kind s u.word) stands.run_to.ends
        ∙ word_why u.word.kind (state u.here u.outer stands.phase) u.word u.is_word
        ∙ stands.why
        ∙ ap why_no_step none)

    by_count : (MAX_STATEMENTS < different (paths_met stands.run_to.run)) ⊎ (different (paths_met stands.run_to.run) ≤ MAX_STATEMENTS)
        → IsLeftmostFault text (fault.Unknown byte) ⊎ IsLeftmostFault text fault.TooMany
    by_count (inl many) = inr record {
      tokens = u.tokens;
      are_tokens = u.are_tokens;
      at = u.at;
      within = omega (arith, within_tokens, length-map u.tokens (lexed_in text));
      run = stands.run_to.run;
      read = stands.run_to.goes;
      many = many;
    }
    by_count (inr few) = inl record {
      tokens = u.tokens;
      are_tokens = u.are_tokens;
      at = u.at;
      ends = end_of_beginning (map (lexed_in text) u.tokens) u.at stands.run_to.run (are_lexed text u.tokens) within_tokens stands.run_to.goes never_taken
          (λ past final. let e = sym u.there ∙ past in cc);
      run = stands.run_to.run;
      read = stands.run_to.goes;
      few = few;
      why_is = why_unknown;
      byte_is = u.byte_is;
    }

-- is the text's fault, unless too many statements are met before it
pub unknown_exactly : (text : List ℕ) (byte : ℕ) → IsUnknownAt text byte → IsLeftmostFault text (fault.Unknown byte) ⊎ IsLeftmostFault text fault.TooMany
unknown_exactly text byte u =
    let stands = step_stands u.outer u.here (take u.at (map (lexed_in text) u.tokens)) u.word u.level u.begins
    in by_count text byte u stands (none_begun u.level.place.row u.level.place.in_group u.word.word u.untaken) (cases_lt MAX_STATEMENTS (different (paths_met stands.run_to.run)))
