-- What is read is what the grammar spells: from each state on, the tokens that lead to the end are what is left of a text.
use Rattle.std.proofs.Common.{◌≡◌, ℕ, ◌<◌, ◌⊎◌, Bool, true, false, List, [], ◌∷◌, ◌++◌, length, map, refl, sym, ap, subst, ◌∙◌, inl, inr, append-nil, append_assoc, arith}
use Rattle.std.specs.List.{flat_map, AllByRecursion}
use Rattle.cfg_base.specs.declared.kind.Kind.{Kind}
use Rattle.cfg_base.specs.declared.kind.Shape.{Shape}
use Rattle.cfg_base.specs.declared.kind.Shape.TheVariants.{Container, Fixed, Keyed, Bare, Leaf, Flag, Many}
use Rattle.cfg_base.specs.declared.path.Step.{Step}
use Rattle.cfg_base.specs.declared.value.Value.{Value}
use Rattle.cfg_base.specs.Words.{joined}
use Rattle.cfg_entries.specs.EntryMap.{Pair}
use Rattle.cfg_lex.specs.declared.token.TokenKind.{TokenKind}
use Rattle.cfg_lex.specs.declared.token.TokenKind.TheVariants as kind
use Rattle.cfg_lex.specs.Lexed.{Lexed, is_word_kind}
use Rattle.cfg_schema.specs.declared.answer.Child.{Child}
use Rattle.cfg_schema.specs.declared.answer.Child.TheVariants as begun
use Rattle.cfg_schema.specs.Profile.{row_of}
use Rattle.cfg_tree.specs.Gather.{is_many}
use Rattle.cfg_tree.specs.Tree.{step_of}
use Rattle.cfg_tree.specs.Typed.{AllSpelled}
use Rattle.curly_grammar.specs.declared.phase.Marks.{Marks}
use Rattle.curly_grammar.specs.declared.phase.Phase.{Phase}
use Rattle.curly_grammar.specs.declared.phase.Phase.TheVariants.{Between, Marked, Naming, Valuing, Listing, After}
use Rattle.curly_grammar.specs.Grammar.{sign, IsWord, is_mark, Part, One, Two, Listed, Text, End, Short, Block, spell_part, spell, head_of, IsValue, AreValues, word_of, StandsFor, Level, top_level, LeadsTo, is_open, said, LeadTo, Says, tagged, Tells, Derives}
use Rattle.curly_grammar.specs.Reading.{no_marks, with_mark, ReadState, state, start, IsFinal, Run, Turn, quiet, item_of, tag_of, whole, below, child_at, BeginsAs, BeginsStep, NamesAs, NamesStep, TakesFirst, TakesAfter, IsValued, TakesWord, TakesSemicolon, TakesOpenBrace, Leaves, TakesCloseBrace, TakesOpenBracket, TakesCloseBracket, TakesWordTo, TakesBy, Takes, Goes}
use Rattle.curly_grammar.proofs.HeadLemmas.{row_alone}
use Rattle.curly_grammar.proofs.GoesLemmas.{with_marks, item_said, tag_said, other_shape}

-- a text of a level, and after it what is so
pub record TextThen (P : List Lexed → List (Pair Value) → List (List Step) → Type 0) (here : Level) (tokens : List Lexed) (items : List (Pair Value)) (tags : List (List Step)) : Type 0 where
  pub text : Text
  pub behind : List Lexed
  pub own : List (Pair Value)
  pub own_tags : List (List Step)
  pub others : List (Pair Value)
  pub other_tags : List (List Step)
  pub spelled : tokens ≡ spell text ++ behind
  pub tells : Tells text here own own_tags
  pub rest : P behind others other_tags
  pub items_are : items ≡ own ++ others
  pub tags_are : tags ≡ own_tags ++ other_tags

-- what ends the text of a level: nothing at the top, and else a brace and what is left of the level around it
abbrev pub Closes : List Level → List Lexed → List (Pair Value) → List (List Step) → Type 0
Closes [] tokens items tags = (tokens ≡ []) × (items ≡ []) × (tags ≡ [])
Closes (up ∷ outer) tokens items tags = (behind : List Lexed) × (tokens ≡ sign kind.CloseBrace ∷ behind) × TextThen (Closes outer) up behind items tags

-- what is left of the text of a level
abbrev pub Finishes : Level → List Level → List Lexed → List (Pair Value) → List (List Step) → Type 0
Finishes here outer tokens items tags = TextThen (Closes outer) here tokens items tags

-- the end of a statement, and what is left after it
record EndsShort (here : Level) (outer : List Level) (tokens : List Lexed) (items : List (Pair Value)) (tags : List (List Step)) : Type 0 where
  behind : List Lexed
  spelled : tokens ≡ sign kind.Semicolon ∷ behind
  rest : Finishes here outer behind items tags

record EndsInBraces (last here : Level) (outer : List Level) (tokens : List Lexed) (items : List (Pair Value)) (tags : List (List Step)) : Type 0 where
  behind : List Lexed
  opens : is_open last ≡ true
  spelled : tokens ≡ sign kind.OpenBrace ∷ behind
  rest : Finishes last (here ∷ outer) behind items tags

abbrev Ends : Level → Level → List Level → List Lexed → List (Pair Value) → List (List Step) → Type 0
Ends last here outer tokens items tags = EndsShort here outer tokens items tags ⊎ EndsInBraces last here outer tokens items tags

-- what is left after a whole step: further steps, and the end of the statement
record Tail (at here : Level) (outer : List Level) (tokens : List Lexed) (items : List (Pair Value)) (tags : List (List Step)) : Type 0 where
  more : List Part
  last : Level
  own : List (Pair Value)
  others : List (Pair Value)
  behind : List Lexed
  spelled : tokens ≡ flat_map spell_part more ++ behind
  opens : 0 < length more → is_open at ≡ true
  steps : LeadTo at [] more own last
  ends : Ends last here outer behind others tags
  items_are : items ≡ own ++ others

-- what is left of a step whose head has been read, and of its statement
record StepLeft (at : Level) (marks : Marks) (head : Lexed) (here : Level) (outer : List Level) (tokens : List Lexed) (items : List (Pair Value)) (tags : List (List Step)) : Type 0 where
  part : Part
  level : Level
  words : List (List ℕ)
  behind : List Lexed
  others : List (Pair Value)
  other_tags : List (List Step)
  head_is : head_of part ≡ head
  leads : LeadsTo at part level words
  spelled : head ∷ tokens ≡ spell_part part ++ behind
  tail : Tail level here outer behind others other_tags
  items_are : items ≡ item_of marks level words ∷ others
  tags_are : tags ≡ tag_of marks level ++ other_tags

record MarkedLeft (marks : Marks) (here : Level) (outer : List Level) (tokens : List Lexed) (items : List (Pair Value)) (tags : List (List Step)) : Type 0 where
  more : List Lexed
  first : Part
  level : Level
  words : List (List ℕ)
  behind : List Lexed
  others : List (Pair Value)
  other_tags : List (List Step)
  are_marks : AllByRecursion (λ token. is_mark token ≡ true) more
  no_mark : is_mark (head_of first) ≡ false
  leads : LeadsTo here first level words
  spelled : tokens ≡ more ++ (spell_part first ++ behind)
  tail : Tail level here outer behind others other_tags
  items_are : items ≡ item_of (with_marks marks more) level words ∷ others
  tags_are : tags ≡ tag_of (with_marks marks more) level ++ other_tags

record NamingLeft (marks : Marks) (at : Level) (head : List ℕ) (here : Level) (outer : List Level) (tokens : List Lexed) (items : List (Pair Value)) (tags : List (List Step)) : Type 0 where
  name : Lexed
  level : Level
  words : List (List ℕ)
  behind : List Lexed
  others : List (Pair Value)
  other_tags : List (List Step)
  leads : (first : Lexed) → IsWord first → first.word ≡ head → LeadsTo at (Two first name) level words
  spelled : tokens ≡ name ∷ behind
  tail : Tail level here outer behind others other_tags
  items_are : items ≡ item_of marks level words ∷ others
  tags_are : tags ≡ tag_of marks level ++ other_tags

record OneValue (level : Level) (tokens : List Lexed) (words : List (List ℕ)) : Type 0 where
  value : Lexed
  is_word : IsWord value
  spelled : tokens ≡ value ∷ []
  means : IsValue (row_of level.place.row).value_kind value.word words

record SomeValues (level : Level) (tokens : List Lexed) (words : List (List ℕ)) : Type 0 where
  values : List Lexed
  some : 0 < length values
  are_words : AllByRecursion IsWord values
  many : (row_of level.place.row).shape ≡ Many
  spelled : tokens ≡ sign kind.OpenBracket ∷ (values ++ sign kind.CloseBracket ∷ [])
  mean : AreValues (row_of level.place.row).value_kind (map word_of values) words

record ValuingLeft (marks : Marks) (level here : Level) (outer : List Level) (tokens : List Lexed) (items : List (Pair Value)) (tags : List (List Step)) : Type 0 where
  values : List Lexed
  words : List (List ℕ)
  behind : List Lexed
  others : List (Pair Value)
  other_tags : List (List Step)
  mean : OneValue level values words ⊎ SomeValues level values words
  spelled : tokens ≡ values ++ behind
  tail : Tail level here outer behind others other_tags
  items_are : items ≡ item_of marks level words ∷ others
  tags_are : tags ≡ tag_of marks level ++ other_tags

record ListingLeft (marks : Marks) (level : Level) (done : List (List ℕ)) (here : Level) (outer : List Level) (tokens : List Lexed) (items : List (Pair Value)) (tags : List (List Step)) : Type 0 where
  values : List Lexed
  all : List (List ℕ)
  behind : List Lexed
  others : List (Pair Value)
  other_tags : List (List Step)
  are_words : AllByRecursion IsWord values
  canonical : AllSpelled (row_of level.place.row).value_kind (map word_of values) all
  some : 0 < length (done ++ all)
  spelled : tokens ≡ values ++ sign kind.CloseBracket ∷ behind
  tail : Tail level here outer behind others other_tags
  items_are : items ≡ item_of marks level (joined [] (done ++ all)) ∷ others
  tags_are : tags ≡ tag_of marks level ++ other_tags

abbrev Left : Phase → Level → List Level → List Lexed → List (Pair Value) → List (List Step) → Type 0
Left Between here outer tokens items tags = Finishes here outer tokens items tags
Left (Marked marks) here outer tokens items tags = MarkedLeft marks here outer tokens items tags
Left (Naming marks at head) here outer tokens items tags = NamingLeft marks at head here outer tokens items tags
Left (Valuing marks level) here outer tokens items tags = ValuingLeft marks level here outer tokens items tags
Left (Listing marks level words) here outer tokens items tags = ListingLeft marks level words here outer tokens items tags
Left (After level) here outer tokens items tags = Tail level here outer tokens items tags

abbrev LeftOf : ReadState → List Lexed → List (Pair Value) → List (List Step) → Type 0
LeftOf s tokens items tags = Left s.phase s.here s.outer tokens items tags

-- a first step and those after it
lead_whole : (more : List Part) (at : Level) (marks : List Lexed) (part : Part) (level : Level) (words : List (List ℕ)) (own : List (Pair Value)) (last : Level)
    → LeadsTo at part level words → (0 < length more → is_open level ≡ true) → LeadTo level [] more own last
    → LeadTo at marks (part ∷ more) (said marks level words ∷ own) last
lead_whole [] at marks part level words own last leads opens rest = (
  words,
  subst (λ (l : Level). LeadsTo at part l words) (sym rest.1) leads,
  ap (λ (xs : List (Pair Value)). said marks level words ∷ xs) rest.0 ∙ ap (λ (l : Level). said marks l words ∷ []) (sym rest.1),
)
lead_whole (next ∷ more) at marks part level words own last leads opens rest = (level, words, own, leads, opens (omega arith), rest, refl)

-- a statement with its marks, and what is left after it
finished : (marks : List Lexed) (first : Part) (level here : Level) (words : List (List ℕ)) (outer : List Level) (tokens : List Lexed) (items : List (Pair Value)) (tags : List (List Step))
    → AllByRecursion (λ token. is_mark token ≡ true) marks → is_mark (head_of first) ≡ false → LeadsTo here first level words
    → Tail level here outer tokens items tags
    → Finishes here outer (marks ++ (spell_part first ++ tokens)) (said marks level words ∷ items) (tagged marks (said marks level words ∷ items) ++ tags)
finished marks first level here words outer tokens items tags are none leads tail = by_end tail.ends
  where
    says : Says here marks first tail.more (said marks level words ∷ tail.own) tail.last
    says = record { are_marks = are; no_mark = none; steps = lead_whole tail.more here marks first level words tail.own tail.last leads tail.opens tail.steps }

    by_end : Ends tail.last here outer tail.behind tail.others tags
        → Finishes here outer (marks ++ (spell_part first ++ tokens)) (said marks level words ∷ items) (tagged marks (said marks level words ∷ items) ++ tags)
    by_end (inl e) = record {
      text = Short marks first tail.more e.rest.text;
      behind = e.rest.behind;
      own = (said marks level words ∷ tail.own) ++ e.rest.own;
      own_tags = tagged marks (said marks level words ∷ tail.own) ++ e.rest.own_tags;
      others = e.rest.others;
      other_tags = e.rest.other_tags;
      spelled =
          ap (λ (ts : List Lexed). marks ++ (spell_part first ++ ts)) (tail.spelled ∙ ap (λ (ts : List Lexed). flat_map spell_part tail.more ++ ts) (e.spelled ∙ ap (λ (ts : List Lexed). sign kind.Semicolon ∷ ts) e.rest.spelled))
          ∙ simp append_assoc;
      tells = (said marks level words ∷ tail.own, tail.last, e.rest.own, e.rest.own_tags, says, e.rest.tells, refl, refl);
      rest = e.rest.rest;
      items_are =
          ap (λ (xs : List (Pair Value)). said marks level words ∷ xs) (tail.items_are ∙ ap (λ (xs : List (Pair Value)). tail.own ++ xs) e.rest.items_are)
          ∙ sym (append_assoc (said marks level words ∷ tail.own) e.rest.own e.rest.others);
      tags_are =
          ap (λ (ts : List (List Step)). tagged marks (said marks level words ∷ items) ++ ts) e.rest.tags_are
          ∙ sym (append_assoc (tagged marks (said marks level words ∷ items)) e.rest.own_tags e.rest.other_tags);
    }
    by_end (inr e) =
        let around = e.rest.rest.2
        in record {
          text = Block marks first tail.more e.rest.text around.text;
          behind = around.behind;
          own = (said marks level words ∷ tail.own) ++ (e.rest.own ++ around.own);
          own_tags = tagged marks (said marks level words ∷ tail.own) ++ (e.rest.own_tags ++ around.own_tags);
          others = around.others;
          other_tags = around.other_tags;
          spelled =
              ap (λ (ts : List Lexed). marks ++ (spell_part first ++ ts)) (tail.spelled ∙ ap (λ (ts : List Lexed). flat_map spell_part tail.more ++ ts)
              (e.spelled ∙ ap (λ (ts : List Lexed). sign kind.OpenBrace ∷ ts) (e.rest.spelled
              ∙ ap (λ (ts : List Lexed). spell e.rest.text ++ ts) (e.rest.rest.1 ∙ ap (λ (ts : List Lexed). sign kind.CloseBrace ∷ ts) around.spelled))))
              ∙ simp append_assoc;
          tells = (
            said marks level words ∷ tail.own,
            tail.last,
            e.rest.own,
            e.rest.own_tags,
            around.own,
            around.own_tags,
            says,
            e.opens,
            e.rest.tells,
            around.tells,
            refl,
            refl,
          );
          rest = around.rest;
          items_are =
              ap (λ (xs : List (Pair Value)). said marks level words ∷ xs) (tail.items_are ∙ ap (λ (xs : List (Pair Value)). tail.own ++ xs)
              (e.rest.items_are ∙ ap (λ (xs : List (Pair Value)). e.rest.own ++ xs) around.items_are))
              ∙ simp append_assoc;
          tags_are =
              ap (λ (ts : List (List Step)). tagged marks (said marks level words ∷ items) ++ ts) (e.rest.tags_are ∙ ap (λ (ts : List (List Step)). e.rest.own_tags ++ ts) around.tags_are)
              ∙ simp append_assoc;
        }

module _ (here : Level) (outer : List Level) (tokens : List Lexed) (items : List (Pair Value)) (tags : List (List Step)) where
  -- what is left after a turn is what is left of a step
  abbrev LeavesStep : Level → Marks → Lexed → Turn → Type 0
  LeavesStep at marks head turn = Left turn.phase here outer tokens items tags → StepLeft at marks head here outer tokens (turn.items ++ items) (turn.tags ++ tags)

  -- a step of one word
  one_left : (at : Level) (marks : Marks) (head : Lexed) (row : ℕ) (step : Step) (turn : Turn)
      → IsWord head → child_at at head.word [] ≡ begun.Row row
      → StandsFor (row_of row).shape (row_of row).name_kind (row_of row).value_kind at.place.in_group (One head) step []
      → turn ≡ whole marks (below at row step) [] → LeavesStep at marks head turn
  one_left at marks head row step turn is_word is stands e =
      subst (λ (t : Turn). LeavesStep at marks head t) (sym e) (λ tail. record {
        part = One head;
        level = below at row step;
        words = [];
        behind = tokens;
        others = items;
        other_tags = tags;
        head_is = refl;
        leads = record { row = row; step = step; are_words = is_word; begins = is; stands_for = stands; next_is = refl };
        spelled = refl;
        tail = tail;
        items_are = refl;
        tags_are = refl;
      })

  -- a head whose name has to come
  naming_left : (at : Level) (marks : Marks) (head : Lexed) (turn : Turn) → IsWord head → turn ≡ quiet (Naming marks at head.word) → LeavesStep at marks head turn
  naming_left at marks head turn is_word e =
      subst (λ (t : Turn). LeavesStep at marks head t) (sym e) (λ left. record {
        part = Two head left.name;
        level = left.level;
        words = left.words;
        behind = left.behind;
        others = left.others;
        other_tags = left.other_tags;
        head_is = refl;
        leads = left.leads head is_word refl;
        spelled = ap (λ (ts : List Lexed). head ∷ ts) left.spelled;
        tail = left.tail;
        items_are = left.items_are;
        tags_are = left.tags_are;
      })

  -- a head whose values have to come
  module _ (at : Level) (marks : Marks) (head : Lexed) (row : ℕ) (is_word : IsWord head) (is : child_at at head.word [] ≡ begun.Row row)
      (left : ValuingLeft marks (below at row (step_of head.word [])) here outer tokens items tags) where
    abbrev valued : Level
    valued = below at row (step_of head.word [])

    with_part : (part : Part) → head_of part ≡ head → LeadsTo at part valued left.words → head ∷ left.values ≡ spell_part part → StepLeft at marks head here outer tokens items tags
    with_part part head_is leads spelled = record {
      part = part;
      level = valued;
      words = left.words;
      behind = left.behind;
      others = left.others;
      other_tags = left.other_tags;
      head_is = head_is;
      leads = leads;
      spelled = ap (λ (ts : List Lexed). head ∷ ts) left.spelled ∙ ap (λ (ts : List Lexed). ts ++ left.behind) spelled;
      tail = left.tail;
      items_are = left.items_are;
      tags_are = left.tags_are;
    }

    leaf_left : (row_of row).shape ≡ Leaf → StepLeft at marks head here outer tokens items tags
    leaf_left e = by_mean left.mean
      where
        by_mean : OneValue valued left.values left.words ⊎ SomeValues valued left.values left.words → StepLeft at marks head here outer tokens items tags
        by_mean (inl one) = with_part (Two head one.value) refl record {
          row = row;
          step = step_of head.word [];
          are_words = (is_word, one.is_word);
          begins = row_alone at.place.row at.place.in_group head.word [] row is (other_shape _ Leaf Bare e (λ x. cc)) (other_shape _ Leaf Fixed e (λ x. cc)) one.value.word;
          stands_for = subst (λ (s : Shape). StandsFor s (row_of row).name_kind (row_of row).value_kind at.place.in_group (Two head one.value) (step_of head.word []) left.words) (sym e) (refl, one.means);
          next_is = refl;
        } (ap (λ (ts : List Lexed). head ∷ ts) one.spelled)
        by_mean (inr some) = let f : Leaf ≡ Many = sym e ∙ some.many in cc

    many_left : (row_of row).shape ≡ Many → StepLeft at marks head here outer tokens items tags
    many_left e = by_mean left.mean
      where
        by_mean : OneValue valued left.values left.words ⊎ SomeValues valued left.values left.words → StepLeft at marks head here outer tokens items tags
        by_mean (inl one) = with_part (Two head one.value) refl record {
          row = row;
          step = step_of head.word [];
          are_words = (is_word, one.is_word);
          begins = row_alone at.place.row at.place.in_group head.word [] row is (other_shape _ Many Bare e (λ x. cc)) (other_shape _ Many Fixed e (λ x. cc)) one.value.word;
          stands_for = subst (λ (s : Shape). StandsFor s (row_of row).name_kind (row_of row).value_kind at.place.in_group (Two head one.value) (step_of head.word []) left.words) (sym e) (refl, one.means);
          next_is = refl;
        } (ap (λ (ts : List Lexed). head ∷ ts) one.spelled)
        by_mean (inr some) = with_part (Listed head some.values) refl record {
          row = row;
          step = step_of head.word [];
          are_words = (is_word, some.some, some.are_words);
          begins = is;
          stands_for = subst (λ (s : Shape). StandsFor s (row_of row).name_kind (row_of row).value_kind at.place.in_group (Listed head some.values) (step_of head.word []) left.words) (sym e) (refl, some.mean);
          next_is = refl;
        } (ap (λ (ts : List Lexed). head ∷ ts) some.spelled)

  as_left : (shape : Shape) (at : Level) (marks : Marks) (head : Lexed) (row : ℕ) (turn : Turn) → (row_of row).shape ≡ shape → IsWord head → child_at at head.word [] ≡ begun.Row row
      → BeginsAs shape (row_of row).name_kind row at marks head.word turn → LeavesStep at marks head turn
  as_left Container at marks head row turn e is_word is h =
      one_left at marks head row (step_of head.word []) turn is_word is
      (subst (λ (s : Shape). StandsFor s (row_of row).name_kind (row_of row).value_kind at.place.in_group (One head) (step_of head.word []) []) (sym e) (refl, refl)) h
  as_left Flag at marks head row turn e is_word is h =
      one_left at marks head row (step_of head.word []) turn is_word is
      (subst (λ (s : Shape). StandsFor s (row_of row).name_kind (row_of row).value_kind at.place.in_group (One head) (step_of head.word []) []) (sym e) (refl, refl)) h
  as_left Bare at marks head row turn e is_word is h =
      one_left at marks head row (step_of [] h.name) turn is_word is
      (subst (λ (s : Shape). StandsFor s (row_of row).name_kind (row_of row).value_kind at.place.in_group (One head) (step_of [] h.name) []) (sym e) (refl, h.is_name, refl)) h.makes
  as_left Keyed at marks head row turn e is_word is h = naming_left at marks head turn is_word h
  as_left Fixed at marks head row turn e is_word is h = naming_left at marks head turn is_word h
  as_left Leaf at marks head row turn e is_word is h =
      subst (λ (t : Turn). LeavesStep at marks head t) (sym h) (λ left. leaf_left at marks head row is_word is left e)
  as_left Many at marks head row turn e is_word is h =
      subst (λ (t : Turn). LeavesStep at marks head t) (sym h) (λ left. many_left at marks head row is_word is left e)

  begins_left : (at : Level) (marks : Marks) (head : Lexed) (turn : Turn) → IsWord head → BeginsStep (child_at at head.word []) at marks head.word turn → LeavesStep at marks head turn
  begins_left at marks head turn is_word = by_child (child_at at head.word []) refl
    where
      by_child : (c : Child) → child_at at head.word [] ≡ c → BeginsStep c at marks head.word turn → LeavesStep at marks head turn
      by_child begun.Unknown is h = absurd h
      by_child (begun.BadName row) is h = naming_left at marks head turn is_word h
      by_child (begun.Row row) is h = as_left (row_of row).shape at marks head row turn refl is_word is h

  -- a name after its head
  name_left : (marks : Marks) (at : Level) (head : List ℕ) (name : Lexed) (row : ℕ) (step : Step) (turn : Turn) → IsWord name → child_at at head name.word ≡ begun.Row row
      → ((first : Lexed) → first.word ≡ head → StandsFor (row_of row).shape (row_of row).name_kind (row_of row).value_kind at.place.in_group (Two first name) step [])
      → turn ≡ whole marks (below at row step) []
      → Left turn.phase here outer tokens items tags → NamingLeft marks at head here outer (name ∷ tokens) (turn.items ++ items) (turn.tags ++ tags)
  name_left marks at head name row step turn is_word is stands e =
      subst (λ (t : Turn). Left t.phase here outer tokens items tags → NamingLeft marks at head here outer (name ∷ tokens) (t.items ++ items) (t.tags ++ tags)) (sym e) (λ tail. record {
        name = name;
        level = below at row step;
        words = [];
        behind = tokens;
        others = items;
        other_tags = tags;
        leads = λ first first_word first_is. record {
          row = row;
          step = step;
          are_words = (first_word, is_word);
          begins = ap (λ (bytes : List ℕ). child_at at bytes name.word) first_is ∙ is;
          stands_for = stands first first_is;
          next_is = refl;
        };
        spelled = refl;
        tail = tail;
        items_are = refl;
        tags_are = refl;
      })

  names_as_left : (shape : Shape) (marks : Marks) (at : Level) (head : List ℕ) (name : Lexed) (row : ℕ) (turn : Turn) → (row_of row).shape ≡ shape → IsWord name
      → child_at at head name.word ≡ begun.Row row → NamesAs shape (row_of row).name_kind row at marks head name.word turn
      → Left turn.phase here outer tokens items tags → NamingLeft marks at head here outer (name ∷ tokens) (turn.items ++ items) (turn.tags ++ tags)
  names_as_left Keyed marks at head name row turn e is_word is h =
      name_left marks at head name row (step_of head h.name) turn is_word is
      (λ first first_is. subst (λ (s : Shape). StandsFor s (row_of row).name_kind (row_of row).value_kind at.place.in_group (Two first name) (step_of head h.name) []) (sym e) (sym first_is, h.is_name, refl))
      h.makes
  names_as_left Fixed marks at head name row turn e is_word is h =
      name_left marks at head name row (step_of head name.word) turn is_word is
      (λ first first_is. subst (λ (s : Shape). StandsFor s (row_of row).name_kind (row_of row).value_kind at.place.in_group (Two first name) (step_of head name.word) []) (sym e)
      (ap (λ (bytes : List ℕ). step_of bytes name.word) (sym first_is), refl))
      h
  names_as_left Container marks at head name row turn e is_word is h = absurd h
  names_as_left Bare marks at head name row turn e is_word is h = absurd h
  names_as_left Leaf marks at head name row turn e is_word is h = absurd h
  names_as_left Flag marks at head name row turn e is_word is h = absurd h
  names_as_left Many marks at head name row turn e is_word is h = absurd h

  names_left : (marks : Marks) (at : Level) (head : List ℕ) (name : Lexed) (turn : Turn) → IsWord name → NamesStep (child_at at head name.word) at marks head name.word turn
      → Left turn.phase here outer tokens items tags → NamingLeft marks at head here outer (name ∷ tokens) (turn.items ++ items) (turn.tags ++ tags)
  names_left marks at head name turn is_word = by_child (child_at at head name.word) refl
    where
      by_child : (c : Child) → child_at at head name.word ≡ c → NamesStep c at marks head name.word turn
          → Left turn.phase here outer tokens items tags → NamingLeft marks at head here outer (name ∷ tokens) (turn.items ++ items) (turn.tags ++ tags)
      by_child begun.Unknown is h = absurd h
      by_child (begun.BadName row) is h = absurd h
      by_child (begun.Row row) is h = names_as_left (row_of row).shape marks at head name row turn refl is_word is h

  -- a value after its head
  value_left : (marks : Marks) (level : Level) (value : Lexed) (turn : Turn) → IsWord value → IsValued level value.word (λ word. whole marks level (word ∷ [])) turn
      → Left turn.phase here outer tokens items tags → ValuingLeft marks level here outer (value ∷ tokens) (turn.items ++ items) (turn.tags ++ tags)
  value_left marks level value turn is_word h =
      subst (λ (t : Turn). Left t.phase here outer tokens items tags → ValuingLeft marks level here outer (value ∷ tokens) (t.items ++ items) (t.tags ++ tags)) (sym h.makes) (λ tail. record {
        values = value ∷ [];
        words = h.word ∷ [];
        behind = tokens;
        others = items;
        other_tags = tags;
        mean = inl record { value = value; is_word = is_word; spelled = refl; means = record { word = h.word; canonical = h.spelled; alone = refl } };
        spelled = refl;
        tail = tail;
        items_are = refl;
        tags_are = refl;
      })

  -- a value in a list
  listed_left : (marks : Marks) (level : Level) (done : List (List ℕ)) (value : Lexed) (turn : Turn) → IsWord value
      → IsValued level value.word (λ word. quiet (Listing marks level (done ++ word ∷ []))) turn
      → Left turn.phase here outer tokens items tags → ListingLeft marks level done here outer (value ∷ tokens) (turn.items ++ items) (turn.tags ++ tags)
  listed_left marks level done value turn is_word h =
      subst (λ (t : Turn). Left t.phase here outer tokens items tags → ListingLeft marks level done here outer (value ∷ tokens) (t.items ++ items) (t.tags ++ tags)) (sym h.makes) (λ left. record {
        values = value ∷ left.values;
        all = h.word ∷ left.all;
        behind = left.behind;
        others = left.others;
        other_tags = left.other_tags;
        are_words = (is_word, left.are_words);
        canonical = (h.spelled, left.canonical);
        some = subst (λ (ws : List (List ℕ)). 0 < length ws) (append_assoc done (h.word ∷ []) left.all) left.some;
        spelled = ap (λ (ts : List Lexed). value ∷ ts) left.spelled;
        tail = left.tail;
        items_are = left.items_are ∙ ap (λ (ws : List (List ℕ)). item_of marks level (joined [] ws) ∷ left.others) (append_assoc done (h.word ∷ []) left.all);
        tags_are = left.tags_are;
      })

  -- a first step without marks before it
  step_finishes : (token : Lexed) (more_items : List (Pair Value)) (more_tags : List (List Step)) → is_mark token ≡ false → StepLeft here no_marks token here outer tokens more_items more_tags
      → Finishes here outer (token ∷ tokens) more_items more_tags
  step_finishes token more_items more_tags none left =
      let none_first : is_mark (head_of left.part) ≡ false = ap is_mark left.head_is ∙ none
      in let whole_statement = finished [] left.part left.level here left.words outer left.behind left.others left.other_tags tt none_first left.leads left.tail
      in subst (λ (ts : List Lexed). Finishes here outer ts more_items more_tags) (sym left.spelled)
      (subst (λ (xs : List (Pair Value)). Finishes here outer (spell_part left.part ++ left.behind) xs more_tags) (sym left.items_are)
      (subst (λ (ts : List (List Step)). Finishes here outer (spell_part left.part ++ left.behind) (item_of no_marks left.level left.words ∷ left.others) ts) (sym left.tags_are)
      whole_statement))

  -- marks and what is left after them
  marks_finish : (token : Lexed) → is_mark token ≡ true → MarkedLeft (with_mark no_marks token) here outer tokens items tags → Finishes here outer (token ∷ tokens) items tags
  marks_finish token is left =
      let marks : List Lexed = token ∷ left.more
      in let whole_statement = finished marks left.first left.level here left.words outer left.behind left.others left.other_tags (is, left.are_marks) left.no_mark left.leads left.tail
      in subst (λ (ts : List Lexed). Finishes here outer (token ∷ ts) items tags) (sym left.spelled)
      (subst (λ (xs : List (Pair Value)). Finishes here outer (marks ++ (spell_part left.first ++ left.behind)) xs tags)
      (sym (left.items_are ∙ ap (λ (i : Pair Value). i ∷ left.others) (item_said marks left.level left.words)))
      (subst (λ (ts : List (List Step)). Finishes here outer (marks ++ (spell_part left.first ++ left.behind)) (said marks left.level left.words ∷ left.others) ts)
      (sym (left.tags_are ∙ ap (λ (ts : List (List Step)). ts ++ left.other_tags) (tag_said marks left.level left.words left.others)))
      whole_statement))

  between_left : (mark : Bool) (token : Lexed) (turn : Turn) → is_mark token ≡ mark → IsWord token → TakesFirst mark here no_marks token turn
      → Left turn.phase here outer tokens items tags → Finishes here outer (token ∷ tokens) (turn.items ++ items) (turn.tags ++ tags)
  between_left true token turn e is_word h =
      subst (λ (t : Turn). Left t.phase here outer tokens items tags → Finishes here outer (token ∷ tokens) (t.items ++ items) (t.tags ++ tags)) (sym h.1) (marks_finish token e)
  between_left false token turn e is_word h = λ left.
      step_finishes token (turn.items ++ items) (turn.tags ++ tags) e (begins_left here no_marks token turn is_word h left)

  marked_left : (mark : Bool) (marks : Marks) (token : Lexed) (turn : Turn) → is_mark token ≡ mark → IsWord token → TakesFirst mark here marks token turn
      → Left turn.phase here outer tokens items tags → MarkedLeft marks here outer (token ∷ tokens) (turn.items ++ items) (turn.tags ++ tags)
  marked_left true marks token turn e is_word h =
      subst (λ (t : Turn). Left t.phase here outer tokens items tags → MarkedLeft marks here outer (token ∷ tokens) (t.items ++ items) (t.tags ++ tags)) (sym h.1) (λ left. record {
        more = token ∷ left.more;
        first = left.first;
        level = left.level;
        words = left.words;
        behind = left.behind;
        others = left.others;
        other_tags = left.other_tags;
        are_marks = (e, left.are_marks);
        no_mark = left.no_mark;
        leads = left.leads;
        spelled = ap (λ (ts : List Lexed). token ∷ ts) left.spelled;
        tail = left.tail;
        items_are = left.items_are;
        tags_are = left.tags_are;
      })
  marked_left false marks token turn e is_word h = λ more.
      let left = begins_left here marks token turn is_word h more
      in record {
        more = [];
        first = left.part;
        level = left.level;
        words = left.words;
        behind = left.behind;
        others = left.others;
        other_tags = left.other_tags;
        are_marks = tt;
        no_mark = ap is_mark left.head_is ∙ e;
        leads = left.leads;
        spelled = left.spelled;
        tail = left.tail;
        items_are = left.items_are;
        tags_are = left.tags_are;
      }

  -- a further step after a level
  after_left : (level : Level) (token : Lexed) (turn : Turn) → IsWord token → is_open level ≡ true → BeginsStep (child_at level token.word []) level no_marks token.word turn
      → Left turn.phase here outer tokens items tags → Tail level here outer (token ∷ tokens) (turn.items ++ items) (turn.tags ++ tags)
  after_left level token turn is_word opens h more =
      let left = begins_left level no_marks token turn is_word h more
      in let tail = left.tail
      in record {
        more = left.part ∷ tail.more;
        last = tail.last;
        own = said [] left.level left.words ∷ tail.own;
        others = tail.others;
        behind = tail.behind;
        spelled = left.spelled ∙ ap (λ (ts : List Lexed). spell_part left.part ++ ts) tail.spelled ∙ sym (append_assoc (spell_part left.part) (flat_map spell_part tail.more) tail.behind);
        opens = λ some. opens;
        steps = lead_whole tail.more level [] left.part left.level left.words tail.own tail.last left.leads tail.opens tail.steps;
        ends = subst (λ (ts : List (List Step)). Ends tail.last here outer tail.behind tail.others ts) (sym left.tags_are) tail.ends;
        items_are = left.items_are ∙ ap (λ (xs : List (Pair Value)). said [] left.level left.words ∷ xs) tail.items_are;
      }

  further_left : (opens : Bool) (level : Level) (token : Lexed) (turn : Turn) → is_open level ≡ opens → IsWord token → TakesAfter opens level token.word turn
      → Left turn.phase here outer tokens items tags → Tail level here outer (token ∷ tokens) (turn.items ++ items) (turn.tags ++ tags)
  further_left true level token turn e is_word h = after_left level token turn is_word e h
  further_left false level token turn e is_word h = absurd h

  word_left : (phase : Phase) (token : Lexed) (turn : Turn) → IsWord token → TakesWord phase here token turn
      → Left turn.phase here outer tokens items tags → Left phase here outer (token ∷ tokens) (turn.items ++ items) (turn.tags ++ tags)
  word_left Between token turn is_word h = between_left (is_mark token) token turn refl is_word h
  word_left (Marked marks) token turn is_word h = marked_left (is_mark token) marks token turn refl is_word h
  word_left (Naming marks at head) token turn is_word h = names_left marks at head token turn is_word h
  word_left (Valuing marks level) token turn is_word h = value_left marks level token turn is_word h
  word_left (Listing marks level words) token turn is_word h = listed_left marks level words token turn is_word h
  word_left (After level) token turn is_word h = further_left (is_open level) level token turn refl is_word h

-- the shape of statements with lists
pub shape_many : (shape : Shape) → is_many shape ≡ true → shape ≡ Many
shape_many Many h = refl
shape_many Container h = cc
shape_many Fixed h = cc
shape_many Keyed h = cc
shape_many Bare h = cc
shape_many Leaf h = cc
shape_many Flag h = cc

pub some_spelled : (kind : Kind) (values : List Lexed) (all : List (List ℕ)) → AllSpelled kind (map word_of values) all → 0 < length all → 0 < length values
some_spelled kind [] [] h l = absurd (omega (arith, l))
some_spelled kind [] (word ∷ all) h l = absurd h
some_spelled kind (value ∷ values) all h l = omega arith

-- what is left after a run is left after its tokens
abbrev LeavesAll : ReadState → List Lexed → Run → List Lexed → List (Pair Value) → List (List Step) → Type 0
LeavesAll s before run tokens items tags = LeftOf run.state tokens items tags → LeftOf s (before ++ tokens) (run.items ++ items) (run.tags ++ tags)

module _ (here : Level) (outer : List Level) (run : Run) (tokens : List Lexed) (items : List (Pair Value)) (tags : List (List Step)) where
  semicolon_left : (phase : Phase) → TakesSemicolon phase (state here outer phase) run → LeavesAll (state here outer phase) (sign kind.Semicolon ∷ []) run tokens items tags
  semicolon_left (After level) h =
      subst (λ (r : Run). LeavesAll (state here outer (After level)) (sign kind.Semicolon ∷ []) r tokens items tags) (sym h) (λ rest. record {
        more = [];
        last = level;
        own = [];
        others = items;
        behind = sign kind.Semicolon ∷ tokens;
        spelled = refl;
        opens = λ some. absurd (omega (arith, some));
        steps = (refl, refl);
        ends = inl record { behind = tokens; spelled = refl; rest = rest };
        items_are = refl;
      })
  semicolon_left Between h = absurd h
  semicolon_left (Marked marks) h = absurd h
  semicolon_left (Naming marks at head) h = absurd h
  semicolon_left (Valuing marks level) h = absurd h
  semicolon_left (Listing marks level words) h = absurd h

  open_left : (phase : Phase) → TakesOpenBrace phase (state here outer phase) run → LeavesAll (state here outer phase) (sign kind.OpenBrace ∷ []) run tokens items tags
  open_left (After level) h =
      subst (λ (r : Run). LeavesAll (state here outer (After level)) (sign kind.OpenBrace ∷ []) r tokens items tags) (sym h.1) (λ rest. record {
        more = [];
        last = level;
        own = [];
        others = items;
        behind = sign kind.OpenBrace ∷ tokens;
        spelled = refl;
        opens = λ some. absurd (omega (arith, some));
        steps = (refl, refl);
        ends = inr record { behind = tokens; opens = h.0; spelled = refl; rest = rest };
        items_are = refl;
      })
  open_left Between h = absurd h
  open_left (Marked marks) h = absurd h
  open_left (Naming marks at head) h = absurd h
  open_left (Valuing marks level) h = absurd h
  open_left (Listing marks level words) h = absurd h

  list_left : (phase : Phase) → TakesOpenBracket phase (state here outer phase) run → LeavesAll (state here outer phase) (sign kind.OpenBracket ∷ []) run tokens items tags
  list_left (Valuing marks level) h =
      subst (λ (r : Run). LeavesAll (state here outer (Valuing marks level)) (sign kind.OpenBracket ∷ []) r tokens items tags) (sym h.1) (λ left. record {
        values = sign kind.OpenBracket ∷ (left.values ++ sign kind.CloseBracket ∷ []);
        words = joined [] left.all;
        behind = left.behind;
        others = left.others;
        other_tags = left.other_tags;
        mean = inr record {
          values = left.values;
          some = some_spelled _ left.values left.all left.canonical left.some;
          are_words = left.are_words;
          many = shape_many (row_of level.place.row).shape h.0;
          spelled = refl;
          mean = record { all = left.all; canonical = left.canonical; once = refl };
        };
        spelled = ap (λ (ts : List Lexed). sign kind.OpenBracket ∷ ts) (left.spelled ∙ sym (append_assoc left.values (sign kind.CloseBracket ∷ []) left.behind));
        tail = left.tail;
        items_are = left.items_are;
        tags_are = left.tags_are;
      })
  list_left Between h = absurd h
  list_left (Marked marks) h = absurd h
  list_left (Naming marks at head) h = absurd h
  list_left (Listing marks level words) h = absurd h
  list_left (After level) h = absurd h

  end_list_left : (phase : Phase) → TakesCloseBracket phase (state here outer phase) run → LeavesAll (state here outer phase) (sign kind.CloseBracket ∷ []) run tokens items tags
  end_list_left (Listing marks level words) h =
      subst (λ (r : Run). LeavesAll (state here outer (Listing marks level words)) (sign kind.CloseBracket ∷ []) r tokens items tags) (sym h.1) (λ tail. record {
        values = [];
        all = [];
        behind = tokens;
        others = items;
        other_tags = tags;
        are_words = tt;
        canonical = tt;
        some = subst (λ (ws : List (List ℕ)). 0 < length ws) (sym (append-nil words)) h.0;
        spelled = refl;
        tail = tail;
        items_are = ap (λ (ws : List (List ℕ)). item_of marks level (joined [] ws) ∷ items) (sym (append-nil words));
        tags_are = refl;
      })
  end_list_left Between h = absurd h
  end_list_left (Marked marks) h = absurd h
  end_list_left (Naming marks at head) h = absurd h
  end_list_left (Valuing marks level) h = absurd h
  end_list_left (After level) h = absurd h

leave_left : (outer : List Level) (here : Level) (run : Run) (tokens : List Lexed) (items : List (Pair Value)) (tags : List (List Step)) → Leaves outer run
    → LeavesAll (state here outer Between) (sign kind.CloseBrace ∷ []) run tokens items tags
leave_left [] here run tokens items tags h = absurd h
leave_left (up ∷ outer) here run tokens items tags h =
    subst (λ (r : Run). LeavesAll (state here (up ∷ outer) Between) (sign kind.CloseBrace ∷ []) r tokens items tags) (sym h) (λ rest. record {
      text = End;
      behind = sign kind.CloseBrace ∷ tokens;
      own = [];
      own_tags = [];
      others = items;
      other_tags = tags;
      spelled = refl;
      tells = (refl, refl);
      rest = (tokens, refl, rest);
      items_are = refl;
      tags_are = refl;
    })

close_left : (phase : Phase) (here : Level) (outer : List Level) (run : Run) (tokens : List Lexed) (items : List (Pair Value)) (tags : List (List Step))
    → TakesCloseBrace phase (state here outer phase) run → LeavesAll (state here outer phase) (sign kind.CloseBrace ∷ []) run tokens items tags
close_left Between here outer run tokens items tags h = leave_left outer here run tokens items tags h
close_left (Marked marks) here outer run tokens items tags h = absurd h
close_left (Naming marks at head) here outer run tokens items tags h = absurd h
close_left (Valuing marks level) here outer run tokens items tags h = absurd h
close_left (Listing marks level words) here outer run tokens items tags h = absurd h
close_left (After level) here outer run tokens items tags h = absurd h

-- a token that is no word means none
abbrev pub IsLexed : Lexed → Type 0
IsLexed token = is_word_kind token.kind ≡ false → token.word ≡ []

pub sign_is : (token : Lexed) (k : TokenKind) → token.kind ≡ k → is_word_kind k ≡ false → IsLexed token → token ≡ sign k
sign_is token k e no_word lexed =
    ap (λ (x : TokenKind). record { kind = x; word = token.word }) e
    ∙ ap (λ (bytes : List ℕ). record { kind = k; word = bytes }) (lexed (ap is_word_kind e ∙ no_word))

module _ (s : ReadState) (token : Lexed) (run : Run) (tokens : List Lexed) (items : List (Pair Value)) (tags : List (List Step)) (lexed : IsLexed token) where
  by_sign : (k : TokenKind) → token.kind ≡ k → is_word_kind k ≡ false → LeavesAll s (sign k ∷ []) run tokens items tags → LeavesAll s (token ∷ []) run tokens items tags
  by_sign k e no_word h = subst (λ (t : Lexed). LeavesAll s (t ∷ []) run tokens items tags) (sym (sign_is token k e no_word lexed)) h

  word_to_left : IsWord token → TakesWordTo s token run → LeavesAll s (token ∷ []) run tokens items tags
  word_to_left is_word h =
      subst (λ (r : Run). LeavesAll s (token ∷ []) r tokens items tags) (sym h.makes) (λ left. word_left s.here s.outer tokens items tags s.phase token h.turn is_word h.taken left)

  by_kind_left : (k : TokenKind) → token.kind ≡ k → TakesBy k s token run → LeavesAll s (token ∷ []) run tokens items tags
  by_kind_left kind.Semicolon e h = by_sign kind.Semicolon e refl (semicolon_left s.here s.outer run tokens items tags s.phase h)
  by_kind_left kind.OpenBrace e h = by_sign kind.OpenBrace e refl (open_left s.here s.outer run tokens items tags s.phase h)
  by_kind_left kind.CloseBrace e h = by_sign kind.CloseBrace e refl (close_left s.phase s.here s.outer run tokens items tags h)
  by_kind_left kind.OpenBracket e h = by_sign kind.OpenBracket e refl (list_left s.here s.outer run tokens items tags s.phase h)
  by_kind_left kind.CloseBracket e h = by_sign kind.CloseBracket e refl (end_list_left s.here s.outer run tokens items tags s.phase h)
  by_kind_left kind.Bare e h = word_to_left (ap is_word_kind e) h
  by_kind_left kind.Quoted e h = word_to_left (ap is_word_kind e) h

  -- what is left after a token
  taken_left : Takes s token run → LeavesAll s (token ∷ []) run tokens items tags
  taken_left h = by_kind_left token.kind refl h

-- where tokens lead to an end, they are what is left of a text
goes_left : (tokens : List Lexed) (s : ReadState) (run : Run) → AllByRecursion IsLexed tokens → Goes s tokens run → LeftOf run.state [] [] [] → LeftOf s tokens run.items run.tags
goes_left [] s run are h end = subst (λ (r : Run). LeftOf r.state [] [] [] → LeftOf s [] r.items r.tags) (sym h) (λ left. left) end
goes_left (token ∷ tokens) s run are h end =
    let more : LeftOf h.0.state tokens h.1.items h.1.tags =
    goes_left tokens h.0.state h.1 are.1 h.3 (subst (λ (r : Run). LeftOf r.state [] [] []) h.4 end)
    in subst (λ (r : Run). LeftOf s (token ∷ tokens) r.items r.tags) (sym h.4) (taken_left s token h.0 tokens h.1.items h.1.tags are.0 h.2 more)

-- a text may end in a final state
final_left : (s : ReadState) → IsFinal s → LeftOf s [] [] []
final_left s final =
    subst (λ (p : Phase). Left p s.here s.outer [] [] []) (sym final.whole)
    (subst (λ (o : List Level). Finishes s.here o [] [] []) (sym final.closed) record {
      text = End;
      behind = [];
      own = [];
      own_tags = [];
      others = [];
      other_tags = [];
      spelled = refl;
      tells = (refl, refl);
      rest = (refl, refl, refl);
      items_are = refl;
      tags_are = refl;
    })

-- what is read from the start to an end is derived by the grammar
pub goes_derived : (tokens : List Lexed) (run : Run) → AllByRecursion IsLexed tokens → Goes start tokens run → IsFinal run.state → Derives tokens run.items run.tags
goes_derived tokens run are goes final =
    let left = goes_left tokens start run are goes (final_left run.state final)
    in record {
      text = left.text;
      spelled = left.spelled ∙ ap (λ (ts : List Lexed). spell left.text ++ ts) left.rest.0 ∙ append-nil (spell left.text);
      tells =
          subst (λ (xs : List (Pair Value)). Tells left.text top_level xs run.tags)
          (sym (left.items_are ∙ ap (λ (xs : List (Pair Value)). left.own ++ xs) left.rest.1 ∙ append-nil left.own))
          (subst (λ (ts : List (List Step)). Tells left.text top_level left.own ts)
          (sym (left.tags_are ∙ ap (λ (ts : List (List Step)). left.own_tags ++ ts) left.rest.2 ∙ append-nil left.own_tags))
          left.tells);
    }
