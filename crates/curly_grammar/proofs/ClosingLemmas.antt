-- From each state that a reader comes to, some tokens lead to the end of a text.
use Rattle.std.proofs.Common.{◌≡◌, ℕ, ◌⊎◌, List, [], ◌∷◌, ◌++◌, refl, sym, subst, ◌∙◌, inl, inr, arith, length-append}
use Rattle.std.specs.List.{AllByRecursion}
use Rattle.cfg_base.specs.declared.kind.Shape.{Shape}
use Rattle.cfg_base.specs.declared.kind.Shape.TheVariants.{Container, Fixed, Keyed, Bare, Leaf, Flag, Many}
use Rattle.cfg_base.specs.Words.{joined}
use Rattle.cfg_lex.specs.declared.token.TokenKind.TheVariants as kind
use Rattle.cfg_lex.specs.Lexed.{Lexed}
use Rattle.cfg_schema.specs.declared.answer.Child.{Child}
use Rattle.cfg_schema.specs.declared.answer.Child.TheVariants as begun
use Rattle.cfg_schema.specs.Profile.{row_of, head_of, name_of, StandsBelow}
use Rattle.cfg_schema.specs.Child.{HasHead, Begins}
use Rattle.cfg_schema.proofs.ChildLemmas.{child_begins}
use Rattle.cfg_schema.proofs.BegunLemmas.{head_begins_row, name_begins_row}
use Rattle.cfg_values.specs.Spelling.{IsCanonicalOf}
use Rattle.cfg_tree.specs.Tree.{step_of}
use Rattle.curly_grammar.specs.declared.phase.Marks.{Marks}
use Rattle.curly_grammar.specs.declared.phase.Phase.{Phase}
use Rattle.curly_grammar.specs.declared.phase.Phase.TheVariants.{Between, Marked, Naming, Valuing, Listing, After}
use Rattle.curly_grammar.specs.Grammar.{sign, Level}
use Rattle.curly_grammar.specs.Reading.{ReadState, state, IsFinal, Run, silent, and_then, Turn, turned, quiet, whole, below, child_at, HasRows, BeginsAs, BeginsStep, NamesAs, NamesStep, TakesWord, Takes, Goes}
use Rattle.curly_grammar.proofs.RunLemmas.{goes_more}
use Rattle.curly_grammar.proofs.HeadLemmas.{fixed_begun, row_there}
use Rattle.curly_grammar.proofs.GoesLemmas.{other_shape}
use Rattle.curly_grammar.proofs.KindLemmas.{name_spelled, value_spelled}
use Rattle.curly_grammar.proofs.LeftLemmas.{IsLexed}

-- some tokens lead from a state to an end
pub record Ending (s : ReadState) : Type 0 where
  pub tokens : List Lexed
  pub are : AllByRecursion IsLexed tokens
  pub run : Run
  pub goes : Goes s tokens run
  pub final : IsFinal run.state

-- a word in quotes is no mark
abbrev quoted : List ℕ → Lexed
quoted word = record { kind = kind.Quoted; word = word }

quoted_lexed : (word : List ℕ) → IsLexed (quoted word)
quoted_lexed word e = cc

ends_by : (s : ReadState) (token : Lexed) (one : Run) → IsLexed token → Takes s token one → Ending one.state → Ending s
ends_by s token one lexed taken end = record {
  tokens = token ∷ end.tokens;
  are = (lexed, end.are);
  run = and_then one end.run;
  goes = goes_more s token end.tokens one end.run taken end.goes;
  final = end.final;
}

ends_by_word : (s : ReadState) (word : List ℕ) (turn : Turn) → TakesWord s.phase s.here (quoted word) turn → Ending (state s.here s.outer turn.phase) → Ending s
ends_by_word s word turn taken end =
    ends_by s (quoted word) (turned s turn) (quoted_lexed word) record { turn = turn; taken = taken; makes = refl } end

-- each level is closed by a brace
between_ends : (outer : List Level) (here : Level) → Ending (state here outer Between)
between_ends [] here = record { tokens = []; are = tt; run = silent (state here [] Between); goes = refl; final = record { closed = refl; whole = refl } }
between_ends (up ∷ outer) here =
    ends_by (state here (up ∷ outer) Between) (sign kind.CloseBrace) (silent (state up outer Between)) (λ e. refl) refl (between_ends outer up)

module _ (here : Level) (outer : List Level) where
  after_ends : (level : Level) → Ending (state here outer (After level))
  after_ends level = ends_by (state here outer (After level)) (sign kind.Semicolon) (silent (state here outer Between)) (λ e. refl) refl (between_ends outer here)

  listing_ends : (marks : Marks) (level : Level) (words : List (List ℕ)) → Ending (state here outer (Listing marks level words))
  listing_ends marks level words =
      let value = value_spelled level.place.row
      in let more : List (List ℕ) = words ++ value.word ∷ []
      in ends_by_word (state here outer (Listing marks level words)) value.bytes (quiet (Listing marks level more)) record { word = value.word; spelled = value.spelled; makes = refl }
      (ends_by (state here outer (Listing marks level more)) (sign kind.CloseBracket) (turned (state here outer (Listing marks level more)) (whole marks level (joined [] more))) (λ e. refl)
      (omega (arith, length-append words (value.word ∷ [])), refl)
      (after_ends level))

  valuing_ends : (marks : Marks) (level : Level) → Ending (state here outer (Valuing marks level))
  valuing_ends marks level =
      let value = value_spelled level.place.row
      in ends_by_word (state here outer (Valuing marks level)) value.bytes (whole marks level (value.word ∷ [])) record { word = value.word; spelled = value.spelled; makes = refl }
      (after_ends level)

-- a head that needs a name
pub record WantsName (at : Level) (head : List ℕ) : Type 0 where
  pub row : ℕ
  pub has_head : HasHead at.place.row at.place.in_group head row
  pub shape : ((row_of row).shape ≡ Keyed) ⊎ ((row_of row).shape ≡ Fixed)

named_by : (at : Level) (marks : Marks) (head word : List ℕ) (row : ℕ) (shape : Shape) (turn : Turn) → (row_of row).shape ≡ shape → child_at at head word ≡ begun.Row row
    → NamesAs shape (row_of row).name_kind row at marks head word turn → NamesStep (child_at at head word) at marks head word turn
named_by at marks head word row shape turn e is h =
    subst (λ (c : Child). NamesStep c at marks head word turn) (sym is)
    (subst (λ (s : Shape). NamesAs s (row_of row).name_kind row at marks head word turn) (sym e) h)

module _ (here : Level) (outer : List Level) where
  naming_ends : (marks : Marks) (at : Level) (head : List ℕ) → WantsName at head → Ending (state here outer (Naming marks at head))
  naming_ends marks at head wants = by_shape wants.shape
    where
      s : ReadState
      s = state here outer (Naming marks at head)

      by_shape : ((row_of wants.row).shape ≡ Keyed) ⊎ ((row_of wants.row).shape ≡ Fixed) → Ending (state here outer (Naming marks at head))
      by_shape (inl e) =
          let name = name_spelled wants.row
          in let level : Level = below at wants.row (step_of head name.word)
          in ends_by_word (state here outer (Naming marks at head)) name.bytes (whole marks level [])
          (named_by at marks head name.bytes wants.row Keyed (whole marks level []) e
          (head_begins_row at.place.row at.place.in_group head name.bytes wants.row wants.has_head (λ f. let g : Keyed ≡ Fixed = sym e ∙ f in cc))
          record { name = name.word; is_name = inl name.spelled; makes = refl })
          (after_ends here outer level)
      by_shape (inr e) =
          let level : Level = below at wants.row (step_of head (name_of wants.row))
          in ends_by_word (state here outer (Naming marks at head)) (name_of wants.row) (whole marks level [])
          (named_by at marks head (name_of wants.row) wants.row Fixed (whole marks level []) e (fixed_begun at.place.row at.place.in_group head wants.row wants.has_head) refl)
          (after_ends here outer level)

  -- a word begins a step, and some tokens lead on from there
  record StepEnds (at : Level) (marks : Marks) (word : List ℕ) : Type 0 where
    turn : Turn
    begins : BeginsStep (child_at at word []) at marks word turn
    ends : Ending (state here outer turn.phase)

  record ShapeEnds (shape : Shape) (at : Level) (marks : Marks) (word : List ℕ) (row : ℕ) : Type 0 where
    turn : Turn
    begins : BeginsAs shape (row_of row).name_kind row at marks word turn
    ends : Ending (state here outer turn.phase)

  head_shape_ends : (shape : Shape) (at : Level) (marks : Marks) (word : List ℕ) (row : ℕ) → (row_of row).shape ≡ shape → HasHead at.place.row at.place.in_group word row → ShapeEnds shape at marks word row
  head_shape_ends Container at marks word row e head = record { turn = whole marks (below at row (step_of word [])) []; begins = refl; ends = after_ends here outer (below at row (step_of word [])) }
  head_shape_ends Flag at marks word row e head = record { turn = whole marks (below at row (step_of word [])) []; begins = refl; ends = after_ends here outer (below at row (step_of word [])) }
  head_shape_ends Bare at marks word row e head = absurd (head.1 e)
  head_shape_ends Keyed at marks word row e head = record { turn = quiet (Naming marks at word); begins = refl; ends = naming_ends marks at word record { row = row; has_head = head; shape = inl e } }
  head_shape_ends Fixed at marks word row e head = record { turn = quiet (Naming marks at word); begins = refl; ends = naming_ends marks at word record { row = row; has_head = head; shape = inr e } }
  head_shape_ends Leaf at marks word row e head = record { turn = quiet (Valuing marks (below at row (step_of word []))); begins = refl; ends = valuing_ends here outer marks (below at row (step_of word [])) }
  head_shape_ends Many at marks word row e head = record { turn = quiet (Valuing marks (below at row (step_of word []))); begins = refl; ends = valuing_ends here outer marks (below at row (step_of word [])) }

  row_ends : (at : Level) (marks : Marks) (word : List ℕ) (row : ℕ) → child_at at word [] ≡ begun.Row row → ShapeEnds (row_of row).shape at marks word row → StepEnds at marks word
  row_ends at marks word row is h = record { turn = h.turn; begins = subst (λ (c : Child). BeginsStep c at marks word h.turn) (sym is) h.begins; ends = h.ends }

  bad_name_ends : (at : Level) (marks : Marks) (word : List ℕ) (row : ℕ) → child_at at word [] ≡ begun.BadName row → Begins at.place.row at.place.in_group word [] (begun.BadName row) → StepEnds at marks word
  bad_name_ends at marks word row is b = record {
    turn = quiet (Naming marks at word);
    begins = subst (λ (c : Child). BeginsStep c at marks word (quiet (Naming marks at word))) (sym is) refl;
    ends = naming_ends marks at word record { row = row; has_head = b.0; shape = inr (b.1 row b.0).1 };
  }

  -- a head begins a step
  head_ends : (at : Level) (marks : Marks) (word : List ℕ) (row : ℕ) → HasHead at.place.row at.place.in_group word row → StepEnds at marks word
  head_ends at marks word row head = by_child (child_at at word []) refl (child_begins at.place.row at.place.in_group word [])
    where
      by_child : (c : Child) → child_at at word [] ≡ c → Begins at.place.row at.place.in_group word [] c → StepEnds at marks word
      by_child begun.Unknown is b = absurd (b.0 row head)
      by_child (begun.BadName other) is b = bad_name_ends at marks word other is b
      by_child (begun.Row other) is (inl b) = row_ends at marks word other is (head_shape_ends (row_of other).shape at marks word other refl b.0)
      by_child (begun.Row other) is (inr b) = absurd (b.0 row head)

  -- a bare name begins a step, or it is a head
  bare_ends : (at : Level) (marks : Marks) (row : ℕ) → StandsBelow at.place.row at.place.in_group row → (row_of row).shape ≡ Bare → (bytes word : List ℕ)
      → IsCanonicalOf (row_of row).name_kind bytes word → StepEnds at marks bytes
  bare_ends at marks row stood bare bytes word spelled = by_child (child_at at bytes []) refl (child_begins at.place.row at.place.in_group bytes [])
    where
      by_child : (c : Child) → child_at at bytes [] ≡ c → Begins at.place.row at.place.in_group bytes [] c → StepEnds at marks bytes
      by_child begun.Unknown is b = absurd (b.1 row stood bare)
      by_child (begun.BadName other) is b = bad_name_ends at marks bytes other is b
      by_child (begun.Row other) is (inl b) = row_ends at marks bytes other is (head_shape_ends (row_of other).shape at marks bytes other refl b.0)
      by_child (begun.Row other) is (inr b) =
          row_ends at marks bytes row (name_begins_row at.place.row at.place.in_group bytes [] row b.0 stood bare) record {
            turn = whole marks (below at row (step_of [] word)) [];
            begins = subst (λ (s : Shape). BeginsAs s (row_of row).name_kind row at marks bytes (whole marks (below at row (step_of [] word)) [])) (sym bare) record { name = word; is_name = inl spelled; makes = refl };
            ends = after_ends here outer (below at row (step_of [] word));
          }

  -- a row's first word
  record WordEnds (at : Level) (marks : Marks) : Type 0 where
    word : List ℕ
    step : StepEnds at marks word

  shape_word_ends : (shape : Shape) (at : Level) (marks : Marks) (row : ℕ) → (row_of row).shape ≡ shape → StandsBelow at.place.row at.place.in_group row → WordEnds at marks
  shape_word_ends Bare at marks row e stood =
      let name = name_spelled row in record { word = name.bytes; step = bare_ends at marks row stood e name.bytes name.word name.spelled }
  shape_word_ends Container at marks row e stood = record { word = head_of row; step = head_ends at marks (head_of row) row (stood, other_shape _ Container Bare e (λ x. cc), refl) }
  shape_word_ends Fixed at marks row e stood = record { word = head_of row; step = head_ends at marks (head_of row) row (stood, other_shape _ Fixed Bare e (λ x. cc), refl) }
  shape_word_ends Keyed at marks row e stood = record { word = head_of row; step = head_ends at marks (head_of row) row (stood, other_shape _ Keyed Bare e (λ x. cc), refl) }
  shape_word_ends Leaf at marks row e stood = record { word = head_of row; step = head_ends at marks (head_of row) row (stood, other_shape _ Leaf Bare e (λ x. cc), refl) }
  shape_word_ends Flag at marks row e stood = record { word = head_of row; step = head_ends at marks (head_of row) row (stood, other_shape _ Flag Bare e (λ x. cc), refl) }
  shape_word_ends Many at marks row e stood = record { word = head_of row; step = head_ends at marks (head_of row) row (stood, other_shape _ Many Bare e (λ x. cc), refl) }

  -- after marks a statement begins, at a level that has rows
  marked_ends : (marks : Marks) → HasRows here → Ending (state here outer (Marked marks))
  marked_ends marks rows =
      let there = row_there here rows
      in let found = shape_word_ends (row_of there.0).shape here marks there.0 refl there.1
      in ends_by_word (state here outer (Marked marks)) found.word found.step.turn found.step.begins found.step.ends

-- what is known of a state that a reader comes to: where it has read marks, the level has rows; where it has read a head, that needs a name
abbrev pub IsFair : Phase → Level → Type 0
IsFair Between here = Unit {0}
IsFair (Marked marks) here = HasRows here
IsFair (Naming marks at head) here = WantsName at head
IsFair (Valuing marks level) here = Unit {0}
IsFair (Listing marks level words) here = Unit {0}
IsFair (After level) here = Unit {0}

-- from each such state some tokens lead to an end
pub ends : (phase : Phase) (here : Level) (outer : List Level) → IsFair phase here → Ending (state here outer phase)
ends Between here outer fair = between_ends outer here
ends (Marked marks) here outer fair = marked_ends here outer marks fair
ends (Naming marks at head) here outer fair = naming_ends here outer marks at head fair
ends (Valuing marks level) here outer fair = valuing_ends here outer marks level
ends (Listing marks level words) here outer fair = listing_ends here outer marks level words
ends (After level) here outer fair = after_ends here outer level
