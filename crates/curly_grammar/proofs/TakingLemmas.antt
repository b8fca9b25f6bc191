-- What the reader makes of a token.
use Rattle.std.proofs.Common.{◌≡◌, ℕ, true, List, [], ◌∷◌, ◌++◌, reverse, Result, Ok, Err, ◌⊎◌, inl, inr, refl, sym, ap, subst, ◌∙◌, append-nil}
use Rattle.std.proofs.lemmas.List.{reverse-append}
use Rattle.cfg_base.specs.Words.{joined}
use Rattle.cfg_base.specs.declared.path.Step.{Step}
use Rattle.cfg_base.specs.declared.value.Value.{Value}
use Rattle.cfg_entries.specs.EntryMap.{Pair}
use Rattle.cfg_lex.specs.declared.token.TokenKind.{TokenKind}
use Rattle.cfg_lex.specs.declared.token.TokenKind.TheVariants as kind
use Rattle.cfg_lex.specs.Lexed.{Lexed, is_word_kind, lexed}
use Rattle.cfg_schema.specs.Profile.{row_of}
use Rattle.cfg_tree.specs.Gather.{is_many}
use Rattle.curly_grammar.specs.declared.effect.Effect.{Effect}
use Rattle.curly_grammar.specs.declared.fault.Why.TheVariants.{Unexpected}
use Rattle.curly_grammar.specs.declared.phase.Marks.{Marks}
use Rattle.curly_grammar.specs.declared.phase.Phase.{Phase}
use Rattle.curly_grammar.specs.declared.phase.Phase.TheVariants.{Between, Marked, Naming, Valuing, Listing, After}
use Rattle.curly_grammar.specs.declared.reader.Reader.{Reader}
use Rattle.curly_grammar.specs.declared.stop.Stop.{Stop}
use Rattle.curly_grammar.specs.declared.stop.Stop.TheVariants.{Refused, NoMemory}
use Rattle.curly_grammar.specs.Answer.{Answers, turn_of}
use Rattle.curly_grammar.specs.Fault.{why_no_word}
use Rattle.curly_grammar.specs.Grammar.{Level, is_open}
use Rattle.curly_grammar.specs.Held.{run_in, state_in, Follows, IsTaken, IsNotTaken, HasTaken, HasTakenWord, HasEntered, HasLeft, IsListed, IsListEnd}
use Rattle.curly_grammar.specs.Reading.{ReadState, state, Run, Turn, silent, quiet, whole, TakesWord, TakesSemicolon, TakesOpenBrace, Leaves, TakesCloseBrace, TakesOpenBracket, and_then, turned}
use Rattle.curly_grammar.proofs.RunLemmas.{run_of}

-- a reader with another phase
abbrev pub in_phase : Reader → Phase → Reader
in_phase reader phase = record reader { phase = phase }

-- an answer to a word is followed
pub word_followed : (held new : Reader) (token : Lexed) (answer : Result Effect Stop) (result : Result (Unit {0}) Stop)
    → Answers (TakesWord held.phase held.here token) (why_no_word held.phase held.here token) answer → Follows held answer new result → HasTakenWord held token new result
word_followed held new token (Ok effect) (Ok done) h f = record { turn = turn_of effect; takes = h; made = f }
word_followed held new token (Ok effect) (Err (Refused reason)) h f = absurd f
word_followed held new token (Ok effect) (Err NoMemory) h f = tt
word_followed held new token (Err (Refused reason)) (Ok done) h f = absurd f
word_followed held new token (Err (Refused reason)) (Err (Refused told)) h f = record { why = f.0 ∙ h.0; never = h.1; same = f.1 }
word_followed held new token (Err (Refused reason)) (Err NoMemory) h f = tt
word_followed held new token (Err NoMemory) (Ok done) h f = absurd f
word_followed held new token (Err NoMemory) (Err (Refused told)) h f = absurd f
word_followed held new token (Err NoMemory) (Err NoMemory) h f = tt

-- the phase that was found is that of the reader
pub word_taken : (old new : Reader) (phase : Phase) (token : Lexed) (result : Result (Unit {0}) Stop) → old.phase ≡ phase → HasTakenWord (in_phase old phase) token new result
    → HasTakenWord old token new result
word_taken old new phase token result e h = subst (λ (p : Phase). HasTakenWord (in_phase old p) token new result) (sym e) h

-- nothing is said
nothing_said : (old : Reader) (phase : Phase) → run_in (in_phase old phase) ≡ and_then (run_in old) (turned (state_in old) (quiet phase))
nothing_said old phase =
    ap (λ (xs : List (Pair Value)). run_of (state_in (in_phase old phase)) xs old.tags.items) (sym (append-nil old.items.items))
    ∙ ap (λ (ts : List (List Step)). run_of (state_in (in_phase old phase)) (old.items.items ++ []) ts) (sym (append-nil old.tags.items))

-- a value is put into a list
pub value_listed : (old : Reader) (marks : Marks) (level : Level) (words new : List (List ℕ)) (token : Lexed) (result : Result (Unit {0}) Stop)
    → IsListed level words token.word new result
    → HasTakenWord (in_phase old (Listing marks level words)) token (in_phase old (Listing marks level new)) result
value_listed old marks level words new token (Ok done) h = record {
  turn = quiet (Listing marks level new);
  takes = record { word = h.0; spelled = h.1; makes = ap (λ (ws : List (List ℕ)). quiet (Listing marks level ws)) h.2 };
  made = nothing_said (in_phase old (Listing marks level words)) (Listing marks level new);
}
value_listed old marks level words new token (Err (Refused reason)) h = record {
  why = h.0;
  never = λ turn v. h.2 record { value = v.spelled.value; spells = v.spelled.spells };
  same = ap (λ (ws : List (List ℕ)). run_in (in_phase old (Listing marks level ws))) h.1;
}
value_listed old marks level words new token (Err NoMemory) h = tt

-- `;` after a step
pub semicolon_taken : (old : Reader) (level : Level) → old.phase ≡ After level → IsTaken old (lexed kind.Semicolon []) (in_phase old Between)
semicolon_taken old level e = record {
  one = turned (state_in old) (quiet Between);
  takes = subst (λ (p : Phase). TakesSemicolon p (state_in old) (turned (state_in old) (quiet Between))) (sym e) refl;
  made = nothing_said old Between;
}

-- a run that says nothing
silent_said : (run : Run) (s : ReadState) → record { state = s; items = run.items; tags = run.tags } ≡ and_then run (silent s)
silent_said run s =
    ap (λ (xs : List (Pair Value)). run_of s xs run.tags) (sym (append-nil run.items)) ∙ ap (λ (ts : List (List Step)). run_of s (run.items ++ []) ts) (sym (append-nil run.tags))

-- `{` after a level
pub open_taken : (old new : Reader) (level inside : Level) → old.phase ≡ After level → true ≡ is_open level → inside ≡ level → HasEntered old inside new
    → IsTaken old (lexed kind.OpenBrace []) new
open_taken old new level inside e opens same h =
    let one : Run = silent (state level (old.here ∷ reverse old.outer.items) Between)
    in record {
      one = silent (state level (old.here ∷ reverse old.outer.items) Between);
      takes = subst (λ (p : Phase). TakesOpenBrace p (state_in old) (silent (state level (old.here ∷ reverse old.outer.items) Between))) (sym e) (sym opens, refl);
      made =
          h
          ∙ ap (λ (l : Level). run_of (state l (old.here ∷ reverse old.outer.items) Between) old.items.items old.tags.items) same
          ∙ silent_said (run_in old) (state level (old.here ∷ reverse old.outer.items) Between);
    }

outer_is : (rest : List Level) (around : Level) (outer : List Level) → outer ≡ rest ++ around ∷ [] → reverse outer ≡ around ∷ reverse rest
outer_is rest around outer e = ap reverse e ∙ reverse-append rest (around ∷ [])

-- `}` between statements
pub close_taken : (old new : Reader) → old.phase ≡ Between → (result : Result (Unit {0}) Stop) → HasLeft old new result → HasTaken old (lexed kind.CloseBrace []) new result
close_taken old new e (Ok done) h =
    let run : Run = silent (state h.around (reverse h.rest) Between)
    in record {
      one = silent (state h.around (reverse h.rest) Between);
      takes =
          subst (λ (p : Phase). TakesCloseBrace p (state_in old) (silent (state h.around (reverse h.rest) Between))) (sym e)
          (subst (λ (ls : List Level). Leaves ls (silent (state h.around (reverse h.rest) Between))) (sym (outer_is h.rest h.around old.outer.items h.outer)) refl);
      made =
          h.left
          ∙ ap (λ (p : Phase). run_of (state h.around (reverse h.rest) p) old.items.items old.tags.items) e
          ∙ silent_said (run_in old) (state h.around (reverse h.rest) Between);
    }
close_taken old new e (Err (Refused reason)) h = record {
  why = h.0;
  never = λ one.
      subst (λ (p : Phase). TakesCloseBrace p (state_in old) one → ⊥) (sym e)
      (subst (λ (ls : List Level). Leaves ls one → ⊥) (sym (ap reverse h.1)) (λ t. t));
  same = h.2;
}
close_taken old new e (Err NoMemory) h = tt

no_brace : (phase : Phase) (s : ReadState) (run : Run) → (phase ≡ Between → ⊥) → TakesCloseBrace phase s run → ⊥
no_brace Between s run h t = h refl
no_brace (Marked marks) s run h t = t
no_brace (Naming marks at head) s run h t = t
no_brace (Valuing marks level) s run h t = t
no_brace (Listing marks level words) s run h t = t
no_brace (After level) s run h t = t

-- `}` where a statement has begun
pub brace_refused : (old : Reader) → (old.phase ≡ Between → ⊥) → IsNotTaken old (lexed kind.CloseBrace []) Unexpected old
brace_refused old h = record { why = refl; never = λ one taken. no_brace old.phase (state_in old) one h taken; same = refl }

-- `[` after the head of a statement with a list
pub list_taken : (old : Reader) (marks : Marks) (level copy : Level) (words : List (List ℕ)) → old.phase ≡ Valuing marks level → true ≡ is_many (row_of level.place.row).shape
    → copy ≡ level → words ≡ [] → IsTaken old (lexed kind.OpenBracket []) (in_phase old (Listing marks copy words))
list_taken old marks level copy words e many same none = record {
  one = turned (state_in old) (quiet (Listing marks level []));
  takes = subst (λ (p : Phase). TakesOpenBracket p (state_in old) (turned (state_in old) (quiet (Listing marks level [])))) (sym e) (sym many, refl);
  made =
      ap (λ (ws : List (List ℕ)). run_in (in_phase old (Listing marks copy ws))) none
      ∙ ap (λ (l : Level). run_in (in_phase old (Listing marks l []))) same
      ∙ nothing_said old (Listing marks level []);
}

-- `]` after the values of a list
pub list_ended : (old new : Reader) (marks : Marks) (level : Level) (words : List (List ℕ)) (answer : Result Effect Stop) (result : Result (Unit {0}) Stop)
    → old.phase ≡ Listing marks level words → Answers (IsListEnd marks level words) Unexpected answer → Follows old answer new result
    → HasTaken old (lexed kind.CloseBracket []) new result
list_ended old new marks level words answer result e h f =
    subst (λ (p : Phase). HasTaken (in_phase old p) (lexed kind.CloseBracket []) new result) (sym e)
    (followed answer result h (subst (λ (p : Phase). Follows (in_phase old p) answer new result) e f))
  where
    held : Reader
    held = in_phase old (Listing marks level words)

    followed : (a : Result Effect Stop) (r : Result (Unit {0}) Stop) → Answers (IsListEnd marks level words) Unexpected a
        → Follows (in_phase old (Listing marks level words)) a new r → HasTaken (in_phase old (Listing marks level words)) (lexed kind.CloseBracket []) new r
    followed (Ok effect) (Ok done) g t = record {
      one = turned (state_in (in_phase old (Listing marks level words))) (turn_of effect);
      takes = (g.0, ap (λ (turn : Turn). turned (state_in (in_phase old (Listing marks level words))) turn) g.1);
      made = t;
    }
    followed (Ok effect) (Err (Refused reason)) g t = absurd t
    followed (Ok effect) (Err NoMemory) g t = tt
    followed (Err (Refused reason)) (Ok done) g t = absurd t
    followed (Err (Refused reason)) (Err (Refused told)) g t = record {
      why = t.0 ∙ g.0;
      never = λ one taken. g.1 (whole marks level (joined [] words)) (taken.0, refl);
      same = t.1;
    }
    followed (Err (Refused reason)) (Err NoMemory) g t = tt
    followed (Err NoMemory) (Ok done) g t = absurd t
    followed (Err NoMemory) (Err (Refused told)) g t = absurd t
    followed (Err NoMemory) (Err NoMemory) g t = tt

-- a word, bare or in quotes
pub word_kind_taken : (k : TokenKind) (old new : Reader) (word : List ℕ) (result : Result (Unit {0}) Stop) → is_word_kind k ≡ true
    → HasTakenWord old (lexed k word) new result → HasTaken old (lexed k word) new result
word_kind_taken kind.Bare old new word (Ok done) e h = record { one = turned (state_in old) h.turn; takes = record { turn = h.turn; taken = h.takes; makes = refl }; made = h.made }
word_kind_taken kind.Quoted old new word (Ok done) e h = record { one = turned (state_in old) h.turn; takes = record { turn = h.turn; taken = h.takes; makes = refl }; made = h.made }
word_kind_taken kind.Bare old new word (Err (Refused reason)) e h = record { why = h.why; never = λ one t. h.never t.turn t.taken; same = h.same }
word_kind_taken kind.Quoted old new word (Err (Refused reason)) e h = record { why = h.why; never = λ one t. h.never t.turn t.taken; same = h.same }
word_kind_taken kind.Bare old new word (Err NoMemory) e h = tt
word_kind_taken kind.Quoted old new word (Err NoMemory) e h = tt
word_kind_taken kind.OpenBrace old new word result e h = absurd cc
word_kind_taken kind.CloseBrace old new word result e h = absurd cc
word_kind_taken kind.OpenBracket old new word result e h = absurd cc
word_kind_taken kind.CloseBracket old new word result e h = absurd cc
word_kind_taken kind.Semicolon old new word result e h = absurd cc

pub either_word : (k : TokenKind) → (k ≡ kind.Bare) ⊎ (k ≡ kind.Quoted) → is_word_kind k ≡ true
either_word k (inl e) = ap is_word_kind e
either_word k (inr e) = ap is_word_kind e
