-- Each text has a reading of few enough statements, or a leftmost fault, not both, and one of them.
use Rattle.std.proofs.Common.{◌≡◌, ◌≢◌, ℕ, zero, suc, ◌+◌, ◌<◌, ◌≤◌, ◌⊎◌, List, [], ◌∷◌, ◌++◌, length, map, take, drop, get_or, Some, None, refl, sym, ap, subst, ◌∙◌, inl, inr, append-nil, append_assoc, arith}
use Rattle.std.specs.Prelude.{slice_get}
use Rattle.std.proofs.lemmas.List.{take_more, take_all, take-append-drop, take-take, length-map}
use Rattle.std.proofs.lemmas.Option.{slice_get-get_or, slice_get_past}
use Rattle.cfg_base.specs.declared.path.Step.{Step}
use Rattle.cfg_base.specs.declared.value.Value.{Value}
use Rattle.cfg_entries.specs.EntryMap.{Pair}
use Rattle.cfg_lex.specs.declared.fault.LexFault.{LexFault}
use Rattle.cfg_lex.specs.declared.fault.LexFault.TheVariants as lexical
use Rattle.cfg_lex.specs.declared.token.Token.{Token}
use Rattle.cfg_lex.specs.declared.token.TokenKind.{TokenKind}
use Rattle.cfg_lex.specs.declared.token.TokenKind.TheVariants as kind
use Rattle.cfg_lex.specs.Lexed.{Lexed, lexed_in}
use Rattle.cfg_lex.specs.Tokens.{IsTokens, HasAnswer, capped}
use Rattle.cfg_lex.specs.Tokens as lex
use Rattle.cfg_lex.proofs.LexLemmas.{one_list}
use Rattle.cfg_lex.proofs.LexLemmas as lexed
use Rattle.cfg_lex.proofs.LexerLemmas.{answered}
use Rattle.cfg_tree.specs.declared.limit.TheConstants.{MAX_STATEMENTS}
use Rattle.cfg_tree.specs.Statements.{Statements, size_of}
use Rattle.cfg_tree.specs.Stated.{stated_from_none, different, paths_of}
use Rattle.cfg_tree.proofs.LimitLemmas.{different-append}
use Rattle.cfg_tree.proofs.StatedLemmas.{size-stated}
use Rattle.curly_grammar.specs.declared.fault.TextFault.{TextFault}
use Rattle.curly_grammar.specs.declared.fault.TextFault.TheVariants as fault
use Rattle.curly_grammar.specs.declared.fault.Why.{Why}
use Rattle.curly_grammar.specs.declared.fault.Why.TheVariants.{Unexpected, Unknown, BadValue}
use Rattle.curly_grammar.specs.declared.phase.Phase.{Phase}
use Rattle.curly_grammar.specs.declared.phase.Phase.TheVariants.{Between, Marked, Naming, Valuing, Listing, After}
use Rattle.curly_grammar.specs.Grammar.{sign, Level, Derives, Begins, Reads}
use Rattle.curly_grammar.specs.Reading.{ReadState, start, IsFinal, Run, silent, and_then, Turn, turned, begun_paths, IsValued, TakesWord, TakesSemicolon, TakesOpenBrace, TakesCloseBrace, TakesOpenBracket, TakesCloseBracket, TakesWordTo, TakesBy, Takes, Goes}
use Rattle.curly_grammar.specs.Fault.{why_not, paths_met, IsEndOfBeginning, byte_of, IsRefused, HasTooMany, of_lexical, of_reason, IsLeftmostFault}
use Rattle.curly_grammar.proofs.RunLemmas.{run_of, goes_join, goes_one, goes_once}
use Rattle.curly_grammar.proofs.GoesLemmas.{derived_goes}
use Rattle.curly_grammar.proofs.LeftLemmas.{goes_derived}
use Rattle.curly_grammar.proofs.EndLemmas.{are_lexed, all_front, begins_run, run_front, end_of_beginning, not_behind, place_once}

-- what is met before a token is met after it too, and then perhaps more
abbrev MeetsMore : List (List Step) → List (List Step) → Type 0
MeetsMore before met = (more : List (List Step)) × (met ≡ before ++ more)

valued_meets : (level : Level) (bytes : List ℕ) (make : List ℕ → Turn) (turn : Turn) → IsValued level bytes make turn
    → ((word : List ℕ) → MeetsMore (level.path ∷ []) (paths_of (make word).items ++ begun_paths (make word).phase))
    → MeetsMore (level.path ∷ []) (paths_of turn.items ++ begun_paths turn.phase)
valued_meets level bytes make turn h each =
    subst (λ (t : Turn). MeetsMore (level.path ∷ []) (paths_of t.items ++ begun_paths t.phase)) (sym h.makes) (each h.word)

word_meets : (phase : Phase) (here : Level) (token : Lexed) (turn : Turn) → TakesWord phase here token turn → MeetsMore (begun_paths phase) (paths_of turn.items ++ begun_paths turn.phase)
word_meets Between here token turn h = (paths_of turn.items ++ begun_paths turn.phase, refl)
word_meets (Marked marks) here token turn h = (paths_of turn.items ++ begun_paths turn.phase, refl)
word_meets (Naming marks at head) here token turn h = (paths_of turn.items ++ begun_paths turn.phase, refl)
word_meets (Valuing marks level) here token turn h = valued_meets level token.word _ turn h (λ word. ([], refl))
word_meets (Listing marks level words) here token turn h = valued_meets level token.word _ turn h (λ word. ([], refl))
word_meets (After level) here token turn h = (paths_of turn.items ++ begun_paths turn.phase, refl)

module _ (s : ReadState) (run : Run) where
  run_meets : (two : Run) → run ≡ two → MeetsMore (begun_paths s.phase) (paths_met two) → MeetsMore (begun_paths s.phase) (paths_met run)
  run_meets two e h = subst (λ (r : Run). MeetsMore (begun_paths s.phase) (paths_met r)) (sym e) h

  semicolon_meets : (phase : Phase) → TakesSemicolon phase s run → MeetsMore (begun_paths phase) (paths_met run)
  semicolon_meets (After level) h = (paths_met run, refl)
  semicolon_meets Between h = absurd h
  semicolon_meets (Marked marks) h = absurd h
  semicolon_meets (Naming marks at head) h = absurd h
  semicolon_meets (Valuing marks level) h = absurd h
  semicolon_meets (Listing marks level words) h = absurd h

  open_meets : (phase : Phase) → TakesOpenBrace phase s run → MeetsMore (begun_paths phase) (paths_met run)
  open_meets (After level) h = (paths_met run, refl)
  open_meets Between h = absurd h
  open_meets (Marked marks) h = absurd h
  open_meets (Naming marks at head) h = absurd h
  open_meets (Valuing marks level) h = absurd h
  open_meets (Listing marks level words) h = absurd h

  close_meets : (phase : Phase) → TakesCloseBrace phase s run → MeetsMore (begun_paths phase) (paths_met run)
  close_meets Between h = (paths_met run, refl)
  close_meets (Marked marks) h = absurd h
  close_meets (Naming marks at head) h = absurd h
  close_meets (Valuing marks level) h = absurd h
  close_meets (Listing marks level words) h = absurd h
  close_meets (After level) h = absurd h

  list_meets : (phase : Phase) → TakesOpenBracket phase s run → MeetsMore (begun_paths phase) (paths_met run)
  list_meets (Valuing marks level) h = subst (λ (r : Run). MeetsMore (level.path ∷ []) (paths_met r)) (sym h.1) ([], refl)
  list_meets Between h = absurd h
  list_meets (Marked marks) h = absurd h
  list_meets (Naming marks at head) h = absurd h
  list_meets (Listing marks level words) h = absurd h
  list_meets (After level) h = absurd h

  end_list_meets : (phase : Phase) → TakesCloseBracket phase s run → MeetsMore (begun_paths phase) (paths_met run)
  end_list_meets (Listing marks level words) h = subst (λ (r : Run). MeetsMore (level.path ∷ []) (paths_met r)) (sym h.1) ([], refl)
  end_list_meets Between h = absurd h
  end_list_meets (Marked marks) h = absurd h
  end_list_meets (Naming marks at head) h = absurd h
  end_list_meets (Valuing marks level) h = absurd h
  end_list_meets (After level) h = absurd h

  word_to_meets : (token : Lexed) → TakesWordTo s token run → MeetsMore (begun_paths s.phase) (paths_met run)
  word_to_meets token h = run_meets (turned s h.turn) h.makes (word_meets s.phase s.here token h.turn h.taken)

  by_kind_meets : (k : TokenKind) (token : Lexed) → TakesBy k s token run → MeetsMore (begun_paths s.phase) (paths_met run)
  by_kind_meets kind.Semicolon token h = semicolon_meets s.phase h
  by_kind_meets kind.OpenBrace token h = open_meets s.phase h
  by_kind_meets kind.CloseBrace token h = close_meets s.phase h
  by_kind_meets kind.OpenBracket token h = list_meets s.phase h
  by_kind_meets kind.CloseBracket token h = end_list_meets s.phase h
  by_kind_meets kind.Bare token h = word_to_meets token h
  by_kind_meets kind.Quoted token h = word_to_meets token h

paths-append : (xs ys : List (Pair Value)) → paths_of (xs ++ ys) ≡ paths_of xs ++ paths_of ys
paths-append [] ys = refl
paths-append (x ∷ xs) ys = ap (λ (ps : List (List Step)). x.0 ∷ ps) (paths-append xs ys)

goes_meets : (tokens : List Lexed) (s : ReadState) (run : Run) → Goes s tokens run → MeetsMore (begun_paths s.phase) (paths_met run)
goes_meets [] s run h = ([], ap paths_met h ∙ sym (append-nil (begun_paths s.phase)))
goes_meets (token ∷ tokens) s run h =
    let one = by_kind_meets s h.0 token.kind token h.2
    in let more = goes_meets tokens h.0.state h.1 h.3
    in (
      one.0 ++ more.0,
      ap paths_met h.4
          ∙ ap (λ (ps : List (List Step)). ps ++ begun_paths h.1.state.phase) (paths-append h.0.items h.1.items)
          ∙ append_assoc (paths_of h.0.items) (paths_of h.1.items) (begun_paths h.1.state.phase)
          ∙ ap (λ (ps : List (List Step)). paths_of h.0.items ++ ps) more.1
          ∙ sym (append_assoc (paths_of h.0.items) (begun_paths h.0.state.phase) more.0)
          ∙ ap (λ (ps : List (List Step)). ps ++ more.0) one.1
          ∙ append_assoc (begun_paths s.phase) one.0 more.0,
    )

-- a longer run meets what a shorter one has met
then_meets : (one more : Run) (tokens : List Lexed) → Goes one.state tokens more → MeetsMore (paths_met one) (paths_met (and_then one more))
then_meets one more tokens goes =
    let next = goes_meets tokens one.state more goes
    in (
      next.0,
      ap (λ (ps : List (List Step)). ps ++ begun_paths more.state.phase) (paths-append one.items more.items)
          ∙ append_assoc (paths_of one.items) (paths_of more.items) (begun_paths more.state.phase)
          ∙ ap (λ (ps : List (List Step)). paths_of one.items ++ ps) next.1
          ∙ sym (append_assoc (paths_of one.items) (begun_paths one.state.phase) next.0),
    )

-- and has as many different paths or more
meets_more : (tokens : List Lexed) (m n : ℕ) (one two : Run) → m ≤ n → Goes start (take m tokens) one → Goes start (take n tokens) two → different (paths_met one) ≤ different (paths_met two)
meets_more tokens m n one two l goes both =
    let parted : take n tokens ≡ take m tokens ++ drop m (take n tokens) =
    sym (take-append-drop m (take n tokens)) ∙ ap (λ (ts : List Lexed). ts ++ drop m (take n tokens)) (take-take m n tokens l)
    in let more = run_front (take m tokens) (drop m (take n tokens)) one two goes (subst (λ (ts : List Lexed). Goes start ts two) parted both)
    in let met = then_meets one more.0 (drop m (take n tokens)) more.1
    in subst (λ (ps : List (List Step)). different (paths_met one) ≤ different ps) (sym (ap paths_met more.2 ∙ met.1)) (different-append (paths_met one) met.0)

some_same : {A : Type 0} (x y : A) → Some x ≡ Some y → x ≡ y
some_same x y e = cc

module _ (text : List ℕ) where
  abbrev tokens_of : List Token → List Lexed
  tokens_of tokens = map (lexed_in text) tokens

  -- one reading
  pub one_reading : (m n : Statements) (tags others : List (List Step)) → Reads text m tags → Reads text n others → (m ≡ n) × (tags ≡ others)
  one_reading m n tags others a b =
      let same = one_list text b.tokens a.tokens b.are_tokens a.are_tokens
      in let other : Derives (tokens_of a.tokens) b.items others = subst (λ (ts : List Token). Derives (tokens_of ts) b.items others) same b.derives
      in let run = goes_once (tokens_of a.tokens) start (run_of start a.items tags) (run_of start b.items others) (derived_goes _ a.items tags a.derives) (derived_goes _ b.items others other)
      in (a.joins ∙ ap (λ (r : Run). stated_from_none r.items) run ∙ sym b.joins, ap (λ (r : Run). r.tags) run)

  -- one refusal
  one_refusal : (why other : Why) (byte place : ℕ) → IsRefused text why byte → IsRefused text other place → (why ≡ other) × (byte ≡ place)
  one_refusal why other byte place a b =
      let tokens = one_list text b.tokens a.tokens b.are_tokens a.are_tokens
      in let ends : IsEndOfBeginning (tokens_of a.tokens) b.at = subst (λ (ts : List Token). IsEndOfBeginning (tokens_of ts) b.at) tokens b.ends
      in let at = place_once (tokens_of a.tokens) b.at a.at ends a.ends
      in let goes : Goes start (take a.at (tokens_of a.tokens)) b.run =
      subst (λ (k : ℕ). Goes start (take k (tokens_of a.tokens)) b.run) at (subst (λ (ts : List Token). Goes start (take b.at (tokens_of ts)) b.run) tokens b.read)
      in let run = goes_once (take a.at (tokens_of a.tokens)) start b.run a.run goes a.read
      in (
        sym (b.why_is
            ∙ ap (λ (ts : List Token). why_not b.run.state (slice_get (tokens_of ts) b.at)) tokens
            ∙ ap (λ (k : ℕ). why_not b.run.state (slice_get (tokens_of a.tokens) k)) at
            ∙ ap (λ (r : Run). why_not r.state (slice_get (tokens_of a.tokens) a.at)) run
            ∙ sym a.why_is),
        sym (b.byte_is
            ∙ ap (λ (ts : List Token). capped (byte_of text (slice_get ts b.at))) tokens
            ∙ ap (λ (k : ℕ). capped (byte_of text (slice_get a.tokens k))) at
            ∙ sym a.byte_is),
      )

  -- a text that is read isn't refused
  read_or_refused : (m : Statements) (tags : List (List Step)) (why : Why) (byte : ℕ) → Reads text m tags → IsRefused text why byte → ⊥
  read_or_refused m tags why byte a b =
      let tokens = one_list text a.tokens b.tokens a.are_tokens b.are_tokens
      in let derives : Derives (tokens_of b.tokens) a.items tags = subst (λ (ts : List Token). Derives (tokens_of ts) a.items tags) tokens a.derives
      in let all : take (length (tokens_of b.tokens)) (tokens_of b.tokens) ≡ tokens_of b.tokens = take_all (length (tokens_of b.tokens)) (tokens_of b.tokens) (omega arith)
      in let begins : Begins (take (length (tokens_of b.tokens)) (tokens_of b.tokens)) =
      subst (λ (ts : List Lexed). Begins ts) (sym all)
      record { more = []; items = a.items; tags = tags; derives = subst (λ (ts : List Lexed). Derives ts a.items tags) (sym (append-nil (tokens_of b.tokens))) derives }
      in let not_less : b.at < length (tokens_of b.tokens) → ⊥ = not_behind (tokens_of b.tokens) b.at (length (tokens_of b.tokens)) b.ends (omega arith) begins
      in let within = b.ends.within
      in b.ends.no_end (omega (arith, within, not_less)) a.items tags derives

  -- nor has it too many statements, where it is read as few enough
  read_or_many : (m : Statements) (tags : List (List Step)) → Reads text m tags → size_of m ≤ MAX_STATEMENTS → HasTooMany text → ⊥
  read_or_many m tags a few b =
      let tokens = one_list text a.tokens b.tokens a.are_tokens b.are_tokens
      in let derives : Derives (tokens_of b.tokens) a.items tags = subst (λ (ts : List Token). Derives (tokens_of ts) a.items tags) tokens a.derives
      in let count = length (tokens_of b.tokens)
      in let goes : Goes start (take (length (tokens_of b.tokens)) (tokens_of b.tokens)) (run_of start a.items tags) =
      subst (λ (ts : List Lexed). Goes start ts (run_of start a.items tags)) (sym (take_all count (tokens_of b.tokens) (omega arith))) (derived_goes (tokens_of b.tokens) a.items tags derives)
      in let within = b.within
      in let fewer = meets_more (tokens_of b.tokens) b.at count b.run (run_of start a.items tags) (omega (arith, length-map b.tokens (lexed_in text), within)) b.read goes
      in let size : size_of m ≡ different (paths_of a.items ++ []) =
      ap size_of a.joins ∙ size-stated a.items ∙ ap different (sym (append-nil (paths_of a.items)))
      in let many = b.many
      in omega (arith, fewer, many, size, few)

  -- nor where it is refused
  refused_or_many : (why : Why) (byte : ℕ) → IsRefused text why byte → HasTooMany text → ⊥
  refused_or_many why byte a b =
      let tokens = one_list text b.tokens a.tokens b.are_tokens a.are_tokens
      in let goes : Goes start (take b.at (tokens_of a.tokens)) b.run = subst (λ (ts : List Token). Goes start (take b.at (tokens_of ts)) b.run) tokens b.read
      in let within : b.at ≤ length (tokens_of a.tokens) =
      let inside = b.within in let same = ap (λ (ts : List Token). length ts) tokens in omega (arith, inside, same, length-map a.tokens (lexed_in text))
      in let begins = begins_run (take b.at (tokens_of a.tokens)) b.run (all_front b.at (tokens_of a.tokens) (are_lexed text a.tokens)) goes
      in let not_less : a.at < b.at → ⊥ = not_behind (tokens_of a.tokens) a.at b.at a.ends within begins
      in let fewer = meets_more (tokens_of a.tokens) b.at a.at b.run a.run (omega (arith, not_less)) goes a.read
      in let few = a.few
      in let many = b.many
      in omega (arith, fewer, few, many)

  -- a fault is one of three
  record Lexical (f : TextFault) : Type 0 where
    cause : LexFault
    leftmost : lex.IsLeftmostFault text cause
    told : f ≡ of_lexical cause

  record Refused (f : TextFault) : Type 0 where
    why : Why
    byte : ℕ
    refused : IsRefused text why byte
    told : f ≡ of_reason why byte

  record Many (f : TextFault) : Type 0 where
    many : HasTooMany text
    told : f ≡ fault.TooMany

  abbrev Sort : TextFault → Type 0
  Sort f = Lexical f ⊎ (Refused f ⊎ Many f)

  sort : (f : TextFault) → IsLeftmostFault text f → Sort f
  sort (fault.BadByte byte) h = inl record { cause = lexical.BadByte byte; leftmost = h; told = refl }
  sort (fault.OpenComment byte) h = inl record { cause = lexical.OpenComment byte; leftmost = h; told = refl }
  sort (fault.OpenQuote byte) h = inl record { cause = lexical.OpenQuote byte; leftmost = h; told = refl }
  sort (fault.LongWord byte) h = inl record { cause = lexical.LongWord byte; leftmost = h; told = refl }
  sort (fault.Unexpected byte) h = inr (inl record { why = Unexpected; byte = byte; refused = h; told = refl })
  sort (fault.Unknown byte) h = inr (inl record { why = Unknown; byte = byte; refused = h; told = refl })
  sort (fault.BadValue byte) h = inr (inl record { why = BadValue; byte = byte; refused = h; told = refl })
  sort fault.TooMany h = inr (inr record { many = h; told = refl })
  sort fault.NoMemory h = absurd h

  sorted_once : (f g : TextFault) → Sort f → Sort g → f ≡ g
  sorted_once f g (inl a) (inl b) = a.told ∙ ap of_lexical (lexed.one_fault text a.cause b.cause a.leftmost b.leftmost) ∙ sym b.told
  sorted_once f g (inl a) (inr (inl b)) = absurd (lexed.not_both text b.refused.tokens a.cause b.refused.are_tokens a.leftmost)
  sorted_once f g (inl a) (inr (inr b)) = absurd (lexed.not_both text b.many.tokens a.cause b.many.are_tokens a.leftmost)
  sorted_once f g (inr (inl a)) (inl b) = absurd (lexed.not_both text a.refused.tokens b.cause a.refused.are_tokens b.leftmost)
  sorted_once f g (inr (inl a)) (inr (inl b)) =
      let same = one_refusal a.why b.why a.byte b.byte a.refused b.refused
      in a.told ∙ ap (λ (w : Why). of_reason w a.byte) same.0 ∙ ap (λ (k : ℕ). of_reason b.why k) same.1 ∙ sym b.told
  sorted_once f g (inr (inl a)) (inr (inr b)) = absurd (refused_or_many a.why a.byte a.refused b.many)
  sorted_once f g (inr (inr a)) (inl b) = absurd (lexed.not_both text a.many.tokens b.cause a.many.are_tokens b.leftmost)
  sorted_once f g (inr (inr a)) (inr (inl b)) = absurd (refused_or_many b.why b.byte b.refused a.many)
  sorted_once f g (inr (inr a)) (inr (inr b)) = a.told ∙ sym b.told

  -- one fault
  pub one_fault : (f g : TextFault) → IsLeftmostFault text f → IsLeftmostFault text g → f ≡ g
  one_fault f g a b = sorted_once f g (sort f a) (sort g b)

  -- and none where the text is read as few enough statements
  pub not_both : (m : Statements) (tags : List (List Step)) (f : TextFault) → Reads text m tags → size_of m ≤ MAX_STATEMENTS → IsLeftmostFault text f → ⊥
  not_both m tags f a few b = by_sort (sort f b)
    where
      by_sort : Sort f → ⊥
      by_sort (inl h) = lexed.not_both text a.tokens h.cause a.are_tokens h.leftmost
      by_sort (inr (inl h)) = read_or_refused m tags h.why h.byte a h.refused
      by_sort (inr (inr h)) = read_or_many m tags a few h.many

  pub lexical_fault : (cause : LexFault) → cause ≢ lexical.NoMemory → lex.IsLeftmostFault text cause → IsLeftmostFault text (of_lexical cause)
  lexical_fault (lexical.BadByte byte) ne h = h
  lexical_fault (lexical.OpenComment byte) ne h = h
  lexical_fault (lexical.OpenQuote byte) ne h = h
  lexical_fault (lexical.LongWord byte) ne h = h
  lexical_fault lexical.NoMemory ne h = absurd (ne refl)

  pub refused_fault : (why : Why) (byte : ℕ) → IsRefused text why byte → IsLeftmostFault text (of_reason why byte)
  refused_fault Unexpected byte h = h
  refused_fault Unknown byte h = h
  refused_fault BadValue byte h = h

  module _ (unread : (m : Statements) (tags : List (List Step)) → Reads text m tags → size_of m ≤ MAX_STATEMENTS → ⊥)
      (faultless : (f : TextFault) → IsLeftmostFault text f → ⊥) (tokens : List Token) (are : IsTokens text tokens) where
    -- a run whose statements are few, since there are not too many
    few_met : (at : ℕ) (run : Run) → at ≤ length tokens → Goes start (take at (tokens_of tokens)) run → different (paths_met run) ≤ MAX_STATEMENTS
    few_met at run within goes =
        let none : MAX_STATEMENTS < different (paths_met run) → ⊥ =
        λ many. faultless fault.TooMany record { tokens = tokens; are_tokens = are; at = at; within = within; run = run; read = goes; many = many }
        in omega (arith, none)

    -- a run ends neither where a text is whole nor where it is refused
    unrefused : (at : ℕ) (run : Run) → at ≤ length tokens → Goes start (take at (tokens_of tokens)) run
        → ((token : Lexed) → slice_get (tokens_of tokens) at ≡ Some token → (one : Run) → Takes run.state token one → ⊥)
        → (slice_get (tokens_of tokens) at ≡ None → IsFinal run.state → ⊥) → ⊥
    unrefused at run within goes not_taken not_final =
        let why = why_not run.state (slice_get (tokens_of tokens) at)
        in let byte = capped (byte_of text (slice_get tokens at))
        in faultless (of_reason why byte) (refused_fault why byte record {
          tokens = tokens;
          are_tokens = are;
          at = at;
          ends = end_of_beginning (tokens_of tokens) at run (are_lexed text tokens) (omega (arith, within, length-map tokens (lexed_in text))) goes not_taken not_final;
          run = run;
          read = goes;
          few = few_met at run within goes;
          why_is = refl;
          byte_is = refl;
        })

    not_whole : (run : Run) → Goes start (tokens_of tokens) run → IsFinal run.state → ⊥
    not_whole run goes final =
        let all : take (length tokens) (tokens_of tokens) ≡ tokens_of tokens = take_all (length tokens) (tokens_of tokens) (omega (arith, length-map tokens (lexed_in text)))
        in let few = few_met (length tokens) run (omega arith) (subst (λ (ts : List Lexed). Goes start ts run) (sym all) goes)
        in let front = different-append (paths_of run.items) (begun_paths run.state.phase)
        in let size = size-stated run.items
        in unread (stated_from_none run.items) run.tags record {
          tokens = tokens;
          are_tokens = are;
          items = run.items;
          derives = goes_derived (tokens_of tokens) run (are_lexed text tokens) goes final;
          joins = refl;
        } (omega (arith, few, front, size))

    -- so there is none at all
    no_run : (left at : ℕ) (run : Run) → at + left ≡ length tokens → Goes start (take at (tokens_of tokens)) run → ⊥
    no_run zero at run e goes =
        let past : length (tokens_of tokens) ≤ at = omega (arith, e, length-map tokens (lexed_in text))
        in unrefused at run (omega (arith, e)) goes
        (λ token there one taken. let h = sym there ∙ slice_get_past (tokens_of tokens) at past in cc)
        (λ none final. not_whole run (subst (λ (ts : List Lexed). Goes start ts run) (take_all at (tokens_of tokens) past) goes) final)
    no_run (suc left) at run e goes =
        let below : at < length (tokens_of tokens) = omega (arith, e, length-map tokens (lexed_in text))
        in let there = slice_get-get_or (tokens_of tokens) at (sign kind.Semicolon) below
        in unrefused at run (omega (arith, e)) goes
        (λ token found one taken.
        let same : get_or (tokens_of tokens) at (sign kind.Semicolon) ≡ token = some_same _ _ (sym there ∙ found)
        in let more : Goes start (take (at + 1) (tokens_of tokens)) (and_then run one) =
        subst (λ (ts : List Lexed). Goes start ts (and_then run one)) (sym (take_more (tokens_of tokens) at (sign kind.Semicolon) below ∙ ap (λ (t : Lexed). take at (tokens_of tokens) ++ t ∷ []) same))
        (goes_join (take at (tokens_of tokens)) (token ∷ []) start run one goes (goes_one run.state token one taken))
        in no_run left (at + 1) (and_then run one) (omega (arith, e)) more)
        (λ none final. let h = sym there ∙ none in cc)

  -- one of them there is
  pub one_answer : ((m : Statements) (tags : List (List Step)) → Reads text m tags → size_of m ≤ MAX_STATEMENTS → ⊥)
      → ((f : TextFault) → IsLeftmostFault text f → ⊥) → ⊥
  one_answer unread faultless = by_answer (answered text)
    where
      by_answer : HasAnswer text → ⊥
      by_answer (inl h) = no_run unread faultless h.0 h.1 (length h.0) 0 (silent start) (omega arith) refl
      by_answer (inr h) = faultless (of_lexical h.0) (lexical_fault h.0 (λ e. lexed.no_memory text (subst (λ (c : LexFault). lex.IsLeftmostFault text c) e h.1)) h.1)
