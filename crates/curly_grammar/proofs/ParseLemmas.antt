-- What is read of the tokens of a text is what it says, or its leftmost fault.
use Rattle.std.proofs.Common.{◌≡◌, ◌≢◌, ℕ, ◌+◌, ◌<◌, ◌≤◌, List, [], ◌∷◌, ◌++◌, length, map, take, get_or, Option, Some, None, is_some, Result, Ok, Err, refl, sym, ap, subst, ◌∙◌, inl, inr, arith}
use Rattle.std.specs.Prelude.{slice_get, Decides, MatchOption}
use Rattle.std.specs.FinMap as finite
use Rattle.std.proofs.lemmas.List.{take_more, take_all, length-map, get_or-map}
use Rattle.std.proofs.lemmas.Option.{slice_get-get_or, slice_get_past}
use Rattle.cfg_base.specs.declared.path.Step.{Step}
use Rattle.cfg_lex.specs.declared.token.Token.{Token}
use Rattle.cfg_lex.specs.declared.token.TokenKind.TheVariants as kind
use Rattle.cfg_lex.specs.Lexed.{Lexed, lexed_in}
use Rattle.cfg_lex.specs.Tokens.{IsTokens, capped}
use Rattle.cfg_tree.specs.declared.limit.TheConstants.{MAX_STATEMENTS}
use Rattle.cfg_tree.specs.Statements.{Statements, size_of}
use Rattle.cfg_tree.specs.Stated.{AreSaid, different, paths_of, IsPathPast}
use Rattle.cfg_tree.proofs.LimitLemmas.{different-append, past_many}
use Rattle.cfg_tree.proofs.StatedLemmas.{size-stated}
use Rattle.curly_grammar.specs.declared.end.End.{End}
use Rattle.curly_grammar.specs.declared.fault.TextFault.{TextFault}
use Rattle.curly_grammar.specs.declared.fault.TextFault.TheVariants as fault
use Rattle.curly_grammar.specs.declared.fault.Why.{Why}
use Rattle.curly_grammar.specs.declared.fault.Why.TheVariants.{Unexpected}
use Rattle.curly_grammar.specs.declared.marked.Marked.{Marked}
use Rattle.curly_grammar.specs.declared.phase.Phase.{Phase}
use Rattle.curly_grammar.specs.declared.phase.Phase.TheVariants as phase
use Rattle.curly_grammar.specs.declared.reader.Reader.{Reader}
use Rattle.curly_grammar.specs.Fault.{why_not, paths_met, byte_of, IsLeftmostFault}
use Rattle.curly_grammar.specs.Grammar.{Level, sign, Derives}
use Rattle.curly_grammar.specs.Held.{run_in, state_in, IsTaken, IsPlacedPhase, IsPlacedReader}
use Rattle.curly_grammar.specs.Parsed.{IsEndAt, IsRead, IsRefusal, Makes, Parses}
use Rattle.curly_grammar.specs.Reading.{start, IsFinal, Run, begun_paths, Takes, Goes}
use Rattle.curly_grammar.proofs.RunLemmas.{goes_join, goes_one}
use Rattle.curly_grammar.proofs.LeftLemmas.{goes_derived}
use Rattle.curly_grammar.proofs.StandingLemmas.{IsSoundPhase, read_sound}
use Rattle.curly_grammar.proofs.EndLemmas.{are_lexed, end_of_beginning}
use Rattle.curly_grammar.proofs.AnswerLemmas.{refused_fault}

-- the paths are past the limit of a tree, or not
pub past_decides : (paths : List (List Step)) (o : Option ℕ) → MatchOption o (different paths ≤ MAX_STATEMENTS) (IsPathPast paths) → Decides (is_some o) (MAX_STATEMENTS < different paths)
past_decides paths None h = (λ e. cc, λ many. absurd (omega (arith, h, many)))
past_decides paths (Some at) h = (λ e. past_many paths at h, λ many. refl)

placed_phase : (m : Statements) (phase : Phase) (here : Level) → IsSoundPhase m phase here → IsPlacedPhase phase
placed_phase m phase.Between here h = tt
placed_phase m (phase.Marked marks) here h = tt
placed_phase m (phase.Naming marks at head) here h = h.stands.led.placed
placed_phase m (phase.Valuing marks level) here h = tt
placed_phase m (phase.Listing marks level words) here h = tt
placed_phase m (phase.After level) here h = h.led.placed

-- the levels of a reader are placed
pub reader_placed : (tokens : List Lexed) (reader : Reader) → Goes start tokens (run_in reader) → IsPlacedReader reader
reader_placed tokens reader h =
    let sound = read_sound tokens (run_in reader) h
    in record { here = sound.state.here.led.placed; phase = placed_phase _ reader.phase reader.here sound.state.phase }

-- one token more
pub read_more : (text : List ℕ) (tokens : List Token) (at : ℕ) (d : Token) (old new : Reader) → at < length tokens → Goes start (take at (map (lexed_in text) tokens)) (run_in old)
    → IsTaken old (lexed_in text (get_or tokens at d)) new → Goes start (take (at + 1) (map (lexed_in text) tokens)) (run_in new)
read_more text tokens at d old new below goes taken =
    let token : Lexed = lexed_in text (get_or tokens at d)
    in let longer : take (at + 1) (map (lexed_in text) tokens) ≡ take at (map (lexed_in text) tokens) ++ token ∷ [] =
    take_more (map (lexed_in text) tokens) at token (omega (arith, below, length-map tokens (lexed_in text)))
    ∙ ap (λ (t : Lexed). take at (map (lexed_in text) tokens) ++ t ∷ []) (get_or-map (lexed_in text) tokens at d (lexed_in text (get_or tokens at d)) below)
    in subst (λ (ts : List Lexed). Goes start ts (run_in new)) (sym longer)
    (subst (λ (r : Run). Goes start (take at (map (lexed_in text) tokens) ++ lexed_in text (get_or tokens at d) ∷ []) r) (sym taken.made)
    (goes_join (take at (map (lexed_in text) tokens)) (token ∷ []) start (run_in old) taken.one goes (goes_one (state_in old) token taken.one taken.takes)))

-- the tokens are all of them
pub read_whole : (tokens : List Lexed) (at : ℕ) (run : Run) → length tokens ≤ at → Goes start (take at tokens) run → Goes start tokens run
read_whole tokens at run past h = subst (λ (ts : List Lexed). Goes start ts run) (take_all at tokens past) h

-- what is read may be said
pub read_said : (tokens : List Lexed) (run : Run) → Goes start tokens run → AreSaid finite.empty run.items
read_said tokens run h = (read_sound tokens run h).said

module _ (text : List ℕ) (tokens : List Token) (are : IsTokens text tokens) where
  -- a text that isn't read
  pub refused_parse : (at : ℕ) (run : Run) (why : Why) (byte : ℕ) (told : TextFault) → at ≤ length tokens → Goes start (take at (map (lexed_in text) tokens)) run
      → ((token : Lexed) → slice_get (map (lexed_in text) tokens) at ≡ Some token → (one : Run) → Takes run.state token one → ⊥)
      → (slice_get (map (lexed_in text) tokens) at ≡ None → IsFinal run.state → ⊥)
      → why ≡ why_not run.state (slice_get (map (lexed_in text) tokens) at) → byte ≡ byte_of text (slice_get tokens at)
      → IsRefusal (paths_met run) why byte told → told ≢ fault.NoMemory → IsLeftmostFault text told
  refused_parse at run why byte told within goes not_taken not_final why_is byte_is (inl e) ne = absurd (ne e)
  refused_parse at run why byte told within goes not_taken not_final why_is byte_is (inr (inl many)) ne =
      subst (λ (f : TextFault). IsLeftmostFault text f) (sym many.1)
      record { tokens = tokens; are_tokens = are; at = at; within = within; run = run; read = goes; many = many.0 }
  refused_parse at run why byte told within goes not_taken not_final why_is byte_is (inr (inr few)) ne =
      subst (λ (f : TextFault). IsLeftmostFault text f) (sym few.1)
      (refused_fault text why (capped byte) record {
        tokens = tokens;
        are_tokens = are;
        at = at;
        ends = end_of_beginning (map (lexed_in text) tokens) at run (are_lexed text tokens) (omega (arith, within, length-map tokens (lexed_in text))) goes not_taken not_final;
        run = run;
        read = goes;
        few = few.0;
        why_is = why_is;
        byte_is = ap (λ (k : ℕ). capped k) byte_is;
      })

  -- a text that is whole
  pub whole_parse : (run : Run) (result : Result Marked TextFault) → Goes start (map (lexed_in text) tokens) run → IsFinal run.state → Makes run result → Parses text result
  whole_parse run (Ok marked) goes final made = record {
    reads = record {
      tokens = tokens;
      are_tokens = are;
      items = run.items;
      derives = subst (λ (ts : List (List Step)). Derives (map (lexed_in text) tokens) run.items ts) (sym made.tags) (goes_derived (map (lexed_in text) tokens) run (are_lexed text tokens) goes final);
      joins = made.tree;
    };
    few = let size = ap size_of made.tree ∙ size-stated run.items in let few = made.few in omega (arith, size, few);
  }
  whole_parse run (Err told) goes final (inl e) = λ ne. absurd (ne e)
  whole_parse run (Err told) goes final (inr many) = λ ne.
      subst (λ (f : TextFault). IsLeftmostFault text f) (sym many.1) record {
        tokens = tokens;
        are_tokens = are;
        at = length tokens;
        within = omega arith;
        run = run;
        read = subst (λ (ts : List Lexed). Goes start ts run) (sym (take_all (length tokens) (map (lexed_in text) tokens) (omega (arith, length-map tokens (lexed_in text))))) goes;
        many = let more = different-append (paths_of run.items) (begun_paths run.state.phase) in let past = many.0 in omega (arith, more, past);
      }

  -- a token that isn't taken
  pub some_parse : (end : Option End) (last : End) (run : Run) (byte : ℕ) (told : TextFault) → end ≡ Some last → IsRead (map (lexed_in text) tokens) end run
      → byte ≡ byte_of text (slice_get tokens last.at) → IsRefusal (paths_met run) last.why byte told → told ≢ fault.NoMemory → IsLeftmostFault text told
  some_parse end last run byte told is h byte_is refusal =
      let read : IsEndAt (map (lexed_in text) tokens) last run = subst (λ (o : Option End). IsRead (map (lexed_in text) tokens) o run) is h
      in let within = read.within
      in let there = slice_get-get_or (map (lexed_in text) tokens) last.at (sign kind.Semicolon) within
      in refused_parse last.at run last.why byte told (omega (arith, within, length-map tokens (lexed_in text))) read.read read.never
      (λ none final. let both = sym there ∙ none in cc) read.why byte_is refusal

  -- the end of a text that isn't whole
  pub none_parse : (run : Run) (told : TextFault) → Goes start (map (lexed_in text) tokens) run → (IsFinal run.state → ⊥)
      → IsRefusal (paths_met run) Unexpected (length text) told → told ≢ fault.NoMemory → IsLeftmostFault text told
  none_parse run told goes not_final refusal =
      let count = length-map tokens (lexed_in text)
      in let past : slice_get (map (lexed_in text) tokens) (length tokens) ≡ None = slice_get_past (map (lexed_in text) tokens) (length tokens) (omega (arith, count))
      in refused_parse (length tokens) run Unexpected (length text) told (omega arith)
      (subst (λ (ts : List Lexed). Goes start ts run) (sym (take_all (length tokens) (map (lexed_in text) tokens) (omega (arith, count)))) goes)
      (λ token there one taken. let both = sym there ∙ past in cc)
      (λ none final. not_final final)
      (ap (λ (o : Option Lexed). why_not run.state o) (sym past))
      (ap (λ (o : Option Token). byte_of text o) (sym (slice_get_past tokens (length tokens) (omega arith))))
      refusal

-- all tokens were read
pub all_read : (tokens : List Lexed) (end : Option End) (run : Run) → end ≡ None → IsRead tokens end run → Goes start tokens run
all_read tokens end run is h = subst (λ (o : Option End). IsRead tokens o run) is h
