-- The reading of a text goes from one lexeme to the next.
use Rattle.std.proofs.Common.{◌≡◌, ◌<◌, ◌≤◌, ◌+◌, ◌-◌, inl, inr, zero, suc, ℕ, List, [], ◌∷◌, ◌++◌, length, take, drop, Option, None, Some, refl, sym, ap, subst, ◌∙◌, arith, length-append}
use Rattle.std.specs.Prelude.{All}
use Rattle.std.specs.List.{flat_map}
use Rattle.std.proofs.lemmas.List.{append_assoc, append-nil, take_at, take_rest, drop_at, drop-drop, length-drop, drop_all}
use Rattle.std.proofs.lemmas.Bool.{cases_lt}
use Rattle.std.proofs.lemmas.List.Elements.{All-append, All-nil, All-cons}
use Rattle.cfg_lex.specs.declared.token.TokenKind.{TokenKind}
use Rattle.cfg_lex.specs.declared.token.Token.{Token}
use Rattle.cfg_lex.specs.declared.fault.Cause.{Cause}
use Rattle.cfg_lex.specs.declared.fault.Cause.TheVariants.{BadByte, OpenComment, OpenQuote, LongWord}
use Rattle.cfg_lex.specs.declared.front.Front.{Front}
use Rattle.cfg_lex.specs.declared.front.Front.TheVariants.{Gap, Fault}
use Rattle.cfg_lex.specs.declared.front.Front.TheVariants as front
use Rattle.cfg_lex.specs.Lexeme.{Lexeme, spelled, kind_of, word_of, Stands, BeginsWith}
use Rattle.cfg_lex.specs.Tokens.{token_at, tokens_at, IsTokens, word_spelled, IsPlaced, FaultAt, fault_at, IsLeftmostFault, HasAnswer}
use Rattle.cfg_lex.specs.Front.{front_of}
use Rattle.cfg_lex.proofs.FrontLemmas.{IsFront, Found, Wrong, found_front, front_tells}
use Rattle.cfg_lex.proofs.WordLemmas.{spelled_word}
use Rattle.cfg_lex.proofs.LexLemmas.{spelled_some, same_found, same_fault, found_is_no_fault}

-- a text is read up to a place, and these are the tokens so far
pub record IsRead (text : List ℕ) (place : ℕ) (tokens : List Token) : Type 0 where
  pub lexemes : List Lexeme
  pub front : BeginsWith lexemes text (drop place text)
  pub listed : tokens ≡ tokens_at 0 lexemes
  pub reached : length (flat_map spelled lexemes) ≡ place
  pub within : place ≤ length text
  pub placed : All (IsPlaced text) tokens

pub nothing_read : (text : List ℕ) → IsRead text 0 []
nothing_read text = record { lexemes = []; front = refl; listed = refl; reached = refl; within = omega arith; placed = All-nil (IsPlaced text) }

-- a lexeme stands at the front
record IsFound (text : List ℕ) (kind : Option TokenKind) (count : ℕ) : Type 0 where
  lexeme : Lexeme
  behind : List ℕ
  joined : text ≡ spelled lexeme ++ behind
  stands : Stands lexeme behind
  is : kind_of lexeme ≡ kind
  taken : length (spelled lexeme) ≡ count

found_is : (text : List ℕ) (kind : Option TokenKind) (count : ℕ) (front : Front) → IsFront text front → front ≡ found_front kind count → IsFound text kind count
found_is text kind count front (Found lexeme behind joined stands) e =
    let same = same_found (kind_of lexeme) kind (length (spelled lexeme)) count e in
    record { lexeme = lexeme; behind = behind; joined = joined; stands = stands; is = same.0; taken = same.1 }
found_is text kind count front (Wrong cause offset fault) e = absurd (found_is_no_fault kind count cause offset (sym e))

wrong_is : (text : List ℕ) (cause : Cause) (offset : ℕ) (front : Front) → IsFront text front → front ≡ Fault cause offset → FaultAt text cause offset
wrong_is text cause offset front (Found lexeme behind joined stands) e =
    absurd (found_is_no_fault (kind_of lexeme) (length (spelled lexeme)) cause offset e)
wrong_is text cause offset front (Wrong own place fault) e =
    let same = same_fault own cause place offset e in
    subst (FaultAt text cause) same.1 (subst (λ c. FaultAt text c place) same.0 fault)

front_is : (text : List ℕ) → 0 < length text → IsFront text (front_of text)
front_is [] some = absurd (omega arith)
front_is (b ∷ rest) some = front_tells b rest

-- one lexeme more at the end of those read
begins_more : (xs : List Lexeme) (x : Lexeme) (text rest behind : List ℕ) → BeginsWith xs text rest → rest ≡ spelled x ++ behind → Stands x behind → BeginsWith (xs ++ x ∷ []) text behind
begins_more [] x text rest behind begins joined stands = (behind, begins ∙ joined, stands, refl)
begins_more (y ∷ xs) x text rest behind begins joined stands = (begins.0, begins.1, begins.2, begins_more xs x begins.0 rest behind begins.3 joined stands)

spelled_more : (xs : List Lexeme) (x : Lexeme) → length (flat_map spelled (xs ++ x ∷ [])) ≡ length (flat_map spelled xs) + length (spelled x)
spelled_more [] x = omega (arith, length-append (spelled x) [])
spelled_more (y ∷ xs) x =
    omega (arith, length-append (spelled y) (flat_map spelled (xs ++ x ∷ [])), length-append (spelled y) (flat_map spelled xs), spelled_more xs x)

tokens_more : (place : ℕ) (xs : List Lexeme) (x : Lexeme) → tokens_at place (xs ++ x ∷ []) ≡ tokens_at place xs ++ token_at (kind_of x) (place + length (flat_map spelled xs)) (length (spelled x))
tokens_more place [] x =
    append-nil (token_at (kind_of x) place (length (spelled x))) ∙ ap (λ p. token_at (kind_of x) p (length (spelled x))) (omega arith)
tokens_more place (y ∷ xs) x =
    let own : List Token = token_at (kind_of y) place (length (spelled y)) in
    let further = tokens_more (place + length (spelled y)) xs x in
    ap (λ ts. own ++ ts) further
    ∙ sym (append_assoc own (tokens_at (place + length (spelled y)) xs) (token_at (kind_of x) (place + length (spelled y) + length (flat_map spelled xs)) (length (spelled x))))
    ∙ ap (λ p. (own ++ tokens_at (place + length (spelled y)) xs) ++ token_at (kind_of x) p (length (spelled x))) (omega (arith, length-append (spelled y) (flat_map spelled xs)))

token_placed : (text : List ℕ) (kind : Option TokenKind) (place count : ℕ) → IsFound (drop place text) kind count → 0 < count → place + count ≤ length text → All (IsPlaced text) (token_at kind place count)
token_placed text None place count here some within = All-nil (IsPlaced text)
token_placed text (Some kind) place count here some within =
    let size : place + count - place ≡ length (spelled here.lexeme) = omega (arith, here.taken) in
    let bytes : take (place + count - place) (drop place text) ≡ spelled here.lexeme = ap (λ n. take n (drop place text)) size ∙ ap (take (length (spelled here.lexeme))) here.joined ∙ take_at (spelled here.lexeme) here.behind (length (spelled here.lexeme)) refl in
    let word : word_of here.lexeme ≡ word_spelled kind (take (place + count - place) (drop place text)) = sym (ap (word_spelled kind) bytes ∙ spelled_word here.lexeme here.behind kind here.stands.shaped here.is) in
    All-cons (IsPlaced text) (record { kind = kind; start = place; end = place + count }) []
    (record { some = omega arith; within = within; short = subst (λ w. length w ≤ 255) word here.stands.short }) (All-nil (IsPlaced text))

-- the text is read on over the lexeme that is found
pub record Moves (text : List ℕ) (place : ℕ) (tokens : List Token) (kind : Option TokenKind) (count : ℕ) : Type 0 where
  pub some : 0 < count
  pub within : place + count ≤ length text
  pub further : IsRead text (place + count) (tokens ++ token_at kind place count)

pub moves : (text : List ℕ) (place : ℕ) (tokens : List Token) (kind : Option TokenKind) (count : ℕ) → IsRead text place tokens → place < length text → found_front kind count ≡ front_of (take (length text - place) (drop place text)) → Moves text place tokens kind count
moves text place tokens kind count so_far more is =
    let rest : List ℕ = drop place text in
    let found : front_of rest ≡ found_front kind count = sym (is ∙ ap front_of (take_rest text place)) in
    let long : length rest ≡ length text - place = length-drop place text in
    let front = front_is rest (omega (arith, long)) in
    let here = found_is rest kind count (front_of rest) front found in
    let some = spelled_some here.lexeme here.behind here.stands.shaped in
    let parts = length-append (spelled here.lexeme) here.behind in
    let whole : length rest ≡ length (spelled here.lexeme ++ here.behind) = ap length here.joined in
    let positive : 0 < count = omega (arith, some, here.taken) in
    let fits : place + count ≤ length text = omega (arith, parts, whole, here.taken, long) in
    let behind : here.behind ≡ drop (place + count) text = sym (drop_at (spelled here.lexeme) here.behind count here.taken) ∙ ap (drop count) (sym here.joined) ∙ drop-drop count place text in
    record {
      some = positive;
      within = fits;
      further = record {
        lexemes = so_far.lexemes ++ here.lexeme ∷ [];
        front = subst (BeginsWith (so_far.lexemes ++ here.lexeme ∷ []) text) behind (begins_more so_far.lexemes here.lexeme text rest here.behind so_far.front here.joined here.stands);
        listed = ap (λ ts. ts ++ token_at kind place count) so_far.listed
            ∙ ap (λ k. tokens_at 0 so_far.lexemes ++ token_at k place count) (sym here.is)
            ∙ ap (λ p. tokens_at 0 so_far.lexemes ++ token_at (kind_of here.lexeme) p count) (omega (arith, so_far.reached))
            ∙ ap (λ n. tokens_at 0 so_far.lexemes ++ token_at (kind_of here.lexeme) (0 + length (flat_map spelled so_far.lexemes)) n) (sym here.taken)
            ∙ sym (tokens_more 0 so_far.lexemes here.lexeme);
        reached = omega (arith, spelled_more so_far.lexemes here.lexeme, so_far.reached, here.taken);
        within = fits;
        placed = All-append (IsPlaced text) tokens (token_at kind place count) so_far.placed (token_placed text kind place count here positive fits);
      };
    }

-- the text stops at a fault
pub record Stops (text : List ℕ) (place : ℕ) (tokens : List Token) (cause : Cause) (offset : ℕ) : Type 0 where
  pub within : place + offset ≤ length text
  pub leftmost : IsLeftmostFault text (fault_at cause (place + offset))
  pub listed : tokens ≡ tokens_at 0 leftmost.lexemes

fault_within : (text : List ℕ) (cause : Cause) (offset : ℕ) → FaultAt text cause offset → offset ≤ length text
fault_within text BadByte offset (inl here) = omega (arith, here.1)
fault_within text BadByte offset (inr bad) =
    omega (arith, ap length bad.joined, bad.place, length-append (bad.front ++ bad.byte ∷ bad.back ++ 34 ∷ []) bad.behind, length-append (bad.front ++ bad.byte ∷ bad.back) (34 ∷ []), length-append bad.front (bad.byte ∷ bad.back))
fault_within text OpenComment offset fault = omega (arith, fault.1)
fault_within text OpenQuote offset fault = omega (arith, fault.1)
fault_within text LongWord offset fault = omega (arith, fault.1)

pub stops : (text : List ℕ) (place : ℕ) (tokens : List Token) (cause : Cause) (offset : ℕ) → IsRead text place tokens → place < length text → Fault cause offset ≡ front_of (take (length text - place) (drop place text)) → Stops text place tokens cause offset
stops text place tokens cause offset so_far more is =
    let rest : List ℕ = drop place text in
    let found : front_of rest ≡ Fault cause offset = sym (is ∙ ap front_of (take_rest text place)) in
    let long : length rest ≡ length text - place = length-drop place text in
    let wrong = wrong_is rest cause offset (front_of rest) (front_is rest (omega (arith, long))) found in
    record {
      within = omega (arith, fault_within rest cause offset wrong, long);
      leftmost = record {
        lexemes = so_far.lexemes;
        rest = rest;
        cause = cause;
        offset = offset;
        front = so_far.front;
        wrong = wrong;
        told = ap (λ p. fault_at cause (p + offset)) (sym so_far.reached);
      };
      listed = so_far.listed;
    }

-- the whole text is read
pub reads_all : (text : List ℕ) (place : ℕ) (tokens : List Token) → IsRead text place tokens → length text ≤ place → IsTokens text tokens
reads_all text place tokens so_far past = record {
  lexemes = so_far.lexemes;
  whole = subst (BeginsWith so_far.lexemes text) (drop_all place text past) so_far.front;
  listed = so_far.listed;
}

-- what stands at a place decides, where the texts that are read further have their answer
answered_at : (text : List ℕ) (place : ℕ) (tokens : List Token) → IsRead text place tokens → place < length text → ((count : ℕ) (more : List Token) → 0 < count → IsRead text (place + count) more → HasAnswer text) → (front : Front) → front ≡ front_of (take (length text - place) (drop place text)) → HasAnswer text
answered_at text place tokens so_far more further (Gap count) found =
    let on = moves text place tokens None count so_far more found in
    further count (tokens ++ []) on.some on.further
answered_at text place tokens so_far more further (front.Token kind count) found =
    let on = moves text place tokens (Some kind) count so_far more found in
    further count (tokens ++ token_at (Some kind) place count) on.some on.further
answered_at text place tokens so_far more further (Fault cause offset) found =
    inr (fault_at cause (place + offset), (stops text place tokens cause offset so_far more found).leftmost)

-- each text has its tokens or its leftmost fault
answered_from : (fuel : ℕ) (text : List ℕ) (place : ℕ) (tokens : List Token) → IsRead text place tokens → length text ≤ place + fuel → HasAnswer text
answered_from zero text place tokens so_far enough = inl (tokens, reads_all text place tokens so_far (omega arith))
answered_from (suc fuel) text place tokens so_far enough =
    elim (cases_lt place (length text)) as (λ which. HasAnswer text) [
      | inl more ↦
          answered_at text place tokens so_far more (λ count longer some read. answered_from fuel text (place + count) longer read (omega arith))
          (front_of (take (length text - place) (drop place text))) refl
      | inr past ↦ inl (tokens, reads_all text place tokens so_far past)
    ]

pub answered : (text : List ℕ) → HasAnswer text
answered text = answered_from (length text) text 0 [] (nothing_read text) (omega arith)
