-- A text is made of lexemes in at most one way, and has its tokens or its leftmost fault; and the reading goes from one lexeme to the next.
use Rattle.std.proofs.Common.{◌≡◌, ◌<◌, ◌+◌, ℕ, List, [], ◌∷◌, ◌++◌, length, drop, Option, None, Some, refl, sym, ap, subst, ◌∙◌, arith, length-append}
use Rattle.std.specs.List.{flat_map}
use Rattle.std.proofs.lemmas.List.{drop_at}
use Rattle.cfg_lex.specs.declared.token.TokenKind.{TokenKind}
use Rattle.cfg_lex.specs.declared.token.Token.{Token}
use Rattle.cfg_lex.specs.declared.fault.Cause.{Cause}
use Rattle.cfg_lex.specs.declared.fault.Cause.TheVariants as cause
use Rattle.cfg_lex.specs.declared.fault.LexFault.{LexFault}
use Rattle.cfg_lex.specs.declared.fault.LexFault.TheVariants.{NoMemory}
use Rattle.cfg_lex.specs.declared.front.Front.TheVariants.{Gap, Fault}
use Rattle.cfg_lex.specs.Lexeme.{Lexeme, Space, LineComment, Comment, Sign, BareWord, AngleWord, QuotedWord, spelled, kind_of, IsShaped, Stands, BeginsWith}
use Rattle.cfg_lex.specs.Tokens.{token_at, tokens_at, IsTokens, FaultAt, fault_at, IsLeftmostFault, IsCut}
use Rattle.cfg_lex.specs.Front.{front_of}
use Rattle.cfg_lex.proofs.FrontLemmas.{Found, Wrong, found_front, front_found}

-- a lexeme has a byte
pub spelled_some : (lexeme : Lexeme) (behind : List ℕ) → IsShaped lexeme behind → 0 < length (spelled lexeme)
spelled_some (Space byte) behind shaped = omega arith
spelled_some (LineComment bytes) behind shaped = omega arith
spelled_some (Comment bytes) behind shaped = omega arith
spelled_some (Sign byte kind) behind shaped = omega arith
spelled_some (BareWord bytes) behind shaped = shaped.0
spelled_some (AngleWord bytes) behind shaped = omega arith
spelled_some (QuotedWord bytes) behind shaped = omega arith

pub same_found : (one other : Option TokenKind) (m n : ℕ) → found_front one m ≡ found_front other n → (one ≡ other) × (m ≡ n)
same_found None None m n e = (refl, cc)
same_found None (Some kind) m n e = absurd cc
same_found (Some kind) None m n e = absurd cc
same_found (Some one) (Some other) m n e = (cc, cc)

pub found_is_no_fault : (kind : Option TokenKind) (n : ℕ) (cause : Cause) (offset : ℕ) → found_front kind n ≡ Fault cause offset → ⊥
found_is_no_fault None n cause offset e = cc
found_is_no_fault (Some kind) n cause offset e = cc

-- no lexeme stands at the front
abbrev IsEnd : List ℕ → Type 0
IsEnd rest = (lexeme : Lexeme) (behind : List ℕ) → rest ≡ spelled lexeme ++ behind → Stands lexeme behind → ⊥

end_of_text : IsEnd []
end_of_text lexeme behind joined stands =
    let some = spelled_some lexeme behind stands.shaped in
    omega (arith, ap length joined, length-append (spelled lexeme) behind)

end_at_fault : (rest : List ℕ) (cause : Cause) (offset : ℕ) → FaultAt rest cause offset → IsEnd rest
end_at_fault rest cause offset fault lexeme behind joined stands =
    found_is_no_fault (kind_of lexeme) (length (spelled lexeme)) cause offset
    (sym (front_found rest (found_front (kind_of lexeme) (length (spelled lexeme))) (Found lexeme behind joined stands))
    ∙ front_found rest (Fault cause offset) (Wrong cause offset fault))

-- two readings of a text up to an end are one
record Agrees (place : ℕ) (xs ys : List Lexeme) (rest other : List ℕ) : Type 0 where
  listed : tokens_at place xs ≡ tokens_at place ys
  left : rest ≡ other
  long : length (flat_map spelled xs) ≡ length (flat_map spelled ys)

same_behind : (x y : Lexeme) (text a b : List ℕ) → text ≡ spelled x ++ a → text ≡ spelled y ++ b → length (spelled x) ≡ length (spelled y) → a ≡ b
same_behind x y text a b one other size =
    sym (drop_at (spelled x) a (length (spelled x)) refl)
    ∙ ap (drop (length (spelled x))) (sym one ∙ other)
    ∙ drop_at (spelled y) b (length (spelled x)) (sym size)

agrees : (place : ℕ) (xs ys : List Lexeme) (text rest other : List ℕ) → BeginsWith xs text rest → BeginsWith ys text other → IsEnd rest → IsEnd other → Agrees place xs ys rest other
agrees place [] [] text rest other one two end_one end_two = record { listed = refl; left = sym one ∙ two; long = refl }
agrees place [] (y ∷ ys) text rest other one two end_one end_two = absurd (end_one y two.0 (sym one ∙ two.1) two.2)
agrees place (x ∷ xs) [] text rest other one two end_one end_two = absurd (end_two x one.0 (sym two ∙ one.1) one.2)
agrees place (x ∷ xs) (y ∷ ys) text rest other one two end_one end_two =
    let same = same_found (kind_of x) (kind_of y) (length (spelled x)) (length (spelled y))
    (sym (front_found text (found_front (kind_of x) (length (spelled x))) (Found x one.0 one.1 one.2))
    ∙ front_found text (found_front (kind_of y) (length (spelled y))) (Found y two.0 two.1 two.2)) in
    let behind = same_behind x y text one.0 two.0 one.1 two.1 same.1 in
    let further = agrees (place + length (spelled x)) xs ys two.0 rest other (subst (λ bs. BeginsWith xs bs rest) behind one.3) two.3 end_one end_two in
    record {
      listed = ap (λ k. token_at k place (length (spelled x)) ++ tokens_at (place + length (spelled x)) xs) same.0
          ∙ ap (λ ts. token_at (kind_of y) place (length (spelled x)) ++ ts) further.listed
          ∙ ap (λ n. token_at (kind_of y) place n ++ tokens_at (place + n) ys) same.1;
      left = further.left;
      long = omega (arith, length-append (spelled x) (flat_map spelled xs), length-append (spelled y) (flat_map spelled ys), same.1, further.long);
    }

-- a text has at most one list of tokens
pub one_list : (text : List ℕ) (one two : List Token) → IsTokens text one → IsTokens text two → one ≡ two
one_list text one two a b =
    let same = agrees 0 a.lexemes b.lexemes text [] [] a.whole b.whole end_of_text end_of_text in
    a.listed ∙ same.listed ∙ sym b.listed

pub same_fault : (a b : Cause) (m n : ℕ) → Fault a m ≡ Fault b n → (a ≡ b) × (m ≡ n)
same_fault a b m n e = (cc, cc)

-- a text has at most one leftmost fault
pub one_fault : (text : List ℕ) (one two : LexFault) → IsLeftmostFault text one → IsLeftmostFault text two → one ≡ two
one_fault text one two a b =
    let same = agrees 0 a.lexemes b.lexemes text a.rest b.rest a.front b.front
    (end_at_fault a.rest a.cause a.offset a.wrong) (end_at_fault b.rest b.cause b.offset b.wrong) in
    let wrong = same_fault a.cause b.cause a.offset b.offset
    (sym (front_found a.rest (Fault a.cause a.offset) (Wrong a.cause a.offset a.wrong))
    ∙ ap front_of same.left
    ∙ front_found b.rest (Fault b.cause b.offset) (Wrong b.cause b.offset b.wrong)) in
    a.told
    ∙ ap (λ c. fault_at c (length (flat_map spelled a.lexemes) + a.offset)) wrong.0
    ∙ ap (fault_at b.cause) (omega (arith, wrong.1, same.long))
    ∙ sym b.told

no_fault_of_nothing : (cause : Cause) (offset : ℕ) → Gap 0 ≡ Fault cause offset → ⊥
no_fault_of_nothing cause offset e = cc

-- a text that has its tokens has no fault
pub not_both : (text : List ℕ) (tokens : List Token) (fault : LexFault) → IsTokens text tokens → IsLeftmostFault text fault → ⊥
not_both text tokens fault a b =
    let same = agrees 0 a.lexemes b.lexemes text [] b.rest a.whole b.front end_of_text (end_at_fault b.rest b.cause b.offset b.wrong) in
    no_fault_of_nothing b.cause b.offset
    (ap front_of same.left ∙ front_found b.rest (Fault b.cause b.offset) (Wrong b.cause b.offset b.wrong))

-- a text is cut in one way
pub one_cut : (text : List ℕ) (one two : List Token) (fault other : Option LexFault) → IsCut text one fault → IsCut text two other → (one ≡ two) × (fault ≡ other)
one_cut text one two None None a b = (one_list text one two a b, refl)
one_cut text one two None (Some other) a b = absurd (not_both text one other a b.0)
one_cut text one two (Some fault) None a b = absurd (not_both text two fault b a.0)
one_cut text one two (Some fault) (Some other) a b =
    let same = agrees 0 a.0.lexemes b.0.lexemes text a.0.rest b.0.rest a.0.front b.0.front
    (end_at_fault a.0.rest a.0.cause a.0.offset a.0.wrong) (end_at_fault b.0.rest b.0.cause b.0.offset b.0.wrong) in
    (a.1 ∙ same.listed ∙ sym b.1, ap Some (one_fault text fault other a.0 b.0))

no_memory_told : (cause : Cause) (place : ℕ) → NoMemory ≡ fault_at cause place → ⊥
no_memory_told cause.BadByte place e = cc
no_memory_told cause.OpenComment place e = cc
no_memory_told cause.OpenQuote place e = cc
no_memory_told cause.LongWord place e = cc

-- want of memory is no fault of a text
pub no_memory : (text : List ℕ) → IsLeftmostFault text NoMemory → ⊥
no_memory text h = no_memory_told h.cause _ h.told
