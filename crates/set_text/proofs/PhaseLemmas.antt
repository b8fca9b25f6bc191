-- What the tokens after a keyword lead to, against what may stand there.
use Rattle.std.proofs.Common.{◌≡◌, ◌<◌, ◌+◌, get_or, ℕ, Bool, true, false, List, [], ◌∷◌, ◌++◌, length, take, Option, Some, None, inl, inr, ◌⊎◌, refl, sym, ap, ◌∙◌, subst, arith}
use Rattle.std.specs.Prelude.{◌&&◌}
use Rattle.std.specs.List.{list_all}
use Rattle.std.proofs.lemmas.List.{map-append, take_more}
use Rattle.cfg_lex.specs.declared.token.Token.{Token}
use Rattle.cfg_lex.specs.declared.token.TokenKind.{TokenKind}
use Rattle.cfg_lex.specs.declared.token.TokenKind.TheVariants as kind
use Rattle.set_text.specs.declared.phase.Phase.{Phase}
use Rattle.set_text.specs.declared.phase.Phase.TheVariants.{Bare, Words, Opened, Inside, Closed}
use Rattle.cfg_lex.specs.Lexed.{is_word_kind}
use Rattle.set_text.specs.Form.{AreWords, IsPlain, IsBracketed, IsTail}
use Rattle.set_text.specs.Phase.{on_word, on_open, on_close, next, ends_at, kinds_in, PhaseLeads}

pub leads_both : (brackets : Bool) (from middle to : Phase) (xs ys : List TokenKind) → PhaseLeads brackets from xs middle → PhaseLeads brackets middle ys to → PhaseLeads brackets from (xs ++ ys) to
leads_both brackets from middle to [] ys front back = subst (λ p. PhaseLeads brackets p ys to) (sym front) back
leads_both brackets from middle to (x ∷ xs) ys front back =
    (front.0, front.1, leads_both brackets front.0 middle to xs ys front.2 back)

-- tokens that lead somewhere lead somewhere with each front of them
pub record Parted (brackets : Bool) (from : Phase) (xs ys : List TokenKind) (to : Phase) : Type 0 where
  pub middle : Phase
  pub front : PhaseLeads brackets from xs middle
  pub back : PhaseLeads brackets middle ys to

pub leads_parted : (brackets : Bool) (from to : Phase) (xs ys : List TokenKind) → PhaseLeads brackets from (xs ++ ys) to → Parted brackets from xs ys to
leads_parted brackets from to [] ys leads = record { middle = from; front = refl; back = leads }
leads_parted brackets from to (x ∷ xs) ys leads =
    let rest = leads_parted brackets leads.0 to xs ys leads.2 in
    record { middle = rest.middle; front = (leads.0, leads.1, rest.front); back = rest.back }

same_some : (p q : Phase) (o : Option Phase) → o ≡ Some p → o ≡ Some q → p ≡ q
same_some p q o one other = cc

pub none_or_some : (p : Phase) (o : Option Phase) → o ≡ Some p → o ≡ None → ⊥
none_or_some p o some none = cc

-- tokens lead to one phase
pub leads_once : (brackets : Bool) (from p q : Phase) (xs : List TokenKind) → PhaseLeads brackets from xs p → PhaseLeads brackets from xs q → p ≡ q
leads_once brackets from p q [] one other = sym one ∙ other
leads_once brackets from p q (x ∷ xs) one other =
    leads_once brackets other.0 p q xs
    (subst (λ r. PhaseLeads brackets r xs p) (same_some one.0 other.0 (next brackets from x) one.1 other.1) one.2) other.2

-- a word after words is one of them
word_on : (phase : Phase) (x : TokenKind) (brackets : Bool) → is_word_kind x ≡ true → next brackets phase x ≡ on_word phase
word_on phase kind.OpenBrace brackets word = absurd cc
word_on phase kind.CloseBrace brackets word = absurd cc
word_on phase kind.OpenBracket brackets word = absurd cc
word_on phase kind.CloseBracket brackets word = absurd cc
word_on phase kind.Semicolon brackets word = absurd cc
word_on phase kind.Bare brackets word = refl
word_on phase kind.Quoted brackets word = refl

pub both_true : (a b : Bool) → a && b ≡ true → (a ≡ true) × (b ≡ true)
both_true true b e = (refl, e)
both_true false b e = absurd cc

pub kinds_more : (tokens : List Token) (i : ℕ) (d : Token) → i < length tokens → kinds_in (take (i + 1) tokens) ≡ kinds_in (take i tokens) ++ (get_or tokens i d).kind ∷ []
kinds_more tokens i d within =
    ap kinds_in (take_more tokens i d within) ∙ map-append (λ (t : Token). t.kind) (take i tokens) (get_or tokens i d ∷ [])

-- one token more
pub leads_more : (brackets : Bool) (from p q : Phase) (tokens : List Token) (i : ℕ) (d : Token) → i < length tokens → PhaseLeads brackets from (kinds_in (take i tokens)) p → next brackets p (get_or tokens i d).kind ≡ Some q → PhaseLeads brackets from (kinds_in (take (i + 1) tokens)) q
leads_more brackets from p q tokens i d within leads on =
    subst (λ ks. PhaseLeads brackets from ks q) (sym (kinds_more tokens i d within))
    (leads_both brackets from p q (kinds_in (take i tokens)) ((get_or tokens i d).kind ∷ []) leads (q, on, refl))

-- what a step is: of a word or of a bracket
data Way (brackets : Bool) (phase : Phase) (x : TokenKind) (after : Phase) : Type 0 where
  Word : is_word_kind x ≡ true → on_word phase ≡ Some after → Way brackets phase x after
  Open : x ≡ kind.OpenBracket → on_open brackets phase ≡ Some after → Way brackets phase x after
  Close : x ≡ kind.CloseBracket → on_close phase ≡ Some after → Way brackets phase x after

way_of : (brackets : Bool) (phase after : Phase) (x : TokenKind) → next brackets phase x ≡ Some after → Way brackets phase x after
way_of brackets phase after kind.OpenBrace on = absurd cc
way_of brackets phase after kind.CloseBrace on = absurd cc
way_of brackets phase after kind.OpenBracket on = Open refl on
way_of brackets phase after kind.CloseBracket on = Close refl on
way_of brackets phase after kind.Semicolon on = absurd cc
way_of brackets phase after kind.Bare on = Word refl on
way_of brackets phase after kind.Quoted on = Word refl on

words_lead : (brackets : Bool) (xs : List TokenKind) → AreWords xs → PhaseLeads brackets Words xs Words
words_lead brackets [] words = refl
words_lead brackets (x ∷ xs) words =
    let both = both_true (is_word_kind x) (list_all is_word_kind xs) words in
    (Words, word_on Words x brackets both.0, words_lead brackets xs both.1)

inside_lead : (brackets : Bool) (xs : List TokenKind) → AreWords xs → PhaseLeads brackets Inside xs Inside
inside_lead brackets [] words = refl
inside_lead brackets (x ∷ xs) words =
    let both = both_true (is_word_kind x) (list_all is_word_kind xs) words in
    (Inside, word_on Inside x brackets both.0, inside_lead brackets xs both.1)

plain_leads : (brackets : Bool) (xs : List TokenKind) → IsPlain xs → PhaseLeads brackets Bare xs Words
plain_leads brackets [] plain = absurd (omega (arith, plain.some))
plain_leads brackets (x ∷ xs) plain =
    let both = both_true (is_word_kind x) (list_all is_word_kind xs) plain.words in
    (Words, word_on Bare x brackets both.0, words_lead brackets xs both.1)

opened_leads : (xs : List TokenKind) → AreWords xs → 0 < length xs → PhaseLeads true Opened (xs ++ kind.CloseBracket ∷ []) Closed
opened_leads [] words some = absurd (omega (arith, some))
opened_leads (x ∷ xs) words some =
    let both = both_true (is_word_kind x) (list_all is_word_kind xs) words in
    (Inside, word_on Opened x true both.0, leads_both true Inside Inside Closed xs (kind.CloseBracket ∷ []) (inside_lead true xs both.1) (Closed, refl, refl))

bracketed_leads : (front inside : List TokenKind) → AreWords front → AreWords inside → 0 < length inside → PhaseLeads true Bare (front ++ kind.OpenBracket ∷ (inside ++ kind.CloseBracket ∷ [])) Closed
bracketed_leads [] inside front_words words some = (Opened, refl, opened_leads inside words some)
bracketed_leads (x ∷ xs) inside front_words words some =
    leads_both true Bare Words Closed (x ∷ xs) (kind.OpenBracket ∷ (inside ++ kind.CloseBracket ∷ []))
    (plain_leads true (x ∷ xs) (record { words = front_words; some = omega arith }))
    (Opened, refl, opened_leads inside words some)

-- tokens lead from a keyword to where a line may end
pub record Ends (brackets : Bool) (xs : List TokenKind) : Type 0 where
  pub phase : Phase
  pub leads : PhaseLeads brackets Bare xs phase
  pub ends : ends_at phase ≡ true

pub tail_ends : (brackets : Bool) (xs : List TokenKind) → IsTail brackets xs → Ends brackets xs
tail_ends true xs (inl plain) = record { phase = Words; leads = plain_leads true xs plain; ends = refl }
tail_ends true xs (inr it) = record {
  phase = Closed;
  leads = subst (λ ks. PhaseLeads true Bare ks Closed) (sym it.joined) (bracketed_leads it.front it.inside it.front_words it.inside_words it.some);
  ends = refl;
}
tail_ends false xs plain = record { phase = Words; leads = plain_leads false xs plain; ends = refl }

-- what is left of a line after a phase
closed_left : (brackets : Bool) (xs : List TokenKind) (q : Phase) → PhaseLeads brackets Closed xs q → xs ≡ []
closed_left brackets [] q leads = refl
closed_left true (x ∷ xs) q leads =
    elim (way_of true Closed leads.0 x leads.1) as (λ _. x ∷ xs ≡ []) [
      | Word word on ↦ absurd cc
      | Open is on ↦ absurd cc
      | Close is on ↦ absurd cc
    ]
closed_left false (x ∷ xs) q leads =
    elim (way_of false Closed leads.0 x leads.1) as (λ _. x ∷ xs ≡ []) [
      | Word word on ↦ absurd cc
      | Open is on ↦ absurd cc
      | Close is on ↦ absurd cc
    ]

record Inner (xs : List TokenKind) : Type 0 where
  inside : List TokenKind
  joined : xs ≡ inside ++ kind.CloseBracket ∷ []
  words : AreWords inside

with_word : (x : TokenKind) (xs : List TokenKind) → is_word_kind x ≡ true → AreWords xs → AreWords (x ∷ xs)
with_word x xs word words = ap (λ b. b && list_all is_word_kind xs) word ∙ words

inner_more : (x : TokenKind) (xs : List TokenKind) → is_word_kind x ≡ true → Inner xs → Inner (x ∷ xs)
inner_more x xs word it = record { inside = x ∷ it.inside; joined = ap (λ ks. x ∷ ks) it.joined; words = with_word x it.inside word it.words }

-- the bracket is closed, and nothing stands after it
inner_none : (x : TokenKind) (xs : List TokenKind) → x ≡ kind.CloseBracket → xs ≡ [] → Inner (x ∷ xs)
inner_none x xs is none = record { inside = []; joined = ap (λ k. k ∷ xs) is ∙ ap (λ ks. kind.CloseBracket ∷ ks) none; words = refl }

into : (brackets : Bool) (p r q : Phase) (xs : List TokenKind) → Some p ≡ Some r → PhaseLeads brackets r xs q → PhaseLeads brackets p xs q
into brackets p r q xs same leads = let is : r ≡ p = cc in subst (λ s. PhaseLeads brackets s xs q) is leads

inside_left : (brackets : Bool) (xs : List TokenKind) (q : Phase) → PhaseLeads brackets Inside xs q → ends_at q ≡ true → Inner xs
inside_left brackets [] q leads ends = absurd (let e = ap ends_at leads in cc)
inside_left true (x ∷ xs) q leads ends =
    elim (way_of true Inside leads.0 x leads.1) as (λ _. Inner (x ∷ xs)) [
      | Word word on ↦ inner_more x xs word (inside_left true xs q (into true Inside leads.0 q xs on leads.2) ends)
      | Open is on ↦ absurd cc
      | Close is on ↦ inner_none x xs is (closed_left true xs q (into true Closed leads.0 q xs on leads.2))
    ]
inside_left false (x ∷ xs) q leads ends =
    elim (way_of false Inside leads.0 x leads.1) as (λ _. Inner (x ∷ xs)) [
      | Word word on ↦ inner_more x xs word (inside_left false xs q (into false Inside leads.0 q xs on leads.2) ends)
      | Open is on ↦ absurd cc
      | Close is on ↦ inner_none x xs is (closed_left false xs q (into false Closed leads.0 q xs on leads.2))
    ]

-- words and then one or more words in brackets
bracket : (x : TokenKind) (xs : List TokenKind) (q : Phase) → x ≡ kind.OpenBracket → PhaseLeads true Opened xs q → ends_at q ≡ true → IsBracketed (x ∷ xs)
bracket x [] q is leads ends = absurd (let e = ap ends_at leads in cc)
bracket x (y ∷ xs) q is leads ends =
    elim (way_of true Opened leads.0 y leads.1) as (λ _. IsBracketed (x ∷ y ∷ xs)) [
      | Word word on ↦
          let it = inside_left true xs q (into true Inside leads.0 q xs on leads.2) ends in
          record {
            front = [];
            inside = y ∷ it.inside;
            joined = ap (λ k. k ∷ y ∷ xs) is ∙ ap (λ ks. kind.OpenBracket ∷ y ∷ ks) it.joined;
            front_words = refl;
            inside_words = with_word y it.inside word it.words;
            some = omega arith;
          }
      | Open is_open on ↦ absurd cc
      | Close is_close on ↦ absurd cc
    ]

bracketed_more : (x : TokenKind) (xs : List TokenKind) → is_word_kind x ≡ true → IsBracketed xs → IsBracketed (x ∷ xs)
bracketed_more x xs word it = record {
  front = x ∷ it.front;
  inside = it.inside;
  joined = ap (λ ks. x ∷ ks) it.joined;
  front_words = with_word x it.front word it.front_words;
  inside_words = it.inside_words;
  some = it.some;
}

words_left : (xs : List TokenKind) (q : Phase) → PhaseLeads true Words xs q → ends_at q ≡ true → AreWords xs ⊎ IsBracketed xs
words_left [] q leads ends = inl refl
words_left (x ∷ xs) q leads ends =
    elim (way_of true Words leads.0 x leads.1) as (λ _. AreWords (x ∷ xs) ⊎ IsBracketed (x ∷ xs)) [
      | Word word on ↦
          elim (words_left xs q (into true Words leads.0 q xs on leads.2) ends) as (λ _. AreWords (x ∷ xs) ⊎ IsBracketed (x ∷ xs)) [
            | inl words ↦ inl (with_word x xs word words)
            | inr it ↦ inr (bracketed_more x xs word it)
          ]
      | Open is on ↦ inr (bracket x xs q is (into true Opened leads.0 q xs on leads.2) ends)
      | Close is on ↦ absurd cc
    ]

plain_left : (xs : List TokenKind) (q : Phase) → PhaseLeads false Words xs q → AreWords xs
plain_left [] q leads = refl
plain_left (x ∷ xs) q leads =
    elim (way_of false Words leads.0 x leads.1) as (λ _. AreWords (x ∷ xs)) [
      | Word word on ↦ with_word x xs word (plain_left xs q (into false Words leads.0 q xs on leads.2))
      | Open is on ↦ absurd cc
      | Close is on ↦ absurd cc
    ]

first_word : (x : TokenKind) (xs : List TokenKind) → is_word_kind x ≡ true → AreWords xs ⊎ IsBracketed xs → IsTail true (x ∷ xs)
first_word x xs word (inl words) = inl (record { words = with_word x xs word words; some = omega arith })
first_word x xs word (inr it) = inr (bracketed_more x xs word it)

pub tail_of : (brackets : Bool) (xs : List TokenKind) (q : Phase) → PhaseLeads brackets Bare xs q → ends_at q ≡ true → IsTail brackets xs
tail_of brackets [] q leads ends = absurd (let e = ap ends_at leads in cc)
tail_of true (x ∷ xs) q leads ends =
    elim (way_of true Bare leads.0 x leads.1) as (λ _. IsTail true (x ∷ xs)) [
      | Word word on ↦ first_word x xs word (words_left xs q (into true Words leads.0 q xs on leads.2) ends)
      | Open is on ↦ inr (bracket x xs q is (into true Opened leads.0 q xs on leads.2) ends)
      | Close is on ↦ absurd cc
    ]
tail_of false (x ∷ xs) q leads ends =
    elim (way_of false Bare leads.0 x leads.1) as (λ _. IsTail false (x ∷ xs)) [
      | Word word on ↦ record { words = with_word x xs word (plain_left xs q (into false Words leads.0 q xs on leads.2)); some = omega arith }
      | Open is on ↦ absurd cc
      | Close is on ↦ absurd cc
    ]

-- from each phase some tokens lead to where a line may end
pub record Completes (brackets : Bool) (phase : Phase) : Type 0 where
  pub more : List TokenKind
  pub last : Phase
  pub leads : PhaseLeads brackets phase more last
  pub ends : ends_at last ≡ true

pub completes : (brackets : Bool) (phase : Phase) → Completes brackets phase
completes brackets Bare = record { more = kind.Bare ∷ []; last = Words; leads = (Words, refl, refl); ends = refl }
completes brackets Words = record { more = []; last = Words; leads = refl; ends = refl }
completes brackets Opened = record { more = kind.Bare ∷ kind.CloseBracket ∷ []; last = Closed; leads = (Inside, refl, (Closed, refl, refl)); ends = refl }
completes brackets Inside = record { more = kind.CloseBracket ∷ []; last = Closed; leads = (Closed, refl, refl); ends = refl }
completes brackets Closed = record { more = []; last = Closed; leads = refl; ends = refl }

-- tokens that lead somewhere begin what may stand after a keyword
pub record TailMore (brackets : Bool) (xs : List TokenKind) : Type 0 where
  pub more : List TokenKind
  pub tail : IsTail brackets (xs ++ more)

pub tail_more : (brackets : Bool) (xs : List TokenKind) (phase : Phase) → PhaseLeads brackets Bare xs phase → TailMore brackets xs
tail_more brackets xs phase leads =
    let on = completes brackets phase in
    record { more = on.more; tail = tail_of brackets (xs ++ on.more) on.last (leads_both brackets Bare phase on.last xs on.more leads on.leads) on.ends }

-- a token that may not stand after those before it
pub not_tail : (brackets : Bool) (xs ys : List TokenKind) (x : TokenKind) (phase : Phase) → PhaseLeads brackets Bare xs phase → next brackets phase x ≡ None → IsTail brackets (xs ++ x ∷ ys) → ⊥
not_tail brackets xs ys x phase leads none tail =
    let it = tail_ends brackets (xs ++ x ∷ ys) tail in
    let parted = leads_parted brackets Bare it.phase xs (x ∷ ys) it.leads in
    let same = leads_once brackets Bare parted.middle phase xs parted.front leads in
    none_or_some parted.back.0 (next brackets phase x)
    (subst (λ p. next brackets p x ≡ Some parted.back.0) same parted.back.1) none

-- the tokens lead to where no line may end
pub not_tail_yet : (brackets : Bool) (xs : List TokenKind) (phase : Phase) → PhaseLeads brackets Bare xs phase → ends_at phase ≡ false → IsTail brackets xs → ⊥
not_tail_yet brackets xs phase leads ends tail =
    let it = tail_ends brackets xs tail in
    let same = leads_once brackets Bare it.phase phase xs it.leads leads in
    let e = sym it.ends ∙ ap ends_at same ∙ ends in cc
