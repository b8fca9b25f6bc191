-- A text of JSON with a line feed after it is read as without it.
use Rattle.std.proofs.Common.{◌≡◌, ℕ, zero, suc, Bool, true, false, cond, ◌&&◌, List, [], ◌∷◌, ◌++◌, refl, sym, ap, ap₂, ◌∙◌, append_assoc, option_and_then}
use Rattle.json.specs.Token.{Token, begin_object, end_object, begin_array, end_array, key, string, number, boolean, null, bad}
use Rattle.json.specs.Word.{ends_word, word}
use Rattle.json.specs.Lex.{token, comma, colon, string_token, lex, between, fresh, punctuate, tokens}
use Rattle.json.specs.Print.{escape, quoted, token_text, begins, ends, separator, print_from, print, IsPrintable, ArePrintable}
use Rattle.json.specs.Json as json
use Rattle.json.specs.Tree as tree
use Rattle.json.proofs.Printed.Strings.{content-escape, lex-escape}
use Rattle.json.proofs.Printed.Numbers.{lex-number, in_word-ended}
use Rattle.json.proofs.Printed.Tokens.{tokens-print}
use Rattle.json.proofs.Printed.Trees.{ArePrintable-json_tokens}
use Rattle.serde_json.specs.Data as kind
use Rattle.serde_json.specs.Data.{Data, Items, no_items, item, Members, no_members, member, put}
use Rattle.serde_json.specs.Read.{read, of_json, max_depth}
use Rattle.serde_json.specs.Written.{compact_text, outline, items_outline, members_outline}
use Rattle.serde_json.proofs.Texts.{print-outline}
use Rattle.json_text.proofs.NestedLemmas.{IsNested, AreNested, AreNestedIn}

-- a line feed is a blank after each text
feed_last : (r : List ℕ) → ends_word r ≡ true → ends_word (r ++ 10 ∷ []) ≡ true
feed_last [] e = refl
feed_last (x ∷ r) e = e

after_value_ends : (ts : List Token) → ends_word (print_from true ts) ≡ true
unfolding print_from
after_value_ends [] = refl
after_value_ends (begin_object ∷ ts) = refl
after_value_ends (end_object ∷ ts) = refl
after_value_ends (begin_array ∷ ts) = refl
after_value_ends (end_array ∷ ts) = refl
after_value_ends (key s ∷ ts) = refl
after_value_ends (string s ∷ ts) = refl
after_value_ends (number s ∷ ts) = refl
after_value_ends (boolean b ∷ ts) = refl
after_value_ends (null ∷ ts) = refl
after_value_ends (bad ∷ ts) = refl

lex-quoted : (s r : List ℕ) → lex between (quoted s ++ r) ≡ token (string s) ∷ lex between r
unfolding lex
lex-quoted s r =
    let e = append_assoc (escape s) (34 ∷ []) r in
    ap (λ l. lex between (34 ∷ l)) e ∙ ap₂ (λ o l. token (string_token o) ∷ l) (content-escape s r) (lex-escape s r)

-- two texts after a token have the same lexemes with it, where they have the same without it
lex-token : (t : Token) (q r : List ℕ) → IsPrintable t → (ends t ≡ true → ends_word q ≡ true) → (ends t ≡ true → ends_word r ≡ true)
    → lex between q ≡ lex between r → lex between (token_text t ++ q) ≡ lex between (token_text t ++ r)
unfolding lex word
lex-token begin_object q r h a b e = ap (λ ls. token begin_object ∷ ls) e
lex-token end_object q r h a b e = ap (λ ls. token end_object ∷ ls) e
lex-token begin_array q r h a b e = ap (λ ls. token begin_array ∷ ls) e
lex-token end_array q r h a b e = ap (λ ls. token end_array ∷ ls) e
lex-token (key s) q r h a b e =
    ap (lex between) (append_assoc (quoted s) (58 ∷ []) q) ∙ lex-quoted s (58 ∷ q) ∙ ap (λ ls. token (string s) ∷ colon ∷ ls) e
    ∙ sym (ap (lex between) (append_assoc (quoted s) (58 ∷ []) r) ∙ lex-quoted s (58 ∷ r))
lex-token (string s) q r h a b e = lex-quoted s q ∙ ap (λ ls. token (string s) ∷ ls) e ∙ sym (lex-quoted s r)
lex-token (number s) q r h a b e = lex-number s q h (a refl) ∙ ap (λ ls. token (number s) ∷ ls) e ∙ sym (lex-number s r h (b refl))
lex-token (boolean true) q r h a b e =
    ap₂ (λ c l. token (cond c (boolean true) bad) ∷ l) (a refl) (in_word-ended q (a refl)) ∙ ap (λ ls. token (boolean true) ∷ ls) e
    ∙ sym (ap₂ (λ c l. token (cond c (boolean true) bad) ∷ l) (b refl) (in_word-ended r (b refl)))
lex-token (boolean false) q r h a b e =
    ap₂ (λ c l. token (cond c (boolean false) bad) ∷ l) (a refl) (in_word-ended q (a refl)) ∙ ap (λ ls. token (boolean false) ∷ ls) e
    ∙ sym (ap₂ (λ c l. token (cond c (boolean false) bad) ∷ l) (b refl) (in_word-ended r (b refl)))
lex-token null q r h a b e =
    ap₂ (λ c l. token (cond c null bad) ∷ l) (a refl) (in_word-ended q (a refl)) ∙ ap (λ ls. token null ∷ ls) e
    ∙ sym (ap₂ (λ c l. token (cond c null bad) ∷ l) (b refl) (in_word-ended r (b refl)))
lex-token bad q r h a b e = absurd h

lex-separator : (b : Bool) (q r : List ℕ) → lex between q ≡ lex between r → lex between (cond b (44 ∷ []) [] ++ q) ≡ lex between (cond b (44 ∷ []) [] ++ r)
unfolding lex
lex-separator true q r e = ap (λ ls. comma ∷ ls) e
lex-separator false q r e = e

-- so a line feed after printed tokens changes no lexeme
lex-feed : (c : Bool) (ts : List Token) → ArePrintable ts → lex between (print_from c ts ++ 10 ∷ []) ≡ lex between (print_from c ts)
unfolding lex print_from ArePrintable
lex-feed c [] h = refl
lex-feed c (t ∷ ts) h =
    ap (lex between) (append_assoc (separator c t) (token_text t ++ print_from (ends t) ts) (10 ∷ [])
    ∙ ap (λ (bs : List ℕ). separator c t ++ bs) (append_assoc (token_text t) (print_from (ends t) ts) (10 ∷ [])))
    ∙ lex-separator (c && begins t) (token_text t ++ (print_from (ends t) ts ++ 10 ∷ [])) (token_text t ++ print_from (ends t) ts)
    (lex-token t (print_from (ends t) ts ++ 10 ∷ []) (print_from (ends t) ts) h.0
    (λ e. feed_last (print_from (ends t) ts) (ap (λ b. ends_word (print_from b ts)) e ∙ after_value_ends ts))
    (λ e. ap (λ b. ends_word (print_from b ts)) e ∙ after_value_ends ts) (lex-feed (ends t) ts h.1))

tokens-feed : (ts : List Token) → ArePrintable ts → tokens (print ts ++ 10 ∷ []) ≡ ts
tokens-feed ts h = ap (punctuate fresh) (lex-feed false ts h) ∙ tokens-print ts h

-- no number stands in a value without numbers
mutual
  numbers : (n : ℕ) (d : Data) → IsNested n d → tree.HasNumbers (outline d)
  numbers n kind.null h = tt
  numbers n (kind.boolean b) h = tt
  numbers n (kind.number k) h = absurd h
  numbers n (kind.string s) h = tt
  numbers zero (kind.array ds) h = absurd h
  numbers (suc n) (kind.array ds) h = items_numbers n ds h
  numbers zero (kind.object ms) h = absurd h
  numbers (suc n) (kind.object ms) h = members_numbers n ms h

  items_numbers : (n : ℕ) (ds : Items) → AreNested n ds → tree.ItemsHaveNumbers (items_outline ds)
  items_numbers n no_items h = tt
  items_numbers n (item d ds) h = (numbers n d h.0, items_numbers n ds h.1)

  members_numbers : (n : ℕ) (ms : Members) → AreNestedIn n ms → tree.MembersHaveNumbers (members_outline ms)
  members_numbers n no_members h = tt
  members_numbers n (member k d ms) h = (numbers n d h.0, members_numbers n ms h.1)

-- of a text only the tokens count
read_by : (ts us : List Token) → ts ≡ us → option_and_then of_json (option_and_then (λ p. json.if_last p.0 p.1) (json.value max_depth ts))
    ≡ option_and_then of_json (option_and_then (λ p. json.if_last p.0 p.1) (json.value max_depth us))
read_by ts us e = ap (λ (xs : List Token). option_and_then of_json (option_and_then (λ p. json.if_last p.0 p.1) (json.value max_depth xs))) e

pub read_back : (n : ℕ) (d : Data) → IsNested n d → read (compact_text d ++ 10 ∷ []) ≡ read (compact_text d)
read_back n d nested =
    let ts = tree.json_tokens (outline d)
    in let printable = ArePrintable-json_tokens (outline d) (numbers n d nested)
    in let text = print-outline d
    in read_by (tokens (compact_text d ++ 10 ∷ [])) (tokens (compact_text d))
    (ap (λ (bs : List ℕ). tokens (bs ++ 10 ∷ [])) (sym text) ∙ tokens-feed ts printable ∙ sym (tokens-print ts printable) ∙ ap tokens text)
