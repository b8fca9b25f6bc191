-- Words that are joined in two times are joined at once.
use Rattle.std.proofs.Common.{◌≡◌, ℕ, Bool, true, false, ◌||◌, List, [], ◌∷◌, ◌++◌, refl, sym, ap, ◌∙◌}
use Rattle.cfg_base.specs.declared.path.Step.{Step}
use Rattle.cfg_base.specs.declared.value.Value.{Value}
use Rattle.cfg_entries.specs.EntryMap.{Pair}
use Rattle.cfg_base.specs.Words.{joined, with_word}
use Rattle.cfg_tree.specs.Gather.{words_of_both, with_more, is_many_at, value_of_both}

pub joined_twice : (words one two : List (List ℕ)) → joined (joined words one) two ≡ joined words (one ++ two)
joined_twice words [] two = refl
joined_twice words (word ∷ one) two = joined_twice (with_word words word) one two

-- the words of both, where the later ones come in two times
pub many_more : (old words given all : List (List ℕ)) → all ≡ words ++ given → words_of_both true old all ≡ words_of_both true (words_of_both true old words) given
many_more old words given all e = ap (λ (ws : List (List ℕ)). joined old ws) e ∙ sym (joined_twice old words given)

pub few_more : (old words given all : List (List ℕ)) → all ≡ words_of_both false words given → words_of_both false old all ≡ words_of_both false (words_of_both false old words) given
few_more old words [] all e = ap (λ (ws : List (List ℕ)). words_of_both false old ws) e
few_more old words (word ∷ given) all e = ap (λ (ws : List (List ℕ)). words_of_both false old ws) e

-- a statement that is met once has its own words
pub nothing_more : (many : Bool) (old new : List (List ℕ)) → new ≡ [] → words_of_both many old new ≡ old
nothing_more true old new none = ap (joined old) none
nothing_more false old new none = ap (words_of_both false old) none

-- a value with more words, and then with more again
pub met_more : (self : Pair Value) (path : List Step) (value new : Value) (order more words all : List (List ℕ)) (inactive protected many : Bool)
    → ◌≡◌ {A = Pair Value} (path, with_more path value order words) self
    → inactive ≡ (value.inactive || new.inactive) → protected ≡ (value.protected || new.protected)
    → more ≡ order ++ new.order → many ≡ is_many_at path
    → ((old : List (List ℕ)) → words_of_both many old all ≡ words_of_both many (words_of_both many old words) new.words)
    → ◌≡◌ {A = Pair Value} (path, with_more path (record value { inactive = inactive; protected = protected }) more all) (self.0, value_of_both self.0 self.1 new)
met_more self path value new order more words all inactive protected many is a b o m e =
    let names = ap (λ (ns : List (List ℕ)). joined value.order ns) o ∙ sym (joined_twice value.order order new.order)
    in let told = ap (λ (k : Bool). words_of_both k value.words all) (sym m) ∙ e value.words
    ∙ ap (λ (k : Bool). words_of_both k (words_of_both k value.words words) new.words) m
    in let here : ◌≡◌ {A = Pair Value} (path, with_more path (record value { inactive = inactive; protected = protected }) more all)
    (path, value_of_both path (with_more path value order words) new) =
    λ i. (path, record { inactive = a i; protected = b i; order = names i; words = told i })
    in here ∙ ap (λ (p : Pair Value). (p.0, value_of_both p.0 p.1 new)) is
