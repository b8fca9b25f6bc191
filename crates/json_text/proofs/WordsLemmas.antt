-- The words of a Many, one more at a time.
use Rattle.std.proofs.Common.{◌≡◌, ◌⊎◌, inl, inr, ◌<◌, ℕ, Bool, true, false, not, List, [], ◌∷◌, ◌++◌, length, refl, sym, ap, subst, ◌∙◌, arith, append_assoc, append-nil, Vec}
use Rattle.std.specs.Prelude.{◌||◌, Result, Ok, Err, MatchResult, Some, decimal}
use Rattle.std.specs.Cmp.{IsEquivalence, nat_eq_equiv}
use Rattle.std.specs.Cmp.Lexicographic.{lists_equiv}
use Rattle.std.specs.List.{IsDistinct, list_any}
use Rattle.std.specs.BTreeMap.{is_at}
use Rattle.std.specs.BTreeSet.{BTreeSet, contains}
use Rattle.std.proofs.lemmas.List.Folds.{list_any-append}
use Rattle.std.proofs.lemmas.Map.Keys.{IsDistinct-push}
use Rattle.cfg_base.specs.Order.{word_cmp}
use Rattle.cfg_base.specs.Words.{Knows, lists, same_word}
use Rattle.cfg_base.specs.declared.kind.Kind.{Kind}
use Rattle.cfg_base.specs.declared.path.Step.{Step}
use Rattle.cfg_values.specs.Spelling.{IsSpelling, IsCanonicalOf}
use Rattle.serde_json.specs.Data.{Num, unsigned, negative, float, Data, null, boolean, number, string, array, object, Items, no_items, item}
use Rattle.json_text.specs.declared.fault.JsonFault.{JsonFault}
use Rattle.json_text.specs.declared.fault.JsonFault.TheVariants.{Form}
use Rattle.json_text.specs.declared.fault.ReadFault.{ReadFault}
use Rattle.serde_json.specs.Find.{as_u64}
use Rattle.json_text.specs.Said.{AreWordsOf, AreManyWords, IsNumberKind, IsNumberOf}
use Rattle.json_text.specs.Faults.{LeafNumberFault, ManyFault, WordsFault}
use Rattle.serde_json.specs.View.{items_view, view}
use Rattle.serde_json.specs.declared.value.Value.{Value}
use Rattle.json_text.proofs.CheckedLemmas.{Checked, each_fault, checked_as}
use Rattle.json_text.specs.Checking.{HasFault, IsStringOf, SpellingFault, WordFault}

-- a set that has learnt one word more
or_turned : (a b : Bool) → (a || b) ≡ (b || (a || false))
or_turned true true = refl
or_turned true false = refl
or_turned false true = refl
or_turned false false = refl

pub lists_pushed : (seen : List (List ℕ)) (word other : List ℕ) → lists (seen ++ word ∷ []) other ≡ (lists seen other || (same_word other word || false))
lists_pushed seen word other = list_any-append (same_word other) seen (word ∷ [])

pub knows_more : (seen : List (List ℕ)) (word : List ℕ) (old new : BTreeSet (List ℕ)) → Knows seen old
    → ((other : List ℕ) → contains word_cmp new other ≡ (same_word other word || contains word_cmp old other)) → Knows (seen ++ word ∷ []) new
knows_more seen word old new knows step other =
    step other
    ∙ ap (λ (b : Bool). same_word other word || b) (knows other)
    ∙ or_turned (same_word other word) (lists seen other)
    ∙ sym (lists_pushed seen word other)

pub is_new : (seen : List (List ℕ)) (word : List ℕ) (old : BTreeSet (List ℕ)) (new : Bool) → Knows seen old → new ≡ not (contains word_cmp old word)
    → new ≡ not (lists seen word)
is_new seen word old new knows e = e ∙ ap not (knows word)

words_equiv : IsEquivalence same_word
words_equiv = lists_equiv nat_eq_equiv

pub distinct_more : (seen : List (List ℕ)) (word : List ℕ) → IsDistinct same_word seen → lists seen word ≡ false → IsDistinct same_word (seen ++ word ∷ [])
distinct_more seen word d absent = IsDistinct-push words_equiv seen word d absent

pub none_known : (known : BTreeSet (List ℕ)) → known.keys ≡ [] → Knows [] known
none_known known e word = ap (λ (ks : List (List ℕ)). list_any (is_at (word_cmp word)) ks) e

pub none_distinct : IsDistinct same_word []
unfolding IsDistinct
none_distinct = tt

-- one word more that fits
pub words_cons : (kind : Kind) (d : Data) (ds : Items) (word : List ℕ) (words : List (List ℕ)) → IsStringOf kind d word → AreWordsOf kind ds words
    → AreWordsOf kind (item d ds) (word ∷ words)
words_cons kind d ds word words s w = subst (λ (x : Data). AreWordsOf kind (item x ds) (word ∷ words)) (sym s.is) (s.spells, w)

pub words_grow : (kind : Kind) (all ds : Items) (d : Data) (seen : List (List ℕ)) (word : List ℕ)
    → ((words : List (List ℕ)) → AreWordsOf kind (item d ds) words → AreWordsOf kind all (seen ++ words)) → IsStringOf kind d word
    → (words : List (List ℕ)) → AreWordsOf kind ds words → AreWordsOf kind all ((seen ++ word ∷ []) ++ words)
words_grow kind all ds d seen word grow s words w =
    subst (λ (ws : List (List ℕ)). AreWordsOf kind all ws) (sym (append_assoc seen (word ∷ []) words)) (grow (word ∷ words) (words_cons kind d ds word words s w))

-- one that has a fault, and one behind it that has
pub word_fault : (kind : Kind) (path : List Step) (seen : List (List ℕ)) (d : Data) (ds : Items) (f : JsonFault) → WordFault kind path d f
    → WordsFault kind path seen (item d ds) f
word_fault kind path seen null ds f x = x
word_fault kind path seen (boolean b) ds f x = x
word_fault kind path seen (number n) ds f x = x
word_fault kind path seen (string s) ds f x = inl x
word_fault kind path seen (array es) ds f x = x
word_fault kind path seen (object ms) ds f x = x

abbrev Later : Kind → List Step → List (List ℕ) → Items → List ℕ → JsonFault → Type 0
Later kind path seen ds word f =
    ((lists seen word ≡ true) × (f ≡ Form path)) ⊎ ((lists seen word ≡ false) × WordsFault kind path (seen ++ word ∷ []) ds f)

later_fault : (kind : Kind) (path : List Step) (seen : List (List ℕ)) (d : Data) (ds : Items) (word : List ℕ) (f : JsonFault) → IsStringOf kind d word
    → Later kind path seen ds word f → WordsFault kind path seen (item d ds) f
later_fault kind path seen d ds word f s x =
    subst (λ (y : Data). WordsFault kind path seen (item y ds) f) (sym s.is) (inr (word, s.spells, x))

pub repeated_fault : (kind : Kind) (path : List Step) (seen : List (List ℕ)) (d : Data) (ds : Items) (word : List ℕ) (f : JsonFault) → IsStringOf kind d word
    → lists seen word ≡ true → f ≡ Form path → WordsFault kind path seen (item d ds) f
repeated_fault kind path seen d ds word f s listed e = later_fault kind path seen d ds word f s (inl (listed, e))

pub next_fault : (kind : Kind) (path : List Step) (seen : List (List ℕ)) (d : Data) (ds : Items) (word : List ℕ) (f : JsonFault) → IsStringOf kind d word
    → lists seen word ≡ false → WordsFault kind path (seen ++ word ∷ []) ds f → WordsFault kind path seen (item d ds) f
next_fault kind path seen d ds word f s new x = later_fault kind path seen d ds word f s (inr (new, x))

-- what a loop over the words knows of those before
pub record WordsSoFar (kind : Kind) (path : List Step) (all rest : Items) (known : BTreeSet (List ℕ)) : Type 0 where
  pub seen : List (List ℕ)
  pub knows : Knows seen known
  pub once : IsDistinct same_word seen
  pub grow : (words : List (List ℕ)) → AreWordsOf kind rest words → AreWordsOf kind all (seen ++ words)
  pub faults : (f : JsonFault) → WordsFault kind path seen rest f → WordsFault kind path [] all f

pub words_start : (kind : Kind) (path : List Step) (all : Items) (known : BTreeSet (List ℕ)) → Knows [] known → WordsSoFar kind path all all known
words_start kind path all known k = record { seen = []; knows = k; once = none_distinct; grow = λ words w. w; faults = λ f x. x }

abbrev NextOk : Kind → List (List ℕ) → Data → BTreeSet (List ℕ) → Type 0
NextOk kind seen d new = (word : List ℕ) × IsStringOf kind d word × (lists seen word ≡ false) × Knows (seen ++ word ∷ []) new

pub words_step : (kind : Kind) (path : List Step) (all rest ds : Items) (d : Data) (old new : BTreeSet (List ℕ)) (so_far : WordsSoFar kind path all rest old)
    → rest ≡ item d ds → NextOk kind so_far.seen d new → WordsSoFar kind path all ds new
words_step kind path all rest ds d old new s e n = record {
  seen = s.seen ++ n.0 ∷ [];
  knows = n.3;
  once = distinct_more s.seen n.0 s.once n.2;
  grow = words_grow kind all ds d s.seen n.0 (λ words w. s.grow words (subst (λ (x : Items). AreWordsOf kind x words) (sym e) w)) n.1;
  faults = λ f x. s.faults f (subst (λ (y : Items). WordsFault kind path s.seen y f) (sym e) (next_fault kind path s.seen d ds n.0 f n.1 n.2 x));
}

pub words_end : (kind : Kind) (path : List Step) (all rest : Items) (known : BTreeSet (List ℕ)) → rest ≡ no_items → WordsSoFar kind path all rest known
    → (words : List (List ℕ)) × AreWordsOf kind all words × IsDistinct same_word words
words_end kind path all rest known e s =
    (s.seen, subst (λ (ws : List (List ℕ)). AreWordsOf kind all ws) (append-nil s.seen) (s.grow [] (subst (λ (x : Items). AreWordsOf kind x []) (sym e) tt)), s.once)

-- a list with a value in it has a word
pub some_words : (kind : Kind) (d : Data) (ds : Items) (words : List (List ℕ)) → AreWordsOf kind (item d ds) words → 0 < length words
some_words kind (string s) ds [] w = absurd w
some_words kind null ds [] w = absurd w
some_words kind (boolean b) ds [] w = absurd w
some_words kind (number n) ds [] w = absurd w
some_words kind (array es) ds [] w = absurd w
some_words kind (object ms) ds [] w = absurd w
some_words kind d ds (word ∷ words) w = omega arith

pub many_words : (kind : Kind) (d : Data) (ds : Items) → ((words : List (List ℕ)) × AreWordsOf kind (item d ds) words × IsDistinct same_word words)
    → (words : List (List ℕ)) × AreManyWords kind (array (item d ds)) words
many_words kind d ds w = (w.0, record { items = item d ds; is = refl; each = w.1; some = some_words kind d ds w.0 w.1; once = w.2 })

-- a whole number in the place of a Leaf's word
pub unsigned_checked : {A : Type 0} (kind : Kind) (path : List Step) (num : Num) (n : ℕ) (bytes : List ℕ) (r : Result A ReadFault) → as_u64 num ≡ Some n
    → IsNumberKind kind → bytes ≡ decimal n → Checked ((word : List ℕ) × IsCanonicalOf kind bytes word) (SpellingFault kind path bytes) r
    → Checked ((word : List ℕ) × IsNumberOf kind num word) (LeafNumberFault kind path num) r
unsigned_checked kind path (negative z) n bytes r e k b x = cc
unsigned_checked kind path (float v) n bytes r e k b x = cc
unsigned_checked kind path (unsigned m) n bytes (Ok y) e k b x =
    let same : m ≡ n = cc
    in let digits : bytes ≡ decimal m = b ∙ ap decimal (sym same) in (x.0, (k, subst (λ (s : List ℕ). IsCanonicalOf kind s x.0) digits x.1))
unsigned_checked kind path (unsigned m) n bytes (Err r) e k b x =
    let same : m ≡ n = cc
    in let digits : bytes ≡ decimal m = b ∙ ap decimal (sym same)
    in each_fault (SpellingFault kind path bytes) (LeafNumberFault kind path (unsigned m))
    (λ f y. inl (k, (λ s. y.0 (subst (λ (w : List ℕ). IsSpelling kind w) (sym digits) s), y.1))) r x

-- a word that was there already
pub repeated : (kind : Kind) (path : List Step) (seen : List (List ℕ)) (d : Data) (word : List ℕ) (known : BTreeSet (List ℕ)) (r : ReadFault) → IsStringOf kind d word
    → Knows seen known → false ≡ not (contains word_cmp known word) → HasFault (λ f. f ≡ Form path) r
    → HasFault (λ f. (ds : Items) → WordsFault kind path seen (item d ds) f) r
repeated kind path seen d word known r s knows old x =
    each_fault (λ f. f ≡ Form path) (λ f. (ds : Items) → WordsFault kind path seen (item d ds) f)
    (λ f e ds. repeated_fault kind path seen d ds word f s (was_listed (lists seen word) (is_new seen word known false knows old)) e) r x
  where
    was_listed : (b : Bool) → false ≡ not b → b ≡ true
    was_listed true e = refl
    was_listed false e = cc

-- a word that stops the loop
pub words_stop : (kind : Kind) (path : List Step) (all rest ds : Items) (d : Data) (known : BTreeSet (List ℕ)) (r : ReadFault) (s : WordsSoFar kind path all rest known)
    → rest ≡ item d ds → HasFault (λ f. (es : Items) → WordsFault kind path s.seen (item d es) f) r → HasFault (WordsFault kind path [] all) r
words_stop kind path all rest ds d known r s e x =
    each_fault (λ f. (es : Items) → WordsFault kind path s.seen (item d es) f) (WordsFault kind path [] all)
    (λ f y. s.faults f (subst (λ (w : Items). WordsFault kind path s.seen w f) (sym e) (y ds))) r x

-- a list that has words
pub many_checked : {A : Type 0} (kind : Kind) (path : List Step) (vs : List Value) (whole : Data) (r : Result A ReadFault) → whole ≡ array (items_view vs) → 0 < length vs
    → Checked ((words : List (List ℕ)) × AreWordsOf kind (items_view vs) words × IsDistinct same_word words) (WordsFault kind path [] (items_view vs)) r
    → Checked ((words : List (List ℕ)) × AreManyWords kind whole words) (ManyFault kind path whole) r
many_checked kind path [] whole r e n x = absurd (omega (arith, n))
many_checked {A = A} kind path (v ∷ vs) whole r e n x =
    subst (λ (d : Data). Checked {A = A} ((words : List (List ℕ)) × AreManyWords kind d words) (ManyFault kind path d) r) (sym e)
    (checked_as _ _ _ _ (many_words kind (view v) (items_view vs)) (λ f y. y) r x)
