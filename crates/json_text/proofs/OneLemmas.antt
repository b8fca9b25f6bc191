-- A value says one configuration at most.
use Rattle.std.proofs.Common.{◌≡◌, ℕ, zero, suc, Bool, List, [], ◌∷◌, ◌++◌, refl, sym, ap, subst, ◌∙◌, Option, Some, None, codes, decimal}
use Rattle.cfg_base.specs.Words.{lists}
use Rattle.cfg_base.specs.declared.kind.Kind.{Kind}
use Rattle.cfg_base.specs.declared.kind.Shape.{Shape}
use Rattle.cfg_base.specs.declared.kind.Shape.TheVariants.{Container, Fixed, Keyed, Bare, Leaf, Flag, Many}
use Rattle.cfg_base.specs.declared.path.Step.{Step}
use Rattle.cfg_base.specs.declared.path.TheConstants.{MAX_STEPS}
use Rattle.cfg_schema.specs.declared.place.Place.{Place}
use Rattle.cfg_schema.specs.Profile.{row_of, head_of, rows_below}
use Rattle.cfg_tree.specs.Statements.{Statements}
use Rattle.cfg_tree.specs.Stated.{stated_from_none}
use Rattle.cfg_tree.specs.Tree.{step_of}
use Rattle.cfg_tree.proofs.NameLemmas.{name_unique}
use Rattle.cfg_values.proofs.SpellingLemmas.{IsCanonicalOf-unique}
use Rattle.serde_json.specs.Data.{Data, Num, unsigned, negative, float, null, boolean, number, string, array, object, Items, no_items, item, Members, no_members, member}
use Rattle.serde_json.specs.Find.{get_member}
use Rattle.serde_json.specs.View.{items_of}
use Rattle.json_text.specs.Keys.{marks_key, key_of}
use Rattle.json_text.specs.Written.{strings}
use Rattle.json_text.specs.Said.{Item, Spot, spot_at, IsMarked, IsNumberOf, IsWordOf, AreWordsOf, AreManyWords, statement_said, SaysLevel, SaysObject, IsNameIn, SaysNamed, SaysEach, SaysList, SaysWords, IsLeafWord, IsTrueFlag, SaysRow, SaysRowIf, SaysRows, SaysInside, top_spot, Says, single_of}

pub some_same : {A : Type 0} (x y : A) → Some x ≡ Some y → x ≡ y
some_same x y e = cc

pub string_same : (a b : List ℕ) → string a ≡ string b → a ≡ b
string_same a b e = cc

pub array_same : (a b : Items) → array a ≡ array b → a ≡ b
array_same a b e = cc

strings_same : (a b : List (List ℕ)) → items_of (strings a) ≡ items_of (strings b) → a ≡ b
strings_same [] [] e = refl
strings_same [] (y ∷ b) e = cc
strings_same (x ∷ a) [] e = cc
strings_same (x ∷ a) (y ∷ b) e =
    let head : x ≡ y = cc in let tail : items_of (strings a) ≡ items_of (strings b) = cc in let more = strings_same a b tail in λ i. head i ∷ more i

marks_same : (o : Option Data) (a b c d : Bool) → IsMarked o a b → IsMarked o c d → (a ≡ c) × (b ≡ d)
marks_same None a b c d x y = (x.0 ∙ sym y.0, x.1 ∙ sym y.1)
marks_same (Some v) a b c d x y =
    let words = strings_same x.words y.words (array_same _ _ (sym x.is ∙ y.is))
    in (
      sym x.marks.is_inactive ∙ ap (λ (ws : List (List ℕ)). lists ws (codes "inactive")) words ∙ y.marks.is_inactive,
      sym x.marks.is_protected ∙ ap (λ (ws : List (List ℕ)). lists ws (codes "protect")) words ∙ y.marks.is_protected,
    )

number_same : (kind : Kind) (n : Num) (a b : List ℕ) → IsNumberOf kind n a → IsNumberOf kind n b → a ≡ b
number_same kind (unsigned n) a b x y = IsCanonicalOf-unique kind (decimal n) a b x.1 y.1
number_same kind (negative z) a b x y = absurd x
number_same kind (float f) a b x y = absurd x

pub word_same : (kind : Kind) (d : Data) (a b : List ℕ) → IsWordOf kind d a → IsWordOf kind d b → a ≡ b
word_same kind null a b x y = absurd x
word_same kind (boolean t) a b x y = absurd x
word_same kind (number n) a b x y = number_same kind n a b x y
word_same kind (string s) a b x y = IsCanonicalOf-unique kind s a b x y
word_same kind (array ds) a b x y = absurd x
word_same kind (object ms) a b x y = absurd x

words_same : (kind : Kind) (ds : Items) (a b : List (List ℕ)) → AreWordsOf kind ds a → AreWordsOf kind ds b → a ≡ b
words_same kind no_items [] [] x y = refl
words_same kind no_items [] (v ∷ b) x y = absurd y
words_same kind no_items (u ∷ a) b x y = absurd x
words_same kind (item (string s) ds) [] b x y = absurd x
words_same kind (item (string s) ds) (u ∷ a) [] x y = absurd y
words_same kind (item (string s) ds) (u ∷ a) (v ∷ b) x y =
    let head = IsCanonicalOf-unique kind s u v x.0 y.0 in let more = words_same kind ds a b x.1 y.1 in λ i. head i ∷ more i
words_same kind (item null ds) a b x y = absurd x
words_same kind (item (boolean t) ds) a b x y = absurd x
words_same kind (item (number n) ds) a b x y = absurd x
words_same kind (item (array es) ds) a b x y = absurd x
words_same kind (item (object ms) ds) a b x y = absurd x

pub name_same : (here : Place) (id : ℕ) (shape : Shape) (bytes a b : List ℕ) → IsNameIn here id shape bytes a → IsNameIn here id shape bytes b → a ≡ b
name_same here id Bare bytes a b x y = name_unique here.in_group (row_of id).name_kind bytes a b x.0 y.0
name_same here id Container bytes a b x y = name_unique here.in_group (row_of id).name_kind bytes a b x y
name_same here id Fixed bytes a b x y = name_unique here.in_group (row_of id).name_kind bytes a b x y
name_same here id Keyed bytes a b x y = name_unique here.in_group (row_of id).name_kind bytes a b x y
name_same here id Leaf bytes a b x y = name_unique here.in_group (row_of id).name_kind bytes a b x y
name_same here id Flag bytes a b x y = name_unique here.in_group (row_of id).name_kind bytes a b x y
name_same here id Many bytes a b x y = name_unique here.in_group (row_of id).name_kind bytes a b x y

one_item : (here : Spot) (id : ℕ) (step : Step) (a b c d : Bool) (u v : List (List ℕ)) → a ≡ c → b ≡ d → u ≡ v → statement_said here id step a b u ≡ statement_said here id step c d v
one_item here id step a b c d u v e f g = λ i. statement_said here id step (e i) (f i) (g i)

module _ (Inner : Members → Spot → List Item → Type 0) (one : (ms : Members) (here : Spot) (a b : List Item) → Inner ms here a → Inner ms here b → a ≡ b) where
  level_same : (here : Spot) (id : ℕ) (step : Step) (ms : Members) (a b : List Item) → SaysLevel Inner here id step ms a → SaysLevel Inner here id step ms b → a ≡ b
  level_same here id step ms a b x y =
      let marks = marks_same _ x.inactive x.protected y.inactive y.protected x.marks y.marks
      in let inner = one ms (spot_at here id step) x.inner y.inner x.inside y.inside
      in let own = one_item here id step x.inactive x.protected y.inactive y.protected [] [] marks.0 marks.1 refl
      in x.said ∙ ap (λ (items : List Item). items ++ x.inner) own ∙ ap (λ (items : List Item). statement_said here id step y.inactive y.protected [] ++ items) inner ∙ sym y.said

  object_same : (here : Spot) (id : ℕ) (step : Step) (d : Data) (a b : List Item) → SaysObject Inner here id step d a → SaysObject Inner here id step d b → a ≡ b
  object_same here id step null a b x y = absurd x
  object_same here id step (boolean t) a b x y = absurd x
  object_same here id step (number n) a b x y = absurd x
  object_same here id step (string s) a b x y = absurd x
  object_same here id step (array ds) a b x y = absurd x
  object_same here id step (object ms) a b x y = level_same here id step ms a b x y

  named_same : (here : Spot) (id : ℕ) (ms : Members) (u v : List ℕ) (a b : List Item) → SaysNamed Inner here id ms u a → SaysNamed Inner here id ms v b → (u ≡ v) × (a ≡ b)
  named_same here id ms u v a b x y =
      let bytes = string_same x.bytes y.bytes (some_same _ _ (sym x.there ∙ y.there))
      in let names = name_same here.place id (row_of id).shape y.bytes u v (subst (λ (s : List ℕ). IsNameIn here.place id (row_of id).shape s u) bytes x.is_name) y.is_name
      in (names, level_same here id (step_of (head_of id) v) ms a b (subst (λ (w : List ℕ). SaysLevel Inner here id (step_of (head_of id) w) ms a) names x.level) y.level)

  all_same : (here : Spot) (id : ℕ) (ds : Items) (u v : List (List ℕ)) (a b : List Item) → SaysEach Inner here id ds u a → SaysEach Inner here id ds v b → a ≡ b
  all_same here id no_items u v a b x y = x.1 ∙ sym y.1
  all_same here id (item (object ms) ds) [] v a b x y = absurd x
  all_same here id (item (object ms) ds) (n ∷ u) [] a b x y = absurd y
  all_same here id (item (object ms) ds) (n ∷ u) (k ∷ v) a b x y =
      let own = named_same here id ms n k x.0 y.0 x.2 y.2
      in let others = all_same here id ds u v x.1 y.1 x.3 y.3
      in x.4 ∙ ap (λ (items : List Item). items ++ x.1) own.1 ∙ ap (λ (items : List Item). y.0 ++ items) others ∙ sym y.4
  all_same here id (item null ds) u v a b x y = absurd x
  all_same here id (item (boolean t) ds) u v a b x y = absurd x
  all_same here id (item (number n) ds) u v a b x y = absurd x
  all_same here id (item (string s) ds) u v a b x y = absurd x
  all_same here id (item (array es) ds) u v a b x y = absurd x

  list_same : (here : Spot) (id : ℕ) (d : Data) (a b : List Item) → SaysList Inner here id d a → SaysList Inner here id d b → a ≡ b
  list_same here id d a b x y =
      let objects = array_same x.objects y.objects (sym x.is ∙ y.is)
      in all_same here id y.objects x.names y.names a b (subst (λ (ds : Items). SaysEach Inner here id ds x.names a) objects x.each) y.each

  said_same : (Words : List (List ℕ) → Type 0) → ((u v : List (List ℕ)) → Words u → Words v → u ≡ v) → (here : Spot) (id : ℕ) (marks : Option Data) (a b : List Item)
      → SaysWords Words here id marks a → SaysWords Words here id marks b → a ≡ b
  said_same Words only here id marks a b x y =
      let same = marks_same marks x.inactive x.protected y.inactive y.protected x.marked y.marked
      in x.said ∙ one_item here id (single_of id) x.inactive x.protected y.inactive y.protected x.words y.words same.0 same.1 (only x.words y.words x.are_words y.are_words) ∙ sym y.said

  leaf_same : (kind : Kind) (d : Data) (u v : List (List ℕ)) → IsLeafWord kind d u → IsLeafWord kind d v → u ≡ v
  leaf_same kind d u v x y = x.alone ∙ ap (λ (w : List ℕ). w ∷ []) (word_same kind d x.word y.word x.is_word y.is_word) ∙ sym y.alone

  flag_same : (d : Data) (u v : List (List ℕ)) → IsTrueFlag d u → IsTrueFlag d v → u ≡ v
  flag_same d u v x y = x.none ∙ sym y.none

  many_same : (kind : Kind) (d : Data) (u v : List (List ℕ)) → AreManyWords kind d u → AreManyWords kind d v → u ≡ v
  many_same kind d u v x y =
      let items = array_same x.items y.items (sym x.is ∙ y.is)
      in words_same kind y.items u v (subst (λ (ds : Items). AreWordsOf kind ds u) items x.each) y.each

  row_same : (shape : Shape) (here : Spot) (id : ℕ) (d : Data) (marks : Option Data) (a b : List Item) → SaysRow Inner shape here id d marks a → SaysRow Inner shape here id d marks b → a ≡ b
  row_same Container here id d marks a b x y = object_same here id (single_of id) d a b x y
  row_same Fixed here id d marks a b x y = object_same here id (single_of id) d a b x y
  row_same Keyed here id d marks a b x y = list_same here id d a b x y
  row_same Bare here id d marks a b x y = list_same here id d a b x y
  row_same Leaf here id d marks a b x y = said_same (IsLeafWord (row_of id).value_kind d) (leaf_same (row_of id).value_kind d) here id marks a b x y
  row_same Flag here id d marks a b x y = said_same (IsTrueFlag d) (flag_same d) here id marks a b x y
  row_same Many here id d marks a b x y = said_same (AreManyWords (row_of id).value_kind d) (many_same (row_of id).value_kind d) here id marks a b x y

  if_same : (here : Spot) (id : ℕ) (o marks : Option Data) (a b : List Item) → SaysRowIf Inner here id o marks a → SaysRowIf Inner here id o marks b → a ≡ b
  if_same here id None marks a b x y = x.0 ∙ sym y.0
  if_same here id (Some d) marks a b x y = row_same (row_of id).shape here id d marks a b x y

  rows_same : (here : Spot) (ms : Members) (ids : List ℕ) (a b : List Item) → SaysRows Inner here ms ids a → SaysRows Inner here ms ids b → a ≡ b
  rows_same here ms [] a b x y = x ∙ sym y
  rows_same here ms (id ∷ ids) a b x y =
      let own = if_same here id (get_member (key_of id) ms) (get_member (marks_key (key_of id)) ms) x.0 y.0 x.2 y.2
      in let others = rows_same here ms ids x.1 y.1 x.3 y.3
      in x.4 ∙ ap (λ (items : List Item). items ++ x.1) own ∙ ap (λ (items : List Item). y.0 ++ items) others ∙ sym y.4

levels_same : (levels : ℕ) (ms : Members) (here : Spot) (a b : List Item) → SaysInside levels ms here a → SaysInside levels ms here b → a ≡ b
unfolding SaysInside
levels_same zero ms here a b x y = absurd x
levels_same (suc levels) ms here a b x y = rows_same (SaysInside levels) (levels_same levels) here ms (rows_below here.place.row here.place.in_group) a b x.1 y.1

object_one : (a b : Members) → object (member (codes "configuration") (object a) no_members) ≡ object (member (codes "configuration") (object b) no_members) → a ≡ b
object_one a b e = cc

pub one_said : (d : Data) (m n : Statements) → Says d m → Says d n → m ≡ n
one_said d m n x y =
    let members = object_one x.members y.members (sym x.is ∙ y.is)
    in let items = levels_same MAX_STEPS y.members top_spot x.items y.items (subst (λ (ms : Members). SaysInside MAX_STEPS ms top_spot x.items) members x.inside) y.inside
    in x.makes ∙ ap stated_from_none items ∙ sym y.makes
