-- What the parts of a value say together, and what is collected of them in turn.
use Rattle.std.proofs.Common.{◌≡◌, ◌<◌, ◌≤◌, ◌+◌, ℕ, zero, suc, Bool, false, ◌||◌, List, [], ◌∷◌, ◌++◌, length, drop, get_or, refl, sym, ap, subst, ◌∙◌, Option, Some, None, codes, arith, append_assoc, append-nil, length-append, ◌-◌}
use Rattle.std.specs.Prelude.{Result, Ok, Err, IfOk, IsErrOf}
use Rattle.std.specs.FinMap as finite
use Rattle.std.proofs.lemmas.List.{drop_more, drop_all, length-map}
use Rattle.cfg_base.specs.Words.{lists, same_word}
use Rattle.cfg_base.specs.declared.fault.NoMemory as no
use Rattle.cfg_base.specs.declared.kind.Kind.{Kind}
use Rattle.cfg_base.specs.declared.kind.Shape.{Shape}
use Rattle.cfg_base.specs.declared.kind.Shape.TheVariants.{Container, Fixed, Keyed, Bare, Leaf, Flag, Many}
use Rattle.cfg_base.specs.declared.path.Step.{Step}
use Rattle.cfg_base.specs.declared.path.TheConstants.{MAX_STEPS}
use Rattle.cfg_base.specs.declared.value.Value.{Value}
use Rattle.cfg_schema.specs.declared.place.Place.{Place}
use Rattle.cfg_schema.specs.Profile.{row_of, head_of, is_level, rows_below}
use Rattle.cfg_tree.specs.Statements.{Statements, size_of}
use Rattle.cfg_tree.specs.Limit.{paths_of, different}
use Rattle.cfg_tree.specs.Stated.{stated_from_none, AreSaid}
use Rattle.cfg_tree.specs.Tree.{step_of}
use Rattle.cfg_tree.specs.Typed.{IsNameOf}
use Rattle.cfg_tree.specs.declared.limit.TheConstants.{MAX_STATEMENTS}
use Rattle.cfg_tree.proofs.LimitLemmas.{different-length}
use Rattle.cfg_tree.proofs.NameLemmas.{name_unique}
use Rattle.cfg_tree.proofs.StatedLemmas.{size-stated}
use Rattle.serde_json.specs.Data.{Data, null, boolean, number, string, array, object, Items, no_items, item, Members}
use Rattle.serde_json.specs.Find.{get_member}
use Rattle.serde_json.specs.View.{view, items_of, items_view}
use Rattle.serde_json.specs.declared.value.Value as json
use Rattle.json_text.specs.declared.collected.CollectFault.{CollectFault}
use Rattle.json_text.specs.declared.collected.CollectFault.TheVariants.{TooMany, NoMemory}
use Rattle.json_text.specs.Collecting.{AreWordsIn, Collects, SaysItems, TellsEach, TellsNamed, has_mark, has_string, members_in}
use Rattle.json_text.specs.Keys.{level_marks_key, name_key}
use Rattle.json_text.specs.Said.{Item, Spot, spot_at, MarksIn, IsMarked, IsWordOf, AreWordsOf, AreManyWords, IsNameIn, value_said, SaysLevel, SaysWords, SaysRow, SaysRowIf, SaysRows, SaysInside, top_spot, Says}
use Rattle.json_text.specs.Written.{strings}
use Rattle.json_text.proofs.CollectLemmas.{inside_fits}
use Rattle.json_text.proofs.CollectOnceLemmas.{all_different}
use Rattle.json_text.proofs.OneLemmas.{array_same, some_same, string_same}

-- so much has been collected, and this is left
abbrev pub Goes : (List Item → Type 0) → (List Item → Type 0) → List Item → List Item → Type 0
Goes Tells Left old now = (told : List Item) → Tells told → (rest : List Item) × Left rest × (old ++ told ≡ now ++ rest)

-- what is left begins with a part
abbrev pub Splits : (List Item → Type 0) → (List Item → Type 0) → (List Item → Type 0) → Type 0
Splits Left Own More = (rest : List Item) → Left rest → (own : List Item) × (more : List Item) × Own own × More more × (rest ≡ own ++ more)

module _ (Tells Left : List Item → Type 0) (old now : List Item) (goes : Goes Tells Left old now) where
  pub goes_whole : (new : List Item) (result : Result (Unit {0}) CollectFault) → Collects Left now new result → Collects Tells old new result
  goes_whole new (Ok done) h = λ told t. let left = goes told t in h left.0 left.1 ∙ sym left.2
  goes_whole new (Err TooMany) h = λ told t. let left = goes told t in subst (λ (es : List Item). MAX_STATEMENTS < length es) (sym left.2) (h left.0 left.1)
  goes_whole new (Err NoMemory) h = tt

  module _ (Own More : List Item → Type 0) (splits : Splits Left Own More) where
    pub goes_on : (new : List Item) → ((told : List Item) → Own told → new ≡ now ++ told) → Goes Tells More old new
    goes_on new h = λ told t.
        let left = goes told t
        in let part = splits left.0 left.1
        in (
          part.1,
          part.3,
          left.2 ∙ ap (λ (es : List Item). now ++ es) part.4 ∙ sym (append_assoc now part.0 part.1) ∙ ap (λ (es : List Item). es ++ part.1) (sym (h part.0 part.2)),
        )

    pub goes_many : ((told : List Item) → Own told → MAX_STATEMENTS < length (now ++ told)) → (told : List Item) → Tells told → MAX_STATEMENTS < length (old ++ told)
    goes_many h told t =
        let left = goes told t
        in let part = splits left.0 left.1
        in let same = ap (λ (es : List Item). length es) (left.2 ∙ ap (λ (es : List Item). now ++ es) part.4 ∙ sym (append_assoc now part.0 part.1))
        in let many = h part.0 part.2
        in omega (arith, many, same, length-append (now ++ part.0) part.1)

    wrong : (new : List Item) (fault : CollectFault) → Collects Own now new (Err fault) → Collects Tells old new (Err fault)
    wrong new TooMany h = goes_many h
    wrong new NoMemory h = tt

    pub goes_wrong : (new : List Item) (fault : CollectFault) (result : Result (Unit {0}) CollectFault) → result ≡ Err fault → Collects Own now new (Err fault)
        → Collects Tells old new result
    goes_wrong new fault result e h = subst (λ (r : Result (Unit {0}) CollectFault). Collects Tells old new r) (sym e) (wrong new fault h)

pub goes_from : (Tells : List Item → Type 0) (old : List Item) → Goes Tells Tells old old
goes_from Tells old = λ told t. (told, t, refl)

-- what is collected of one form is collected of another that says no more
pub goes_as : (Tells Left : List Item → Type 0) → ((told : List Item) → Tells told → Left told) → (old new : List Item) (result : Result (Unit {0}) CollectFault)
    → Collects Left old new result → Collects Tells old new result
goes_as Tells Left same old new result h = goes_whole Tells Left old old (λ told t. (told, same told t, refl)) new result h

-- marks
strings_has : (word : List ℕ) (words : List (List ℕ)) → has_string word (items_of (strings words)) ≡ lists words word
strings_has word [] = refl
strings_has word (w ∷ words) = ap (λ (b : Bool). same_word word w || b) (strings_has word words)

pub mark_in : (word : List ℕ) (d : Data) (i p : Bool) (h : MarksIn d i p) → has_mark word (Some d) ≡ lists h.words word
mark_in word d i p h = ap (λ (v : Data). has_mark word (Some v)) h.is ∙ strings_has word h.words

pub marks_are : (o : Option Data) (i p : Bool) → IsMarked o i p → (has_mark (codes "inactive") o ≡ i) × (has_mark (codes "protect") o ≡ p)
marks_are None i p h = (sym h.0, sym h.1)
marks_are (Some d) i p h = (mark_in (codes "inactive") d i p h ∙ h.marks.is_inactive, mark_in (codes "protect") d i p h ∙ h.marks.is_protected)

-- the first of some words
pub record FirstWord (kind : Kind) (d : Data) (ds : Items) (words : List (List ℕ)) : Type 0 where
  pub word : List ℕ
  pub more : List (List ℕ)
  pub is_word : IsWordOf kind d word
  pub are : AreWordsOf kind ds more
  pub is : words ≡ word ∷ more

first_word : (kind : Kind) (d : Data) (ds : Items) (words : List (List ℕ)) → AreWordsOf kind (item d ds) words → FirstWord kind d ds words
first_word kind (string s) ds [] h = absurd h
first_word kind (string s) ds (word ∷ words) h = record { word = word; more = words; is_word = h.0; are = h.1; is = refl }
first_word kind null ds words h = absurd h
first_word kind (boolean b) ds words h = absurd h
first_word kind (number n) ds words h = absurd h
first_word kind (array es) ds words h = absurd h
first_word kind (object ms) ds words h = absurd h

view_more : (xs : List json.Value) (i : ℕ) (d : json.Value) → i < length xs → items_view (drop i xs) ≡ item (view (get_or xs i d)) (items_view (drop (i + 1) xs))
view_more xs i d within = ap items_view (drop_more xs i d within)

pub word_at : (kind : Kind) (xs : List json.Value) (i : ℕ) (d : json.Value) (words : List (List ℕ)) → i < length xs → AreWordsOf kind (items_view (drop i xs)) words
    → FirstWord kind (view (get_or xs i d)) (items_view (drop (i + 1) xs)) words
word_at kind xs i d words within h =
    first_word kind (view (get_or xs i d)) (items_view (drop (i + 1) xs)) words (subst (λ (ds : Items). AreWordsOf kind ds words) (view_more xs i d within) h)

-- the words of a Many are those of its list
pub many_from : (result : Result (List (List ℕ)) no.NoMemory) (kind : Kind) (xs : List json.Value) (d : Data) → d ≡ array (items_view xs)
    → IfOk result (λ words. (said : List (List ℕ)) → AreWordsOf kind (items_view xs) said → words ≡ said)
    → IfOk result (λ words. (said : List (List ℕ)) → AreManyWords kind d said → words ≡ said)
many_from (Ok words) kind xs d e h = λ said many.
    let items = array_same many.items (items_view xs) (sym many.is ∙ e)
    in h said (subst (λ (ds : Items). AreWordsOf kind ds said) items many.each)
many_from (Err fault) kind xs d e h = tt

-- the first of some objects
each_first : (levels : ℕ) (here : Spot) (id : ℕ) (d : Data) (ds : Items)
    → Splits (TellsEach levels here id (item d ds)) (TellsNamed levels here id (members_in d)) (TellsEach levels here id ds)
each_first levels here id (object ms) ds rest ([], h) = absurd h
each_first levels here id (object ms) ds rest (name ∷ names, h) = (h.0, h.1, (name, h.2), (names, h.3), h.4)
each_first levels here id null ds rest h = absurd h.1
each_first levels here id (boolean b) ds rest h = absurd h.1
each_first levels here id (number n) ds rest h = absurd h.1
each_first levels here id (string s) ds rest h = absurd h.1
each_first levels here id (array es) ds rest h = absurd h.1

pub each_split : (levels : ℕ) (here : Spot) (id : ℕ) (xs : List json.Value) (i : ℕ) (d : json.Value) → i < length xs
    → Splits (TellsEach levels here id (items_view (drop i xs))) (TellsNamed levels here id (members_in (view (get_or xs i d))))
    (TellsEach levels here id (items_view (drop (i + 1) xs)))
each_split levels here id xs i d within rest h =
    each_first levels here id (view (get_or xs i d)) (items_view (drop (i + 1) xs)) rest (subst (λ (ds : Items). TellsEach levels here id ds rest) (view_more xs i d within) h)

pub each_at : (levels : ℕ) (here : Spot) (id : ℕ) (xs : List json.Value) (i : ℕ) (x : json.Value) → i < length xs → x ≡ get_or xs i x
    → Splits (TellsEach levels here id (items_view (drop i xs))) (TellsNamed levels here id (members_in (view x))) (TellsEach levels here id (items_view (drop (i + 1) xs)))
each_at levels here id xs i x within is rest h =
    let part = each_split levels here id xs i x within rest h
    in (part.0, part.1, subst (λ (v : json.Value). TellsNamed levels here id (members_in (view v)) part.0) (sym is) part.2, part.3, part.4)

each_none : (levels : ℕ) (here : Spot) (id : ℕ) (told : List Item) → TellsEach levels here id no_items told → told ≡ []
each_none levels here id told h = h.1.1

-- what is left behind the last is nothing
pub each_end : (levels : ℕ) (here : Spot) (id : ℕ) (xs : List json.Value) (i : ℕ) (told : List Item) → length xs ≤ i → TellsEach levels here id (items_view (drop i xs)) told → told ≡ []
each_end levels here id xs i told past h = each_none levels here id told (subst (λ (ys : List json.Value). TellsEach levels here id (items_view ys) told) (drop_all i xs past) h)

-- all is collected where nothing is left
pub goes_all : (Tells Left : List Item → Type 0) (old now : List Item) → Goes Tells Left old now → ((told : List Item) → Left told → told ≡ [])
    → (told : List Item) → Tells told → now ≡ old ++ told
goes_all Tells Left old now goes none told t =
    let left = goes told t in sym (left.2 ∙ ap (λ (es : List Item). now ++ es) (none left.0 left.1) ∙ append-nil now)

-- what stands in a level, by its rows
pub levels_some : (levels : ℕ) (ms : Members) (here : Spot) (told : List Item) → SaysInside levels ms here told → 1 ≤ levels
unfolding SaysInside
levels_some zero ms here told h = absurd h
levels_some (suc levels) ms here told h = omega arith

pub inside_rows : (levels : ℕ) (ms : Members) (here : Spot) (told : List Item) → SaysInside levels ms here told
    → SaysRows (SaysInside (levels - 1)) here ms (rows_below here.place.row here.place.in_group) told
unfolding SaysInside
inside_rows zero ms here told h = absurd h
inside_rows (suc levels) ms here told h =
    let fewer : levels ≡ suc levels - 1 = omega arith
    in subst (λ (n : ℕ). SaysRows (SaysInside n) here ms (rows_below here.place.row here.place.in_group) told) fewer h.1

-- a level says its statement first
pub level_split : (levels : ℕ) (here child : Spot) (id : ℕ) (step : Step) (ms : Members) (path : List Step) (value : Value)
    → child ≡ spot_at here id step → path ≡ child.path
    → ((i p : Bool) → IsMarked (get_member level_marks_key ms) i p → value ≡ value_said i p [])
    → Splits (SaysLevel (SaysInside levels) here id step ms) (λ told. told ≡ (path, value) ∷ []) (SaysInside levels ms child)
level_split levels here child id step ms path value to at said rest h =
    let same = at ∙ ap (λ (s : Spot). s.path) to
    in let item : ◌≡◌ {A = Item} (path, value) (here.path ++ step ∷ [], value_said h.inactive h.protected []) = λ i. (same i, said h.inactive h.protected h.marks i)
    in (
      (path, value) ∷ [],
      h.inner,
      refl,
      subst (λ (s : Spot). SaysInside levels ms s h.inner) (sym to) h.inside,
      h.said ∙ ap (λ (e : Item). e ∷ h.inner) (sym item),
    )

-- a statement that is no level, by its shape
row_alone : (Inner : Members → Spot → List Item → Type 0) (here : Spot) (id : ℕ) (d : Data) (marks : Option Data) (told : List Item) (shape : Shape)
    → is_level shape ≡ false → SaysRow Inner shape here id d marks told → SaysWords (AreWordsIn shape (row_of id).value_kind d) here id marks told
row_alone Inner here id d marks told Leaf e h = h
row_alone Inner here id d marks told Flag e h = h
row_alone Inner here id d marks told Many e h = h
row_alone Inner here id d marks told Container e h = cc
row_alone Inner here id d marks told Fixed e h = cc
row_alone Inner here id d marks told Keyed e h = cc
row_alone Inner here id d marks told Bare e h = cc

-- what stands at a row's key, and the marks beside it
pub row_there : (Inner : Members → Spot → List Item → Type 0) (here : Spot) (id : ℕ) (found marks : Option Data) (d : Data) (told : List Item) → found ≡ Some d
    → is_level (row_of id).shape ≡ false → SaysRowIf Inner here id found marks told → SaysWords (AreWordsIn (row_of id).shape (row_of id).value_kind d) here id marks told
row_there Inner here id found marks d told e plain h =
    row_alone Inner here id d marks told (row_of id).shape plain (subst (λ (o : Option Data). SaysRowIf Inner here id o marks told) e h)

-- an object with a name says what a level with the name's step says
name_of_in : (here : Place) (id : ℕ) (shape : Shape) (bytes name : List ℕ) → IsNameIn here id shape bytes name → IsNameOf here.in_group (row_of id).name_kind bytes name
name_of_in here id Bare bytes name h = h.0
name_of_in here id Container bytes name h = h
name_of_in here id Fixed bytes name h = h
name_of_in here id Keyed bytes name h = h
name_of_in here id Leaf bytes name h = h
name_of_in here id Flag bytes name h = h
name_of_in here id Many bytes name h = h

pub named_level : (levels : ℕ) (here : Spot) (id : ℕ) (ms : Members) (bytes head name : List ℕ) (told : List Item) → get_member name_key ms ≡ Some (string bytes)
    → head ≡ head_of id → IsNameOf here.place.in_group (row_of id).name_kind bytes name → TellsNamed levels here id ms told
    → SaysLevel (SaysInside levels) here id (step_of head name) ms told
named_level levels here id ms bytes head name told there is_head is_name h =
    let same = string_same h.1.bytes bytes (some_same (string h.1.bytes) (string bytes) (sym h.1.there ∙ there))
    in let said = subst (λ (bs : List ℕ). IsNameOf here.place.in_group (row_of id).name_kind bs h.0) same (name_of_in here.place id (row_of id).shape h.1.bytes h.0 h.1.is_name)
    in let names = name_unique here.place.in_group (row_of id).name_kind bytes h.0 name said is_name
    in subst (λ (w : List ℕ). SaysLevel (SaysInside levels) here id (step_of w name) ms told) (sym is_head)
    (subst (λ (w : List ℕ). SaysLevel (SaysInside levels) here id (step_of (head_of id) w) ms told) names h.1.level)

-- a whole value
pub said_items : (d : Data) (m : Statements) (h : Says d m) → SaysItems d h.items
said_items d m h = record { members = h.members; is = h.is; inside = h.inside }

pub said_by : (d : Data) (told : List Item) → SaysItems d told → Says d (stated_from_none told)
said_by d told h = record { members = h.members; is = h.is; items = told; inside = h.inside; makes = refl }

pub size_said : (d : Data) (m : Statements) (h : Says d m) → size_of m ≡ length h.items
size_said d m h = ap (λ (n : Statements). size_of n) h.makes ∙ size-stated h.items ∙ all_different MAX_STEPS h.members top_spot h.items h.inside

-- more statements than a tree has are collected where a value says so many
pub many_said : {X : Type 0} (d : Data) (new : List Item) (fault : CollectFault) (result : Result X CollectFault) → Collects (SaysItems d) [] new (Err fault)
    → result ≡ Err fault → IsErrOf result TooMany → (m : Statements) → Says d m → MAX_STATEMENTS < size_of m
many_said d new TooMany result h e many m said = subst (λ (n : ℕ). MAX_STATEMENTS < n) (sym (size_said d m said)) (h said.items (said_items d m said))
many_said {X = X} d new NoMemory result h e many m said =
    absurd (other (subst (λ (r : Result X CollectFault). r ≡ Err TooMany) e many))
  where
    other : ◌≡◌ {A = Result X CollectFault} (Err NoMemory) (Err TooMany) → ⊥
    other f = cc

-- what is collected of a value that says a configuration is fit for a tree, and makes that configuration
module _ (d : Data) (m : Statements) (said : Says d m) (items : List Item) (all : (told : List Item) → SaysItems d told → items ≡ told) where
  same_items : items ≡ said.items
  same_items = all said.items (said_items d m said)

  pub collected_fit : AreSaid finite.empty items
  collected_fit = subst (λ (es : List Item). AreSaid finite.empty es) (sym same_items) (inside_fits said.members said.items said.inside)

  pub collected_said : (n : Statements) → n ≡ stated_from_none items → Says d n
  collected_said n e =
      subst (λ (k : Statements). Says d k) (ap (λ (es : List Item). stated_from_none es) (sym same_items) ∙ sym e)
      (said_by d said.items (said_items d m said))

pub few_different : (items : List Item) → length items ≤ MAX_STATEMENTS → different (paths_of items) ≤ MAX_STATEMENTS
few_different items few =
    let most = different-length (paths_of items) in omega (arith, few, most, length-map items (λ (e : Item). e.0))
