-- At a level at most one row fits a step, and a path that follows rows has at most 9 steps.
use Rattle.std.proofs.Common.{◌≡◌, ℕ, zero, suc, ◌<◌, ◌≤◌, ◌+◌, ◌==◌, Bool, true, false, not, ◌&&◌, ◌||◌, List, [], ◌∷◌, length, get_or, Option, Some, None, refl, arith, ap, ◌∙◌, sym, subst, eqb-true, eq-eqb, leb-true, ltb-true, position, ◌⊎◌, inl, inr, lit<}
use Rattle.std.specs.Prelude.{IfSome}
use Rattle.std.specs.List.{list_all}
use Rattle.std.proofs.lemmas.List.Quantifiers.{position-Some}
use Rattle.cfg_base.specs.declared.kind.Shape.{Shape}
use Rattle.cfg_base.specs.declared.kind.Shape.TheVariants.{Container, Fixed, Keyed, Bare, Leaf, Flag, Many}
use Rattle.cfg_base.specs.declared.path.Step.{Step}
use Rattle.cfg_schema.specs.declared.table.Line.{Line}
use Rattle.cfg_schema.specs.declared.table.Reach.{Reach}
use Rattle.cfg_schema.specs.declared.table.Reach.TheVariants.{Top, Within, Outside, Everywhere}
use Rattle.cfg_schema.specs.declared.level.Level.{Level}
use Rattle.cfg_schema.specs.declared.place.Place.{Place}
use Rattle.cfg_schema.specs.declared.rows.TheConstants.{GROUP}
use Rattle.cfg_schema.specs.Keyword.{spelled}
use Rattle.cfg_schema.specs.Profile.{profile, line_at, no_line, is_bare, is_fixed, level_in, level_of, reaches, stands, same_word, StandsBelow}
use Rattle.cfg_schema.specs.Place.{has_words, HasWords, fits, top_place, entered, entered_by, place_after, and_then, place_from, place_of}
use Rattle.cfg_schema.specs.Facts.{is_sound, is_everywhere, meet, clash, apart, height, rises, all_rise, rises_from}
use Rattle.cfg_schema.proofs.TestLemmas.{both, both_true, not_true, same, same_is, position-None}
use Rattle.cfg_schema.proofs.RowFacts.{profile_length, profile_apart, profile_sound, profile_rises, profile_rises_in_group, number_at}

-- a test that all elements pass is passed by each
pub all_at : {X : Type 0} (p : X → Bool) (xs : List X) (k : ℕ) (d : X) → list_all p xs ≡ true → k < length xs → p (get_or xs k d) ≡ true
all_at p [] k d h below = absurd (omega arith)
all_at p (x ∷ xs) zero d h below = (both (p x) _ h).0
all_at p (x ∷ xs) (suc k) d h below = all_at p xs k d (both (p x) _ h).1 (omega arith)

apart_at : (lines : List Line) (i j : ℕ) → apart lines ≡ true → i < j → j < length lines
    → (meet (line_at lines i) (line_at lines j) && clash (line_at lines i) (line_at lines j)) ≡ false
apart_at [] i j h before below = absurd (omega arith)
apart_at (line ∷ lines) zero zero h before below = absurd (omega arith)
apart_at (line ∷ lines) zero (suc j) h before below =
    not_true _ (all_at (λ other. not (meet line other && clash line other)) lines j no_line (both _ _ h).0 (omega arith))
apart_at (line ∷ lines) (suc i) zero h before below = absurd (omega arith)
apart_at (line ∷ lines) (suc i) (suc j) h before below =
    apart_at lines i j (both (list_all (λ other. not (meet line other && clash line other)) lines) _ h).1 (omega arith) (omega arith)

-- a row that stands at a level is one of its own, or stands everywhere
own : (reach : Reach) (under inner : ℕ) (level : Level) → reaches reach (under == inner) level ≡ true
    → (under ≡ inner) ⊎ (is_everywhere reach ≡ true)
own Top under inner level h = cc
own Within under inner level h = inl (eqb-true under inner h)
own Outside under inner level h = inl (eqb-true under inner (both _ _ h).0)
own Everywhere under inner level h = inr refl

or_left : (a b : Bool) → a ≡ true → (a || b) ≡ true
or_left true b h = refl
or_left false b h = cc

or_right : (a b : Bool) → b ≡ true → (a || b) ≡ true
or_right true b h = refl
or_right false b h = h

meet_by : (one two : Line) (inner : ℕ)
    → ((one.under ≡ inner) ⊎ (is_everywhere one.reach ≡ true)) → ((two.under ≡ inner) ⊎ (is_everywhere two.reach ≡ true))
    → meet one two ≡ true
meet_by one two inner (inl e) (inl f) = or_left _ _ (eq-eqb one.under two.under (e ∙ sym f))
meet_by one two inner (inr e) g = or_right _ _ (or_left _ _ e)
meet_by one two inner (inl e) (inr f) = or_right _ _ (or_right _ _ f)

-- two rows that stand at a level meet
meeting : (level : Level) (one two : Line) → stands level one ≡ true → stands level two ≡ true → meet one two ≡ true
meeting level one two h k = meet_by one two level.inner (own one.reach one.under level.inner level h) (own two.reach two.under level.inner level k)

if_both : (a b c : Bool) → (a ≡ true → b ≡ true → c ≡ true) → (not (a && b) || c) ≡ true
if_both true true c h = h refl refl
if_both true false c h = refl
if_both false b c h = refl

-- rows with the same words begin alike
alike : (one two : Line) → spelled one.head ≡ spelled two.head
    → (is_fixed one.shape ≡ true → is_fixed two.shape ≡ true → spelled one.name ≡ spelled two.name) → clash one two ≡ true
alike one two heads fixed_names =
    or_left _ _ (both_true _ _ (same_is _ _ heads) (if_both _ _ _ (λ e f. same_is _ _ (fixed_names e f))))

empty : (xs : List ℕ) → (length xs == 0) ≡ true → xs ≡ []
empty [] h = refl
empty (x ∷ xs) h = let e = eqb-true (length (x ∷ xs)) 0 h in absurd (omega (arith, e))

head_of_words : (shape : Shape) (head name : List ℕ) (step : Step) → (not (is_bare shape) || same_word head []) ≡ true
    → has_words shape head name step ≡ true → head ≡ step.head
head_of_words Bare head name step sound h = same _ _ sound ∙ sym (empty step.head h)
head_of_words Keyed head name step sound h = same _ _ h
head_of_words Fixed head name step sound h = same _ _ (both (same_word head step.head) _ h).0
head_of_words Container head name step sound h = same _ _ (both (same_word head step.head) _ h).0
head_of_words Leaf head name step sound h = same _ _ (both (same_word head step.head) _ h).0
head_of_words Flag head name step sound h = same _ _ (both (same_word head step.head) _ h).0
head_of_words Many head name step sound h = same _ _ (both (same_word head step.head) _ h).0

name_of_words : (shape : Shape) (head name : List ℕ) (step : Step) → has_words shape head name step ≡ true
    → is_fixed shape ≡ true → name ≡ step.name
name_of_words Fixed head name step h e = same _ _ (both (same_word head step.head) _ h).1
name_of_words Bare head name step h e = cc
name_of_words Keyed head name step h e = cc
name_of_words Container head name step h e = cc
name_of_words Leaf head name step h e = cc
name_of_words Flag head name step h e = cc
name_of_words Many head name step h e = cc

sound_at : (id : ℕ) → id < length profile → is_sound profile (line_at profile id) ≡ true
sound_at id below = all_at (is_sound profile) profile id no_line profile_sound below

bare_heads : (lines : List Line) (line : Line) → is_sound lines line ≡ true
    → (not (is_bare line.shape) || same_word (spelled line.head) []) ≡ true
bare_heads lines line h = (both _ (not (is_bare line.shape) || same_word (spelled line.head) []) (both _ _ h).0).1

-- a row that is a bare name has no head
pub bare_head : (id : ℕ) → id < length profile
    → (not (is_bare (line_at profile id).shape) || same_word (spelled (line_at profile id).head) []) ≡ true
bare_head id below = bare_heads profile (line_at profile id) (sound_at id below)

-- a row that a step follows has the step's head
pub head_is : (level : Level) (step : Step) (id : ℕ) → id < length profile → fits level step (line_at profile id) ≡ true
    → spelled (line_at profile id).head ≡ step.head
head_is level step id below h =
    head_of_words _ _ (spelled (line_at profile id).name) step (bare_head id below)
    (both (stands level (line_at profile id)) _ h).1

not_before : (level : Level) (step : Step) (i j : ℕ) → i < length profile → j < length profile
    → fits level step (line_at profile i) ≡ true → fits level step (line_at profile j) ≡ true → i < j → ⊥
not_before level step i j in_i in_j h k before =
    let one = both (stands level (line_at profile i)) _ h
    in let two = both (stands level (line_at profile j)) _ k
    in let met = meeting level (line_at profile i) (line_at profile j) one.0 two.0
    in let same_heads = head_is level step i in_i h ∙ sym (head_is level step j in_j k)
    in let clashing = alike (line_at profile i) (line_at profile j) same_heads
    (λ e f. name_of_words _ _ _ step one.1 e ∙ sym (name_of_words _ _ _ step two.1 f))
    in let apart_there = apart_at profile i j profile_apart before in_j
    in let together = both_true _ _ met clashing
    in cc

-- at a level at most one row fits a step
pub fits_once : (level : Level) (step : Step) (i j : ℕ) → i < length profile → j < length profile
    → fits level step (line_at profile i) ≡ true → fits level step (line_at profile j) ≡ true → i ≡ j
fits_once level step i j in_i in_j h k =
    let before : i < j → ⊥ = not_before level step i j in_i in_j h k
    in let after : j < i → ⊥ = not_before level step j i in_j in_i k h
    in omega arith

found_once : (level : Level) (step : Step) (id : ℕ) (found : Option ℕ) → id < length profile
    → fits level step (line_at profile id) ≡ true → position (fits level step) profile ≡ found → found ≡ Some id
found_once level step id (Some other) below h e =
    let at = position-Some (fits level step) profile other no_line e
    in ap (λ (n : ℕ). Some n) (fits_once level step other id at.0 below at.1 h)
found_once level step id None below h e =
    let never = position-None (fits level step) profile id no_line e below in cc

-- a step with the words of a row that stands below a place leads to that row
pub leads : (here : Place) (id : ℕ) (step : Step) → StandsBelow here.row here.in_group id
    → HasWords id step
    → place_after here step ≡ Some (entered here id)
leads here id step stood h =
    ap (entered_by here)
    (found_once (level_of here.row here.in_group) step id _ stood.0 (both_true _ _ stood.1 h) refl)

some_same : {A : Type 0} (x y : A) → Some x ≡ Some y → x ≡ y
some_same x y e = cc

-- a step leads from a place to the next one: the row stands below, and the step has its words
pub record LedTo (here : Place) (step : Step) (next : Place) : Type 0 where
  pub stood : StandsBelow here.row here.in_group next.row
  pub is_entered : next ≡ entered here next.row
  pub words : HasWords next.row step

found_led : (here next : Place) (step : Step) (o : Option ℕ) → position (fits (level_of here.row here.in_group) step) profile ≡ o
    → entered_by here o ≡ Some next → LedTo here step next
found_led here next step None e f = cc
found_led here next step (Some id) e f =
    let at = position-Some (fits (level_of here.row here.in_group) step) profile id no_line e
    in let parts = both (stands (level_of here.row here.in_group) (line_at profile id)) _ at.1
    in let there : LedTo here step (entered here id) = record { stood = (at.0, parts.0); is_entered = refl; words = parts.1 }
    in subst (λ (n : Place). LedTo here step n) (some_same _ _ f) there

-- the place after a step is one to which it leads
pub led_to : (here next : Place) (step : Step) → place_after here step ≡ Some next → LedTo here step next
led_to here next step h = found_led here next step _ refl h

-- a bound on the steps of a path that leads to a place
abbrev pub height_of : Place → ℕ
height_of here = height profile (line_at profile here.row) here.in_group

rising_at : (lines : List Line) (in_group : Bool) (id above : ℕ) (stood : Bool) → stood ≡ true
    → rises lines stood above (line_at lines id) in_group ≡ true
    → above < height lines (line_at lines id) (in_group || ((line_at lines id).number == GROUP))
rising_at lines in_group id above true e h = ltb-true _ _ h
rising_at lines in_group id above false e h = cc

rises_here : (in_group : Bool) (id : ℕ) → id < length profile → rises_from profile in_group (line_at profile id) ≡ true
rises_here true id below = all_at (rises_from profile true) profile id no_line profile_rises_in_group below
rises_here false id below = all_at (rises_from profile false) profile id no_line profile_rises below

-- no bound is greater than 9
pub height_most : (here : Place) → here.row < length profile → height_of here ≤ 9
height_most here below =
    leb-true _ _ (both (all_rise profile (level_in profile (line_at profile here.row).number here.in_group) (height_of here) here.in_group) _ (rises_here here.in_group here.row below)).1

-- the bound of a row is greater than that of the place below which it stands
pub height_rises : (here : Place) (id : ℕ) → here.row < length profile → StandsBelow here.row here.in_group id
    → height_of here < height_of (entered here id)
height_rises here id below stood =
    let up = (both (all_rise profile (level_in profile (line_at profile here.row).number here.in_group) (height_of here) here.in_group) _ (rises_here here.in_group here.row below)).0
    in let all_up = subst (λ (n : ℕ). all_rise profile (level_in profile n here.in_group) (height_of here) here.in_group ≡ true) (number_at here.row below) up
    in let one = all_at (λ line. rises profile (stands (level_of here.row here.in_group) line) (height_of here) line here.in_group) profile id no_line all_up stood.0
    in let higher = rising_at profile here.in_group id (height_of here) _ stood.1 one
    in subst (λ (n : ℕ). height_of here < height profile (line_at profile id) (here.in_group || (n == GROUP))) (number_at id stood.0) higher

lt_along : (a b c : ℕ) → a < c → b ≡ c → a < b
lt_along a b c h e = omega arith

step_height : (step : Step) (rest : List Step) (here there : Place) (o : Option Place) → here.row < length profile
    → place_after here step ≡ o → and_then (place_from rest) o ≡ Some there
    → ((next : Place) → next.row < length profile → place_from rest next ≡ Some there
    → (there.row < length profile) × (height_of next + length rest ≤ height_of there))
    → (there.row < length profile) × (height_of here + length (step ∷ rest) ≤ height_of there)
step_height step rest here there None below e f go_on = cc
step_height step rest here there (Some next) below e f go_on =
    let led = led_to here next step e
    in let up = height_rises here next.row below led.stood
    in let rises = subst (λ (n : Place). height_of here < height_of n) (sym led.is_entered) up
    in let more = go_on next led.stood.0 f
    in (more.0, omega (arith, more.1, rises))

-- a path that leads from here to there is no longer than the bounds are apart
path_height : (path : List Step) (here there : Place) → here.row < length profile → place_from path here ≡ Some there
    → (there.row < length profile) × (height_of here + length path ≤ height_of there)
path_height [] here there below h =
    subst (λ (n : Place). (n.row < length profile) × (height_of here + length {A = Step} [] ≤ height_of n)) (some_same _ _ h) (below, omega arith)
path_height (step ∷ rest) here there below h =
    step_height step rest here there (place_after here step) below refl h (λ next. path_height rest next there)

-- a path that follows rows has at most 9 steps
pub path_most : (path : List Step) (there : Place) → place_of path ≡ Some there → (there.row < length profile) × (length path ≤ height_of there) × (length path ≤ 9)
path_most path there h =
    let reached = path_height path top_place there (lt_along _ _ _ (lit< tt) profile_length) h
    in let most = height_most there reached.0
    in (reached.0, omega (arith, reached.1), omega (arith, reached.1, most))

short : (path : List Step) (o : Option Place) → place_of path ≡ o → IfSome o (λ _. length path ≤ 9)
short path None h = tt
short path (Some there) h = (path_most path there h).2

-- a path that follows rows has at most 9 steps
pub shallow : (path : List Step) → IfSome (place_of path) (λ _. length path ≤ 9)
shallow path = short path _ refl

-- a row stands at a level, and the words are its head and, where it is Fixed, its name
pub record StartsWith (level : Level) (word next : List ℕ) (id : ℕ) : Type 0 where
  pub within : id < length profile
  pub stood : stands level (line_at profile id) ≡ true
  pub head : spelled (line_at profile id).head ≡ word
  pub name : is_fixed (line_at profile id).shape ≡ true → spelled (line_at profile id).name ≡ next

start_not_before : (level : Level) (word next : List ℕ) (i j : ℕ) → StartsWith level word next i → StartsWith level word next j → i < j → ⊥
start_not_before level word next i j one two before =
    let met = meeting level (line_at profile i) (line_at profile j) one.stood two.stood
    in let clashing = alike (line_at profile i) (line_at profile j) (one.head ∙ sym two.head) (λ e f. one.name e ∙ sym (two.name f))
    in let apart_there = apart_at profile i j profile_apart before two.within
    in let together = both_true _ _ met clashing
    in cc

-- at a level at most one row starts with these words
pub starts_once : (level : Level) (word next : List ℕ) (i j : ℕ) → StartsWith level word next i → StartsWith level word next j → i ≡ j
starts_once level word next i j one two =
    let before : i < j → ⊥ = start_not_before level word next i j one two
    in let after : j < i → ⊥ = start_not_before level word next j i two one
    in omega arith
