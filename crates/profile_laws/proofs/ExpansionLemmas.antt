-- What was an expansion is one still: its paths follow rows of the first profile, as those do that they are given from.
use Rattle.std.proofs.Common.{◌≡◌, ◌≢◌, ◌⊎◌, inl, inr, ◌<◌, ◌==◌, ℕ, Bool, true, false, not, cond, ◌&&◌, ◌||◌, List, [], ◌∷◌, ◌++◌, length, filter, map, Option, Some, None, is_some, refl, sym, ap, subst, ◌∙◌, arith, append_assoc, append-nil, eqb-true, eq-eqb, if◌then◌else◌}
use Rattle.std.specs.List.{AllByRecursion, flat_map, list_all}
use Rattle.std.specs.Option.{option_map}
use Rattle.std.specs.FinMap as finite
use Rattle.cfg_base.specs.declared.kind.Shape.{Shape}
use Rattle.cfg_base.specs.declared.kind.Shape.TheVariants.{Container, Fixed, Keyed, Bare, Leaf, Flag, Many}
use Rattle.cfg_base.specs.declared.path.Step.{Step}
use Rattle.cfg_base.specs.declared.value.Value.{Value}
use Rattle.cfg_schema.specs.declared.level.Level.{Level}
use Rattle.cfg_schema.specs.declared.place.Place.{Place}
use Rattle.cfg_schema.specs.declared.rows.TheConstants.{GROUP, GROUPS}
use Rattle.cfg_schema.specs.declared.table.Line.{Line}
use Rattle.cfg_schema.specs.declared.table.Reach.{Reach}
use Rattle.cfg_schema.specs.declared.table.Reach.TheVariants.{Top, Within, Outside, Everywhere}
use Rattle.cfg_schema.specs.Keyword.{spelled}
use Rattle.cfg_schema.specs.Profile.{profile, line_at, no_line, has_rows, is_grouped, level_of, reaches, same_word}
use Rattle.cfg_schema.specs.Place.{and_then, entered, has_words, place_after, place_from, place_of, top_place}
use Rattle.cfg_schema.proofs.TestLemmas.{both, both_true, same}
use Rattle.cfg_schema.proofs.RowFacts.{number_at}
use Rattle.cfg_schema.proofs.LevelLemmas.{all_at, leads, led_to, LedTo}
use Rattle.cfg_tree.specs.declared.first_profile.TheConstants.{FIRST_ROWS}
use Rattle.cfg_tree.specs.declared.full.Given.{Given}
use Rattle.cfg_tree.specs.Children.{steps_below}
use Rattle.cfg_tree.specs.Full.{Expansion}
use Rattle.cfg_tree.specs.Statements.{Statements}
use Rattle.cfg_tree.specs.Tree.{ordered_head, step_of}
use Rattle.group_expand.specs.Expansion.{first_gift, gift_at, gift_from, gift_of, is_own, order_by, IsExpansion}
use Rattle.group_expand.specs.Live.{Look, is_active, is_live, live_from}
use Rattle.group_expand.specs.Sources.{Source, fits_wildcard, fitting, fitting_below, fitting_from, groups_step, is_excepted, is_outside, is_plain, is_wildcard, live_ones, matching_below, outward, source, sources, sources_by}
use Rattle.profile_laws.specs.Before.{before, was_ordered_head, was_place_after, was_place_from, was_place_of}
use Rattle.profile_laws.specs.Was.{WasExpansion, WasTree}
use Rattle.profile_laws.proofs.TableLemmas.{lead_back, lead_on, same_order}
use Rattle.profile_laws.proofs.TypedLemmas.{Led, follows}

-- a step of a group is one of a path, or a wildcard of its head; and so step by step
abbrev IsAlike : Step → Step → Type 0
IsAlike s t = (s.head ≡ t.head) × ((s.name ≡ t.name) ⊎ (is_wildcard s.name ≡ true))

abbrev AreAlike : List Step → List Step → Type 0
AreAlike [] [] = Unit {0}
AreAlike (s ∷ r) (t ∷ p) = IsAlike s t × AreAlike r p
AreAlike [] (t ∷ p) = ⊥
AreAlike (s ∷ r) [] = ⊥

alike_more : (r p : List Step) (s t : Step) → AreAlike r p → IsAlike s t → AreAlike (r ++ s ∷ []) (p ++ t ∷ [])
alike_more [] [] s t are is = (is, tt)
alike_more (a ∷ r) (b ∷ p) s t are is = (are.0, alike_more r p s t are.1 is)
alike_more [] (b ∷ p) s t are is = absurd are
alike_more (a ∷ r) [] s t are is = absurd are

-- what holds of each part of a list
all_append : {X : Type 0} (P : X → Type 0) (xs ys : List X) → AllByRecursion P xs → AllByRecursion P ys → AllByRecursion P (xs ++ ys)
all_append P [] ys h g = g
all_append P (x ∷ xs) ys h g = (h.0, all_append P xs ys h.1 g)

all_flat : {X A : Type 0} (P : A → Type 0) (Q : X → Type 0) (f : X → List A) → ((x : X) → Q x → AllByRecursion P (f x)) → (xs : List X) → AllByRecursion Q xs → AllByRecursion P (flat_map f xs)
all_flat P Q f each [] h = tt
all_flat P Q f each (x ∷ xs) h = all_append P (f x) (flat_map f xs) (each x h.0) (all_flat P Q f each xs h.1)

all_kept : {X : Type 0} (P : X → Type 0) (test : X → Bool) → (xs : List X) → ((x : X) → test x ≡ true → P x) → AllByRecursion P (filter test xs)
all_kept P test [] each = tt
all_kept P test (x ∷ xs) each = by_test (test x) refl (all_kept P test xs each)
  where
    by_test : (b : Bool) → test x ≡ b → AllByRecursion P (filter test xs) → AllByRecursion P (cond b (x ∷ filter test xs) (filter test xs))
    by_test true e more = (each x e, more)
    by_test false e more = more

every : {X : Type 0} (xs : List X) → AllByRecursion (λ x. Unit {0}) xs
every [] = tt
every (x ∷ xs) = (tt, every xs)

module _ (look : Look) (kids : List Step → List Step) where
  -- a live statement of a group that is alike a path
  record Fits (group : List ℕ) (path : List Step) (from : List Step) : Type 0 where
    rest : List Step
    is : from ≡ groups_step ∷ step_of [] group ∷ rest
    alike : AreAlike rest path
    live : is_live look from ≡ true

  lives : (P : List Step → Type 0) (paths : List (List Step)) → AllByRecursion P paths → AllByRecursion (λ q. P q × (is_live look q ≡ true)) (live_ones look kids paths)
  lives P [] each = tt
  lives P (q ∷ paths) each = by_test (is_live look q) refl (lives P paths each.1)
    where
      by_test : (b : Bool) → is_live look q ≡ b → AllByRecursion (λ x. P x × (is_live look x ≡ true)) (filter (is_live look) paths)
          → AllByRecursion (λ x. P x × (is_live look x ≡ true)) (cond b (q ∷ filter (is_live look) paths) (filter (is_live look) paths))
      by_test true e more = ((each.0, e), more)
      by_test false e more = more

  all_weaker : {X : Type 0} (P Q : X → Type 0) → ((x : X) → P x → Q x) → (xs : List X) → AllByRecursion P xs → AllByRecursion Q xs
  all_weaker P Q imp [] h = tt
  all_weaker P Q imp (x ∷ xs) h = (imp x h.0, all_weaker P Q imp xs h.1)

  fit_below : (group : List ℕ) (above : List Step) (wild : Bool) (step : Step) (from : List Step) → Fits group above from → AllByRecursion (Fits group (above ++ step ∷ [])) (fitting_below look kids wild step from)
  fit_below group above wild step from fits =
      all_append (Fits group (above ++ step ∷ [])) (live_ones look kids ((from ++ step ∷ []) ∷ [])) (live_ones look kids (map (λ other. from ++ other ∷ []) (matching_below look kids wild step from)))
      (all_weaker _ _ (λ q both. made q both.0 both.1) _ (lives Below ((from ++ step ∷ []) ∷ []) ((step, (refl, inl refl), refl), tt)))
      (all_weaker _ _ (λ q both. made q both.0 both.1) _ (lives Below (map (λ other. from ++ other ∷ []) (matching_below look kids wild step from)) (all_below (matching_below look kids wild step from) (matched wild))))
    where
      Below : List Step → Type 0
      Below q = (other : Step) × IsAlike other step × (q ≡ from ++ other ∷ [])

      made : (q : List Step) → Below q → is_live look q ≡ true → Fits group (above ++ step ∷ []) q
      made q (other, alike, is) live = record {
        rest = fits.rest ++ other ∷ [];
        is = is ∙ ap (λ (l : List Step). l ++ other ∷ []) fits.is;
        alike = alike_more fits.rest above other step fits.alike alike;
        live = live;
      }

      matched : (w : Bool) → AllByRecursion (λ other. IsAlike other step) (matching_below look kids w step from)
      matched false = tt
      matched true = all_kept (λ other. IsAlike other step) (fits_wildcard step) (kids from) (λ other e.
          let parts = both (same_word step.head other.head) _ e
          in (sym (same _ _ parts.0), inr (both (is_wildcard other.name) _ parts.1).0))

      all_below : (others : List Step) → AllByRecursion (λ other. IsAlike other step) others → AllByRecursion Below (map (λ other. from ++ other ∷ []) others)
      all_below [] each = tt
      all_below (other ∷ others) each = ((other, each.0, refl), all_below others each.1)

  fit_from : (group : List ℕ) (above : List Step) (found : List (List Step)) (rest : List Step) → AllByRecursion (Fits group above) found → AllByRecursion (Fits group (above ++ rest)) (fitting_from look kids above found rest)
  fit_from group above found [] each = subst (λ (p : List Step). AllByRecursion (Fits group p) found) (sym (append-nil above)) each
  fit_from group above found (step ∷ rest) each =
      subst (λ (p : List Step). AllByRecursion (Fits group p) (fitting_from look kids above found (step ∷ rest))) (append_assoc above (step ∷ []) rest)
      (fit_from group (above ++ step ∷ []) (flat_map (fitting_below look kids (is_live look (above ++ step ∷ [])) step) found) rest
      (all_flat (Fits group (above ++ step ∷ [])) (Fits group above) (fitting_below look kids (is_live look (above ++ step ∷ [])) step) (λ from fits. fit_below group above _ step from fits) found each))

  fit_all : (group : List ℕ) (path : List Step) → AllByRecursion (Fits group path) (fitting look kids group path)
  fit_all group path =
      fit_from group [] (live_ones look kids ((groups_step ∷ step_of [] group ∷ []) ∷ [])) path
      (all_weaker _ _ (λ q both. record { rest = []; is = both.0; alike = tt; live = both.1 }) _
      (lives (λ q. q ≡ groups_step ∷ step_of [] group ∷ []) ((groups_step ∷ step_of [] group ∷ []) ∷ []) (refl, tt)))

  abbrev IsFitting : List Step → Source → Type 0
  IsFitting path x = Fits x.group path x.from

  all_sources : (path : List Step) (out : List ℕ → Bool) (levels : List (List Step)) → AllByRecursion (IsFitting path) (sources_by look kids (λ group. fitting look kids group path) out levels)
  all_sources path out [] = tt
  all_sources path out (level ∷ outer) =
      all_append (IsFitting path) _ _
      (all_flat (IsFitting path) (λ group. Unit {0}) (λ group. map (source group) (fitting look kids group path)) (λ group _. each group (fitting look kids group path) (fit_all group path)) _ (every _))
      (all_sources path (λ group. is_excepted look kids out level group) outer)
    where
      each : (group : List ℕ) (froms : List (List Step)) → AllByRecursion (Fits group path) froms → AllByRecursion (IsFitting path) (map (source group) froms)
      each group [] h = tt
      each group (from ∷ froms) h = (h.0, each group froms h.1)

  sources_fit : (path : List Step) → AllByRecursion (IsFitting path) (sources look kids path)
  sources_fit path = by_test (is_outside path && is_plain path)
    where
      by_test : (b : Bool) → AllByRecursion (IsFitting path) (if b then sources_by look kids (λ group. fitting look kids group path) (λ group. false) (outward path) else [])
      by_test true = all_sources path (λ group. false) (outward path)
      by_test false = tt

  -- what has a gift is live itself, or has a statement of a group that is alike
  abbrev GivenFrom : List Step → Type 0
  GivenFrom path = (is_live look path ≡ true) ⊎ ((group : List ℕ) × (from : List Step) × Fits group path from)

  given_from : (path : List Step) → is_some (gift_at look kids path) ≡ true → GivenFrom path
  given_from path some = by_own (is_own look path) refl some
    where
      by_sources : (xs : List Source) → AllByRecursion (IsFitting path) xs → is_some (first_gift look xs) ≡ true → (group : List ℕ) × (from : List Step) × Fits group path from
      by_sources [] each e = cc
      by_sources (x ∷ xs) each e = (x.group, x.from, each.0)

      by_own : (b : Bool) → is_own look path ≡ b → is_some (if b then Some (gift_from look [] path) else first_gift look (sources look kids path)) ≡ true → GivenFrom path
      by_own true e s = inl (both (is_live look path) _ e).0
      by_own false e s = inr (by_sources (sources look kids path) (sources_fit path) s)

-- what is live is there
live_some : (look : Look) (above : List Step) (s : Step) (rest : List Step) → live_from look above (s ∷ rest) ≡ true → is_some (look (above ++ s ∷ rest)) ≡ true
live_some look above s [] live = by_value (look (above ++ s ∷ [])) (both (is_active (look (above ++ s ∷ []))) _ live).0
  where
    by_value : (o : Option Value) → is_active o ≡ true → is_some o ≡ true
    by_value None e = cc
    by_value (Some v) e = refl
live_some look above s (t ∷ rest) live =
    ap (λ (p : List Step). is_some (look p)) (sym (append_assoc above (s ∷ []) (t ∷ rest)))
    ∙ live_some look (above ++ s ∷ []) t rest (both (is_active (look (above ++ s ∷ []))) _ live).1

-- a path that led to a place leads there still
pub led_on : (path : List Step) (start there : Place) → start.row < FIRST_ROWS → was_place_from path start ≡ Some there → Led path start
led_on [] start there h e = record { here = start; was = refl; is = refl; small = h }
led_on (step ∷ rest) start there h e = by_step (was_place_after start step) refl e (λ next small more. led_on rest next there small more)
  where
    by_step : (o : Option Place) → was_place_after start step ≡ o → and_then (was_place_from rest) o ≡ Some there
        → ((next : Place) → next.row < FIRST_ROWS → was_place_from rest next ≡ Some there → Led rest next) → Led (step ∷ rest) start
    by_step None f g go = cc
    by_step (Some next) f g go =
        let on = lead_on start next step h f
        in let led = go next on.1 g
        in record { here = led.here; was = ap (and_then (was_place_from rest)) f ∙ led.was; is = ap (and_then (place_from rest)) on.0 ∙ led.is; small = led.small }

-- the rows that stand in a group stand outside it too; none of them opens `groups`, and no row has a wildcard for its name
abbrev is_within : Reach → Bool
is_within Within = true
is_within _ = false

abbrev is_tame : Line → Bool
is_tame line = (not (is_within line.reach) || (not (line.inner == GROUPS) && (not (line.number == GROUP) || (line.under == GROUPS)))) && not (is_wildcard (spelled line.name))

tame : list_all is_tame profile ≡ true
unfolding profile
tame = refl

-- a place in a group, and one outside that opens the same rows
record Beside (g p : Place) : Type 0 where
  deep : g.in_group ≡ true
  out : p.in_group ≡ false
  inner : (line_at profile g.row).inner ≡ (line_at profile p.row).inner
  other : (line_at profile p.row).inner ≢ GROUPS
  small_g : g.row < FIRST_ROWS
  small_p : p.row < FIRST_ROWS

within_by : (reach : Reach) (here : Bool) (level : Level) → level.grouped ≡ true → level.applies ≡ false → reaches reach here level ≡ true → (is_within reach ≡ true) × (here ≡ true)
within_by Top here level g a h = cc
within_by Within here level g a h = (refl, h)
within_by Outside here level g a h = let no = (both here _ h).1 in let shut = ap not (sym g) ∙ no in cc
within_by Everywhere here level g a h = let c = sym a ∙ h in cc

stands_by : (reach : Reach) (here : Bool) (level : Level) → is_within reach ≡ true → here ≡ true → reaches reach here level ≡ true
stands_by Within here level w h = h
stands_by Top here level w h = cc
stands_by Outside here level w h = cc
stands_by Everywhere here level w h = cc

nameless : (xs : List ℕ) → (length xs == 0) ≡ true → is_wildcard xs ≡ true → ⊥
nameless [] e w = cc
nameless (x ∷ xs) e w = let long = eqb-true (length (x ∷ xs)) 0 e in omega (arith, long)

plain_words : (head : List ℕ) (s t : Step) → IsAlike s t → (same_word head s.head && (length s.name == 0)) ≡ true → (same_word head t.head && (length t.name == 0)) ≡ true
plain_words head s t alike h =
    let parts = both (same_word head s.head) _ h
    in both_true _ _ (ap (same_word head) (sym alike.0) ∙ parts.0) (by_name alike.1 parts.1)
  where
    by_name : ((s.name ≡ t.name) ⊎ (is_wildcard s.name ≡ true)) → (length s.name == 0) ≡ true → (length t.name == 0) ≡ true
    by_name (inl e) g = ap (λ (w : List ℕ). length w == 0) (sym e) ∙ g
    by_name (inr w) g = absurd (nameless s.name g w)

fixed_words : (head name : List ℕ) (s t : Step) → is_wildcard name ≡ false → IsAlike s t → (same_word head s.head && same_word name s.name) ≡ true → (same_word head t.head && same_word name t.name) ≡ true
fixed_words head name s t own alike h =
    let parts = both (same_word head s.head) _ h
    in both_true _ _ (ap (same_word head) (sym alike.0) ∙ parts.0) (by_name alike.1 parts.1)
  where
    by_name : ((s.name ≡ t.name) ⊎ (is_wildcard s.name ≡ true)) → same_word name s.name ≡ true → same_word name t.name ≡ true
    by_name (inl e) g = ap (same_word name) (sym e) ∙ g
    by_name (inr w) g = let c : false ≡ true = sym own ∙ ap is_wildcard (same name s.name g) ∙ w in cc

words_by : (shape : Shape) (head name : List ℕ) (s t : Step) → is_wildcard name ≡ false → IsAlike s t → has_words shape head name s ≡ true → has_words shape head name t ≡ true
words_by Bare head name s t own alike h = ap (λ (w : List ℕ). length w == 0) (sym alike.0) ∙ h
words_by Keyed head name s t own alike h = ap (same_word head) (sym alike.0) ∙ h
words_by Fixed head name s t own alike h = fixed_words head name s t own alike h
words_by Container head name s t own alike h = plain_words head s t alike h
words_by Leaf head name s t own alike h = plain_words head s t alike h
words_by Flag head name s t own alike h = plain_words head s t alike h
words_by Many head name s t own alike h = plain_words head s t alike h

-- what a row of a group says of itself
record IsTame (line : Line) : Type 0 where
  opens : (line.inner == GROUPS) ≡ false
  no_group : (line.number == GROUP) ≡ true → (line.under == GROUPS) ≡ true
  name : is_wildcard (spelled line.name) ≡ false

tame_at : (id : ℕ) → id < length profile → is_within (line_at profile id).reach ≡ true → IsTame (line_at profile id)
tame_at id within reach = by_line (line_at profile id) (all_at is_tame profile id no_line tame within) reach
  where
    is_false : (a : Bool) → not a ≡ true → a ≡ false
    is_false true e = cc
    is_false false e = refl

    if_true : (a b : Bool) → (not a || b) ≡ true → a ≡ true → b ≡ true
    if_true true b e f = e
    if_true false b e f = cc

    by_line : (line : Line) → is_tame line ≡ true → is_within line.reach ≡ true → IsTame line
    by_line line told reach =
        let parts = both (not (is_within line.reach) || (not (line.inner == GROUPS) && (not (line.number == GROUP) || (line.under == GROUPS)))) _ told
        in let more = both (not (line.inner == GROUPS)) _ (if_true (is_within line.reach) _ parts.0 reach)
        in record { opens = is_false _ more.0; no_group = if_true (line.number == GROUP) _ more.1; name = is_false _ parts.1 }

-- one step on
beside_step : (g p next : Place) (s t : Step) → Beside g p → IsAlike s t → was_place_after g s ≡ Some next → (other : Place) × (was_place_after p t ≡ Some other) × Beside next other
beside_step g p next s t beside alike e = (
  entered p next.row,
  lead_back p (entered p next.row) t beside.small_p lead small,
  record {
    deep = ap (λ (n : Place). n.in_group) led.is_entered ∙ ap (λ (b : Bool). b || (next.row == GROUP)) beside.deep;
    out = ap (λ (b : Bool). b || (next.row == GROUP)) beside.out ∙ outside (next.row == GROUP) refl;
    inner = refl;
    other = λ is. let c : false ≡ true = sym own.opens ∙ eq-eqb _ _ is in cc;
    small_g = small;
    small_p = small;
  },
)
  where
    on : (place_after g s ≡ Some next) × (next.row < FIRST_ROWS)
    on = lead_on g next s beside.small_g e

    small : next.row < FIRST_ROWS
    small = on.1

    led : LedTo g s next
    led = led_to g next s on.0

    reached : (is_within (line_at profile next.row).reach ≡ true) × (((line_at profile next.row).under == (line_at profile g.row).inner) ≡ true)
    reached =
        within_by (line_at profile next.row).reach ((line_at profile next.row).under == (line_at profile g.row).inner) (level_of g.row g.in_group)
        (ap (λ (b : Bool). is_grouped g.row b) beside.deep)
        (ap (λ (b : Bool). not (is_grouped g.row b) && has_rows profile (line_at profile g.row).inner) beside.deep) led.stood.1

    own : IsTame (line_at profile next.row)
    own = tame_at next.row led.stood.0 reached.0

    here : ((line_at profile next.row).under == (line_at profile p.row).inner) ≡ true
    here = ap (λ (n : ℕ). (line_at profile next.row).under == n) (sym beside.inner) ∙ reached.1

    lead : place_after p t ≡ Some (entered p next.row)
    lead =
        leads p next.row t (led.stood.0, stands_by (line_at profile next.row).reach ((line_at profile next.row).under == (line_at profile p.row).inner) (level_of p.row p.in_group) reached.0 here)
        (words_by (line_at profile next.row).shape (spelled (line_at profile next.row).head) (spelled (line_at profile next.row).name) s t own.name alike led.words)

    outside : (b : Bool) → (next.row == GROUP) ≡ b → b ≡ false
    outside false f = refl
    outside true f =
        let under = own.no_group (ap (λ (n : ℕ). n == GROUP) (number_at next.row led.stood.0) ∙ f)
        in absurd (beside.other (sym (eqb-true _ _ here) ∙ eqb-true _ _ under))

-- and step by step
alike_places : (r p : List Step) (g s here : Place) → Beside g s → AreAlike r p → was_place_from r g ≡ Some here → (there : Place) × (was_place_from p s ≡ Some there)
alike_places [] [] g s here beside are e = (s, refl)
alike_places [] (t ∷ p) g s here beside are e = absurd are
alike_places (a ∷ r) [] g s here beside are e = absurd are
alike_places (a ∷ r) (t ∷ p) g s here beside are e = by_step (was_place_after g a) refl e (λ next other both more. alike_places r p next other here both are.1 more)
  where
    by_step : (o : Option Place) → was_place_after g a ≡ o → and_then (was_place_from r) o ≡ Some here
        → ((next other : Place) → Beside next other → was_place_from r next ≡ Some here → (there : Place) × (was_place_from p other ≡ Some there))
        → (there : Place) × (was_place_from (t ∷ p) s ≡ Some there)
    by_step None f more go = cc
    by_step (Some next) f more go =
        let on = beside_step g s next a t beside are.0 f
        in let there = go next on.0 on.2 more
        in (there.0, ap (and_then (was_place_from p)) on.1 ∙ there.1)

-- below a group's name stands what stands at the top
in_any_group : Place
in_any_group = record { row = 3; in_group = true }

at_groups : was_place_after top_place groups_step ≡ Some (record { row = 2; in_group = false })
unfolding before profile
at_groups = refl

at_group : (name : List ℕ) → was_place_after (record { row = 2; in_group = false }) (step_of [] name) ≡ Some in_any_group
unfolding before profile in_any_group
at_group name = refl

group_beside : Beside in_any_group top_place
unfolding profile in_any_group
group_beside = record { deep = refl; out = refl; inner = refl; other = λ e. omega (arith, e); small_g = omega arith; small_p = omega arith }

module _ (m : Statements) (was : WasTree m) (full : Expansion) (expansion : WasExpansion m full) where
  -- a path of the expansion leads to a row of the first profile
  pub leads_there : (path : List Step) (given : Given) → finite.get full path ≡ Some given → Led path top_place
  leads_there [] given found = record { here = top_place; was = refl; is = refl; small = omega arith }
  leads_there (t ∷ p) given found = by_gift (given_from (finite.get m) (steps_below m) (t ∷ p) some)
    where
      some : is_some (gift_at (finite.get m) (steps_below m) (t ∷ p)) ≡ true
      some = ap is_some (sym (expansion.gifts (t ∷ p) (λ e. cc))) ∙ ap (λ (o : Option Given). is_some (option_map gift_of o)) found

      by_gift : GivenFrom (finite.get m) (steps_below m) (t ∷ p) → Led (t ∷ p) top_place
      by_gift (inl live) = (follows m was (t ∷ p) (live_some (finite.get m) [] t p live)).1
      by_gift (inr (group, from, fits)) =
          let there : is_some (finite.get m (groups_step ∷ step_of [] group ∷ fits.rest)) ≡ true =
          live_some (finite.get m) [] groups_step (step_of [] group ∷ fits.rest) (ap (is_live (finite.get m)) (sym fits.is) ∙ fits.live)
          in let led = (follows m was (groups_step ∷ step_of [] group ∷ fits.rest) there).1
          in let inside : was_place_from fits.rest in_any_group ≡ Some led.here =
          sym (ap (and_then (was_place_from (step_of [] group ∷ fits.rest))) at_groups ∙ ap (and_then (was_place_from fits.rest)) (at_group group)) ∙ led.was
          in let found = alike_places fits.rest (t ∷ p) in_any_group top_place led.here group_beside fits.alike inside
          in led_on (t ∷ p) top_place found.0 (omega arith) found.1

  pub is_expansion : IsExpansion m full
  is_expansion = record {
    gifts = expansion.gifts;
    top = expansion.top;
    orders = λ path given found.
        let led = leads_there path given found
        in let same : was_ordered_head (was_place_of path) ≡ ordered_head (place_of path) = ap was_ordered_head led.was ∙ sym (same_order led.here led.small) ∙ ap ordered_head (sym led.is)
        in expansion.orders path given found ∙ ap (order_by (finite.get m) full path) same;
  }
