-- What was accepted is accepted: the new rules speak of rows that no path of such an expansion follows.
use Rattle.std.proofs.Common.{◌≡◌, ◌<◌, ◌==◌, ℕ, Bool, true, false, ◌||◌, List, [], ◌∷◌, length, Option, Some, None, is_some, refl, sym, ap, subst, ◌∙◌, arith, eqb-true}
use Rattle.std.specs.List.{list_all, list_any}
use Rattle.std.specs.FinMap as finite
use Rattle.cfg_base.specs.declared.path.Step.{Step}
use Rattle.cfg_schema.specs.declared.place.Place.{Place}
use Rattle.cfg_schema.specs.declared.table.Line.{Line}
use Rattle.cfg_schema.specs.Profile.{profile, line_at, no_line, is_step_of}
use Rattle.cfg_schema.specs.Place.{and_then, top_place}
use Rattle.cfg_schema.proofs.TestLemmas.{both}
use Rattle.cfg_schema.proofs.RowFacts.{number_at}
use Rattle.cfg_schema.proofs.LevelLemmas.{all_at, led_to}
use Rattle.cfg_schema.proofs.WordsLemmas.{told, told_apart, words_differ}
use Rattle.cfg_tree.specs.declared.first_profile.TheConstants.{FIRST_ROWS}
use Rattle.cfg_tree.specs.declared.full.Given.{Given}
use Rattle.cfg_tree.specs.Full.{Expansion}
use Rattle.cfg_tree.specs.Statements.{Statements}
use Rattle.commit_check.specs.declared.rule.CommitRule.{CommitRule}
use Rattle.commit_check.specs.declared.rule.CommitRule.TheVariants.{Width, Groups, Each, Apart, TextLength}
use Rattle.commit_check.specs.declared.rule.StatementRule.TheVariants.{UserClass, KnownClass, VlanTagging, PeerAs, Policies, PrefixLists, OneWay, Units, Network, Filters, FilterEnds}
use Rattle.commit_check.specs.declared.rule.KeyRule.TheVariants.{Addresses, Addresses6, VlanIds}
use Rattle.commit_check.specs.declared.rule.TheConstants.{MAX_TEXT}
use Rattle.commit_check.specs.Accepts.{Holds, IsAccepted}
use Rattle.commit_check.specs.Kinds.{begin_as, is_filter_end, is_filter_use}
use Rattle.profile_laws.specs.Before.{before, was_place_after, was_place_from}
use Rattle.profile_laws.specs.Was.{WasAccepted}
use Rattle.profile_laws.proofs.TableLemmas.{lead_on, same_line}
use Rattle.profile_laws.proofs.TypedLemmas.{is_tree}
use Rattle.profile_laws.proofs.TextLemmas.{printed_same}
use Rattle.profile_laws.proofs.ExpansionLemmas.{is_expansion, leads_there}

-- no row of before has the words of one of these
abbrev differs_from : ℕ → Line → Bool
differs_from new line = words_differ line.number new

no_inet6 : list_all (differs_from 93) before ≡ true
unfolding before profile
no_inet6 = refl

no_filter : list_all (differs_from 96) before ≡ true
unfolding before profile
no_filter = refl

no_firewall : list_all (differs_from 99) before ≡ true
unfolding before profile
no_firewall = refl

no_vlans : list_all (differs_from 115) before ≡ true
unfolding before profile
no_vlans = refl

before_has : (id : ℕ) → id < FIRST_ROWS → id < length before
unfolding before profile
before_has id h = omega (arith, h)

-- so no step of a path that led somewhere has them
no_step_of : (new : ℕ) → list_all (differs_from new) before ≡ true → (path : List Step) (start there : Place) → start.row < FIRST_ROWS → was_place_from path start ≡ Some there
    → list_any (is_step_of new) path ≡ false
no_step_of new apart [] start there h e = refl
no_step_of new apart (step ∷ rest) start there h e = by_step (was_place_after start step) refl e (λ next small more. no_step_of new apart rest next there small more)
  where
    other : (b : Bool) → (b ≡ true → ⊥) → b ≡ false
    other true never = absurd (never refl)
    other false never = refl

    by_step : (o : Option Place) → was_place_after start step ≡ o → and_then (was_place_from rest) o ≡ Some there
        → ((next : Place) → next.row < FIRST_ROWS → was_place_from rest next ≡ Some there → list_any (is_step_of new) rest ≡ false)
        → list_any (is_step_of new) (step ∷ rest) ≡ false
    by_step None f more go = cc
    by_step (Some next) f more go =
        let on = lead_on start next step h f
        in let led = led_to start next step on.0
        in let number : (line_at before next.row).number ≡ next.row = ap (λ (l : Line). l.number) (same_line next.row on.1) ∙ number_at next.row led.stood.0
        in let differ = subst (λ (n : ℕ). words_differ n new ≡ true) number (all_at (differs_from new) before next.row no_line apart (before_has next.row on.1))
        in let none = other (is_step_of new step) (told_apart next.row new step differ (told next.row step led.stood.0 led.words))
        in ap (λ (b : Bool). b || list_any (is_step_of new) rest) none ∙ go next on.1 more

-- a path of some rows has a step of each
has_step : (new : ℕ) (rows : List ℕ) (path : List Step) → list_any (λ (row : ℕ). row == new) rows ≡ true → begin_as rows path ≡ true → list_any (is_step_of new) path ≡ true
has_step new [] path among begins = cc
has_step new (row ∷ rows) [] among begins = cc
has_step new (row ∷ rows) (step ∷ path) among begins =
    let parts = both (is_step_of row step) _ begins
    in by_row (row == new) refl among parts.0 (λ more. has_step new rows path more parts.1)
  where
    first : (a b : Bool) → a ≡ true → (a || b) ≡ true
    first true b h = refl
    first false b h = cc

    second : (a b : Bool) → b ≡ true → (a || b) ≡ true
    second true b h = refl
    second false b h = h

    by_row : (b : Bool) → (row == new) ≡ b → (b || list_any (λ (r : ℕ). r == new) rows) ≡ true → is_step_of row step ≡ true
        → (list_any (λ (r : ℕ). r == new) rows ≡ true → list_any (is_step_of new) path ≡ true) → (is_step_of new step || list_any (is_step_of new) path) ≡ true
    by_row true e h own go = first _ _ (subst (λ (n : ℕ). is_step_of n step ≡ true) (eqb-true row new e) own)
    by_row false e h own go = second _ _ (go h)

one_of : (a b : Bool) → (a || b) ≡ true → (a ≡ true → ⊥) → (b ≡ true → ⊥) → ⊥
one_of true b h f g = f refl
one_of false b h f g = g h

module _ (m : Statements) (full : Expansion) (was : WasAccepted m full) where
  -- a path of the expansion has no step of such a row
  no_such : (new : ℕ) (rows : List ℕ) (path : List Step) → list_all (differs_from new) before ≡ true → list_any (λ (row : ℕ). row == new) rows ≡ true → is_some (finite.get full path) ≡ true
      → begin_as rows path ≡ true → ⊥
  no_such new rows path apart among there begins = by_given (finite.get full path) refl there
    where
      by_given : (o : Option Given) → finite.get full path ≡ o → is_some o ≡ true → ⊥
      by_given None e some = cc
      by_given (Some given) e some =
          let led = leads_there m was.tree full was.expansion path given e
          in let clash : false ≡ true = sym (no_step_of new apart path top_place led.here (omega arith) led.was) ∙ has_step new rows path among begins
          in cc

  holds : (rule : CommitRule) → Holds rule m full
  holds Width path fails = was.holds Width (omega arith) path fails
  holds Groups path fails = was.holds Groups (omega arith) path fails
  holds (Each UserClass) path fails = was.holds (Each UserClass) (omega arith) path fails
  holds (Each KnownClass) path fails = was.holds (Each KnownClass) (omega arith) path fails
  holds (Each VlanTagging) path fails = was.holds (Each VlanTagging) (omega arith) path fails
  holds (Each PeerAs) path fails = was.holds (Each PeerAs) (omega arith) path fails
  holds (Each Policies) path fails = was.holds (Each Policies) (omega arith) path fails
  holds (Each PrefixLists) path fails = was.holds (Each PrefixLists) (omega arith) path fails
  holds (Each OneWay) path fails = was.holds (Each OneWay) (omega arith) path fails
  holds (Each Units) path fails = was.holds (Each Units) (omega arith) path fails
  holds (Each Network) path fails = was.holds (Each Network) (omega arith) path fails
  holds (Each Filters) path fails =
      one_of (begin_as (30 ∷ 31 ∷ 36 ∷ 40 ∷ 96 ∷ 97 ∷ []) path) (begin_as (30 ∷ 31 ∷ 36 ∷ 40 ∷ 96 ∷ 98 ∷ []) path || false) (both (is_filter_use path) _ fails.told).0
      (λ one. no_such 96 (30 ∷ 31 ∷ 36 ∷ 40 ∷ 96 ∷ 97 ∷ []) path no_filter refl (ap is_some fails.there) one)
      (λ other. one_of (begin_as (30 ∷ 31 ∷ 36 ∷ 40 ∷ 96 ∷ 98 ∷ []) path) false other (λ two. no_such 96 (30 ∷ 31 ∷ 36 ∷ 40 ∷ 96 ∷ 98 ∷ []) path no_filter refl (ap is_some fails.there) two) (λ none. cc))
  holds (Each FilterEnds) path fails = no_such 99 (99 ∷ 100 ∷ 101 ∷ 102 ∷ 110 ∷ []) path no_firewall refl (ap is_some fails.there) (both (is_filter_end path) _ fails.told).0
  holds (Apart Addresses) path fails = was.holds (Apart Addresses) (omega arith) path fails
  holds (Apart Addresses6) path fails = no_such 93 (30 ∷ 31 ∷ 36 ∷ 93 ∷ 95 ∷ []) path no_inet6 refl fails.there fails.keyed
  holds (Apart VlanIds) path fails = no_such 115 (115 ∷ 116 ∷ 118 ∷ []) path no_vlans refl fails.there fails.keyed
  holds TextLength path fails =
      was.holds TextLength (omega arith) path (record { top = fails.top; fails = subst (λ (text : List ℕ). MAX_TEXT < length text) (printed_same m was.tree) fails.fails })

  pub is_accepted : IsAccepted m full
  is_accepted = record { tree = is_tree m was.tree; expansion = is_expansion m was.tree full was.expansion; holds = holds }
