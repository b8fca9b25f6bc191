-- An allowed show is of what is seen.
use Rattle.std.proofs.Common.{◌≡◌, ◌⊎◌, inl, inr, ℕ, Bool, true, false, not, cond, List, [], ◌∷◌, ◌++◌, map, refl, sym, ap, subst, ◌∙◌, Option, Some, None, is_some}
use Rattle.std.specs.FinMap as finite
use Rattle.std.specs.List.{AllByRecursion}
use Rattle.cfg_base.specs.declared.path.Step.{Step}
use Rattle.cfg_base.specs.declared.value.Value.{Value}
use Rattle.commands.specs.declared.command.Form.{Form}
use Rattle.commands.specs.declared.command.Form.TheVariants.{Curly, SetLines, Inherited}
use Rattle.cfg_resolve.proofs.TargetLemmas.{resolved_target}
use Rattle.cfg_tree.specs.Full.{Expansion}
use Rattle.cfg_tree.specs.Statements.{Statements}
use Rattle.cfg_tree.specs.Tree.{IsTree}
use Rattle.cfg_tree.specs.Typed.{IsLevelPath, IsTypedPath}
use Rattle.cfg_tree.proofs.MapLemmas.{same_statements}
use Rattle.curly_print.specs.Printed.{printed}
use Rattle.curly_print.specs.Inherited.{printed_full}
use Rattle.group_expand.specs.Expansion.{AreAlikeIn, IsExpansion}
use Rattle.set_text.specs.Printed.{printed_set}
use Rattle.access_rules.specs.declared.right.Right.{Right}
use Rattle.access_rules.specs.declared.right.Right.TheVariants.{See}
use Rattle.access_rules.specs.declared.section.Section.{Section}
use Rattle.access_rules.specs.declared.section.Section.TheVariants.{System, Interface, Routing, Firewall}
use Rattle.access_rules.specs.Sections.{all_sections, section_of}
use Rattle.access_rules.specs.Rights.{has_right}
use Rattle.access_rules.specs.Needs.{first_missing, form_needs, right_in, show_needs}
use Rattle.access_rules.specs.Sight.{AreSeenAlike, IsAllowedShow, IsShownPath, sees, sees_step}
use Rattle.access_rules.proofs.LinesLemmas.{printed_set_same}
use Rattle.access_rules.proofs.SectionLemmas.{named_starts, typed_section}
use Rattle.access_rules.proofs.TextLemmas.{printed_full_same, printed_same}

-- words give each of these rights
abbrev AreHad : List (List ℕ) → List Right → Type 0
AreHad words needs = AllByRecursion (λ right. has_right words right ≡ true) needs

-- so it is where none is missing
all_had : (words : List (List ℕ)) (needs : List Right) → first_missing words needs ≡ None → AreHad words needs
all_had words [] h = tt
all_had words (right ∷ needs) h = by_test (has_right words right) refl h (λ k. all_had words needs k)
  where
    by_test : (b : Bool) → has_right words right ≡ b → cond (not b) (Some right) (first_missing words needs) ≡ None
        → (first_missing words needs ≡ None → AreHad words needs) → AreHad words (right ∷ needs)
    by_test true e k go = (e, go k)
    by_test false e k go = cc

latter : (words : List (List ℕ)) (xs ys : List Right) → AreHad words (xs ++ ys) → AreHad words ys
latter words [] ys h = h
latter words (x ∷ xs) ys h = latter words xs ys h.1

-- words let see every section
abbrev SeesAll : List (List ℕ) → Type 0
SeesAll words = AreHad words (map See all_sections)

-- and so each statement of a section
all_seen : (words : List (List ℕ)) → SeesAll words → (o : Option Section) → is_some o ≡ true → sees words o ≡ true
all_seen words h None e = cc
all_seen words h (Some System) e = h.0
all_seen words h (Some Interface) e = h.1.0
all_seen words h (Some Routing) e = h.1.1.0
all_seen words h (Some Firewall) e = h.1.1.1.0

one_seen : (words : List (List ℕ)) (o : Option Section) → is_some o ≡ true → AreHad words (right_in See o) → sees words o ≡ true
one_seen words None e h = cc
one_seen words (Some section) e h = h.0

-- a path below a statement at the top that words let see
record IsSeen (words : List (List ℕ)) (path : List Step) : Type 0 where
  first : Step
  rest : List Step
  is : path ≡ first ∷ rest
  seen : sees_step words first ≡ true

-- what an allowed show is of: everything, where everything is seen, or a statement that is seen
abbrev IsInSight : List (List ℕ) → List Step → Type 0
IsInSight words path = ((path ≡ []) × SeesAll words) ⊎ IsSeen words path

in_sight : (words : List (List ℕ)) (level : List Step) (asked : List (List ℕ)) (form : Form) (path : List Step) → IsLevelPath level
    → IsAllowedShow words level asked form path → IsInSight words path
in_sight words [] [] form path is_level show = inl (show.shown, latter words (form_needs form) (map See all_sections) (all_had words _ show.may))
in_sight words [] (word ∷ asked) form path is_level show =
    let found = show.shown.0
    in let starts = named_starts (word ∷ asked) found show.shown.1
    in let typed = subst IsTypedPath starts.is (resolved_target [] (word ∷ asked) found is_level show.shown.1).typed
    in let there = typed_section starts.first starts.rest typed
    in inr
    (record {
      first = starts.first;
      rest = starts.rest;
      is = show.shown.2 ∙ starts.is;
      seen = one_seen words (section_of starts.first.head) there
          (subst (λ (w : List ℕ). AreHad words (right_in See (section_of w))) (sym starts.head)
          (latter words (form_needs form) (right_in See (section_of word)) (all_had words _ show.may)));
    })
in_sight words (step ∷ level) asked form path is_level show =
    let there = typed_section step level is_level.typed
    in let seen = one_seen words (section_of step.head) there (latter words (form_needs form) (right_in See (section_of step.head)) (all_had words _ show.may))
    in let at = below asked show.shown in inr (record { first = step; rest = at.0; is = at.1; seen = seen })
  where
    below : (asked : List (List ℕ)) → IsShownPath (step ∷ level) asked path → (rest : List Step) × (path ≡ step ∷ rest)
    below [] e = (level, e)
    below (word ∷ asked) h =
        let t = resolved_target (step ∷ level) (word ∷ asked) h.0 is_level h.1 in (level ++ t.rest, h.2 ∙ t.below)

module _ (words : List (List ℕ)) (m n : Statements) (one : IsTree m) (two : IsTree n) (alike : AreSeenAlike words m n) where
  -- where all is seen they are one configuration
  same_map : SeesAll words → m ≡ n
  same_map all = same_statements m n at
    where
      step_at : (s : Step) (rest : List Step) (o p : Option Value) → finite.get m (s ∷ rest) ≡ o → finite.get n (s ∷ rest) ≡ p → o ≡ p
      step_at s rest None None e f = refl
      step_at s rest (Some x) p e f =
          sym e ∙ alike s rest (all_seen words all _ (typed_section s rest (one.typed.paths (s ∷ rest) (ap is_some e)))) ∙ f
      step_at s rest None (Some y) e f =
          sym e ∙ alike s rest (all_seen words all _ (typed_section s rest (two.typed.paths (s ∷ rest) (ap is_some f)))) ∙ f

      at : (q : List Step) → finite.get m q ≡ finite.get n q
      at [] = one.statements.top ∙ sym two.statements.top
      at (s ∷ rest) = step_at s rest _ _ refl refl

  curly_same : (path : List Step) → IsInSight words path → printed m path ≡ printed n path
  curly_same path (inl top) = ap (λ (k : Statements). printed k path) (same_map top.1)
  curly_same path (inr in_one) =
      ap (printed m) in_one.is ∙ printed_same m n in_one.first (λ q. alike in_one.first q in_one.seen) in_one.rest ∙ sym (ap (printed n) in_one.is)

  lines_same : (path : List Step) → IsInSight words path → printed_set m path ≡ printed_set n path
  lines_same path (inl top) = ap (λ (k : Statements). printed_set k path) (same_map top.1)
  lines_same path (inr in_one) =
      ap (printed_set m) in_one.is ∙ printed_set_same m n in_one.first (λ q. alike in_one.first q in_one.seen) in_one.rest ∙ sym (ap (printed_set n) in_one.is)

  -- what is seen has `groups` and what applies them
  seen_groups : has_right words (See System) ≡ true → AreAlikeIn (sees_step words) m n
  seen_groups groups = record { statements = alike; groups = groups; applied = groups; excepted = groups }

pub curly_told : (words : List (List ℕ)) (m n : Statements) (level path : List Step) (asked : List (List ℕ)) → IsTree m → IsTree n
    → AreSeenAlike words m n → IsLevelPath level → IsAllowedShow words level asked Curly path → printed m path ≡ printed n path
curly_told words m n level path asked one two alike is_level show = curly_same words m n one two alike path (in_sight words level asked Curly path is_level show)

pub lines_told : (words : List (List ℕ)) (m n : Statements) (level path : List Step) (asked : List (List ℕ)) → IsTree m → IsTree n
    → AreSeenAlike words m n → IsLevelPath level → IsAllowedShow words level asked SetLines path → printed_set m path ≡ printed_set n path
lines_told words m n level path asked one two alike is_level show = lines_same words m n one two alike path (in_sight words level asked SetLines path is_level show)

module _ (one_full : (m : Statements) (full other : Expansion) → IsExpansion m full → IsExpansion m other → full ≡ other)
    (part_same : (m n : Statements) (full other : Expansion) (in_part : Step → Bool) → AreAlikeIn in_part m n → IsExpansion m full → IsExpansion n other
    → (step : Step) (path : List Step) → in_part step ≡ true → finite.get full (step ∷ path) ≡ finite.get other (step ∷ path)) where
  pub inherited_told : (words : List (List ℕ)) (m n : Statements) (level path : List Step) (asked : List (List ℕ)) (full other : Expansion) → IsTree m → IsTree n
      → AreSeenAlike words m n → IsLevelPath level → IsAllowedShow words level asked Inherited path → IsExpansion m full → IsExpansion n other
      → printed_full full path ≡ printed_full other path
  inherited_told words m n level path asked full other one two alike is_level show expands too =
      by_sight (in_sight words level asked Inherited path is_level show) (all_had words (show_needs level asked Inherited) show.may).0
    where
      by_sight : IsInSight words path → has_right words (See System) ≡ true → printed_full full path ≡ printed_full other path
      by_sight (inl top) groups =
          let e = same_map words m n one two alike top.1
          in ap (λ (f : Expansion). printed_full f path) (one_full m full other expands (subst (λ (k : Statements). IsExpansion k other) (sym e) too))
      by_sight (inr in_one) groups =
          ap (printed_full full) in_one.is
          ∙ printed_full_same full other in_one.first
          (λ q. part_same m n full other (sees_step words) (seen_groups words m n one two alike groups) expands too in_one.first q in_one.seen)
          in_one.rest
          ∙ sym (ap (printed_full other) in_one.is)
