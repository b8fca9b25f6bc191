-- The row that a word begins, alone and with the word after it.
use Rattle.std.proofs.Common.{◌≡◌, ◌≢◌, ℕ, zero, suc, ◌<◌, Bool, true, false, cond, List, [], ◌∷◌, length, filter, refl, sym, ap, subst, ◌∙◌, inl, inr, arith}
use Rattle.std.proofs.lemmas.List.{length-map}
use Rattle.cfg_base.specs.declared.kind.Kind.{Kind}
use Rattle.cfg_base.specs.declared.kind.Shape.{Shape}
use Rattle.cfg_base.specs.declared.kind.Shape.TheVariants.{Container, Fixed, Keyed, Bare, Leaf, Flag, Many}
use Rattle.cfg_schema.specs.declared.answer.Child.{Child}
use Rattle.cfg_schema.specs.declared.answer.Child.TheVariants as begun
use Rattle.cfg_schema.specs.declared.table.Line.{Line}
use Rattle.cfg_schema.specs.Profile.{profile, row_of, name_of, level_of, stands, line_at, StandsBelow}
use Rattle.cfg_schema.specs.Child.{child_of, Begins, HasHead, IsNoHead}
use Rattle.cfg_schema.proofs.ChildLemmas.{child_begins}
use Rattle.cfg_schema.proofs.BegunLemmas.{head_begins_row}
use Rattle.curly_grammar.specs.declared.phase.Marks.{Marks}
use Rattle.curly_grammar.specs.declared.phase.Phase.TheVariants.{Naming}
use Rattle.curly_grammar.specs.Grammar.{Level}
use Rattle.curly_grammar.specs.Reading.{child_at, HasRows, quiet, BeginsAs, BeginsStep}

row_same : (a b : ℕ) → begun.Row a ≡ begun.Row b → a ≡ b
row_same a b e = cc

begins_there : (c : Child) (parent : ℕ) (in_group : Bool) (word next : List ℕ) → child_of parent in_group word next ≡ c → Begins parent in_group word next c
begins_there c parent in_group word next e = subst (λ (d : Child). Begins parent in_group word next d) e (child_begins parent in_group word next)

module _ (parent : ℕ) (in_group : Bool) (word next : List ℕ) (row : ℕ) (begun_is : child_of parent in_group word next ≡ begun.Row row) where
  -- a row that a word begins stands there
  pub row_stands : StandsBelow parent in_group row
  row_stands = by_case (begins_there (begun.Row row) parent in_group word next begun_is)
    where
      by_case : Begins parent in_group word next (begun.Row row) → StandsBelow parent in_group row
      by_case (inl h) = h.0.0
      by_case (inr h) = h.1

  -- a row that is no bare name has the word as its head
  pub row_head : (row_of row).shape ≢ Bare → HasHead parent in_group word row
  row_head not_bare = by_case (begins_there (begun.Row row) parent in_group word next begun_is)
    where
      by_case : Begins parent in_group word next (begun.Row row) → HasHead parent in_group word row
      by_case (inl h) = h.0
      by_case (inr h) = absurd (not_bare h.2)

  -- a bare name is no head
  pub row_bare : (row_of row).shape ≡ Bare → IsNoHead parent in_group word
  row_bare bare = by_case (begins_there (begun.Row row) parent in_group word next begun_is)
    where
      by_case : Begins parent in_group word next (begun.Row row) → IsNoHead parent in_group word
      by_case (inl h) = absurd (h.0.1 bare)
      by_case (inr h) = h.0

  -- the name of a Fixed row is the word after its head
  pub row_name : (row_of row).shape ≡ Fixed → name_of row ≡ next
  row_name fixed = by_case (begins_there (begun.Row row) parent in_group word next begun_is)
    where
      by_case : Begins parent in_group word next (begun.Row row) → name_of row ≡ next
      by_case (inl h) = h.1 fixed
      by_case (inr h) = let e : Fixed ≡ Bare = sym fixed ∙ h.2 in cc

  -- a row that isn't Fixed is begun by its head, whatever stands after it
  pub row_alone : (row_of row).shape ≢ Bare → (row_of row).shape ≢ Fixed → (other : List ℕ) → child_of parent in_group word other ≡ begun.Row row
  row_alone not_bare not_fixed other = head_begins_row parent in_group word other row (row_head not_bare) (λ e. absurd (not_fixed e))

-- a row with its head, and its name where it is Fixed
pub fixed_begun : (parent : ℕ) (in_group : Bool) (word : List ℕ) (row : ℕ) → HasHead parent in_group word row → child_of parent in_group word (name_of row) ≡ begun.Row row
fixed_begun parent in_group word row head = head_begins_row parent in_group word (name_of row) row head (λ e. refl)

-- a shape that is no other than Fixed needs a name
naming_as : (shape : Shape) (kind : Kind) (row : ℕ) (at : Level) (marks : Marks) (word : List ℕ) → (shape ≢ Fixed → ⊥) → BeginsAs shape kind row at marks word (quiet (Naming marks at word))
naming_as Fixed kind row at marks word h = refl
naming_as Keyed kind row at marks word h = refl
naming_as Container kind row at marks word h = absurd (h (λ e. cc))
naming_as Bare kind row at marks word h = absurd (h (λ e. cc))
naming_as Leaf kind row at marks word h = absurd (h (λ e. cc))
naming_as Flag kind row at marks word h = absurd (h (λ e. cc))
naming_as Many kind row at marks word h = absurd (h (λ e. cc))

-- the head of a Fixed row needs a name
pub fixed_wants_name : (at : Level) (marks : Marks) (word : List ℕ) (row : ℕ) → HasHead at.place.row at.place.in_group word row → (row_of row).shape ≡ Fixed
    → BeginsStep (child_at at word []) at marks word (quiet (Naming marks at word))
fixed_wants_name at marks word row head fixed = by_child (child_at at word []) refl (child_begins at.place.row at.place.in_group word [])
  where
    by_child : (c : Child) → child_at at word [] ≡ c → Begins at.place.row at.place.in_group word [] c → BeginsStep c at marks word (quiet (Naming marks at word))
    by_child begun.Unknown is b = absurd (b.0 row head)
    by_child (begun.BadName other) is b = refl
    by_child (begun.Row other) is (inr b) = absurd (b.0 row head)
    by_child (begun.Row other) is (inl b) =
        naming_as (row_of other).shape _ other at marks word (λ not_fixed.
        let one = head_begins_row at.place.row at.place.in_group word (name_of row) other b.0 (λ e. absurd (not_fixed e))
        in let two = fixed_begun at.place.row at.place.in_group word row head
        in not_fixed (ap (λ (k : ℕ). (row_of k).shape) (row_same other row (sym one ∙ two)) ∙ fixed))

kept_by : (b : Bool) (line : Line) (rest : List Line) → 0 < length rest → 0 < length (cond b (line ∷ rest) rest)
kept_by true line rest h = omega arith
kept_by false line rest h = h

kept_some : (lines : List Line) (p : Line → Bool) (k : ℕ) → k < length lines → p (line_at lines k) ≡ true → 0 < length (filter p lines)
kept_some [] p k below h = absurd (omega arith)
kept_some (line ∷ lines) p zero below h = subst (λ (b : Bool). 0 < length (cond b (line ∷ filter p lines) (filter p lines))) (sym h) (omega arith)
kept_some (line ∷ lines) p (suc k) below h = kept_by (p line) line (filter p lines) (kept_some lines p k (omega arith) h)

-- a level at which a row stands has rows
pub rows_there : (at : Level) (row : ℕ) → StandsBelow at.place.row at.place.in_group row → HasRows at
rows_there at row stood =
    let some = kept_some profile (stands (level_of at.place.row at.place.in_group)) row stood.0 stood.1
    in subst (λ (n : ℕ). 0 < n) (sym (length-map (filter (stands (level_of at.place.row at.place.in_group)) profile) (λ (line : Line). line.number))) some

-- a row of those that are kept
pub record Kept (lines : List Line) (p : Line → Bool) : Type 0 where
  pub place : ℕ
  pub within : place < length lines
  pub passes : p (line_at lines place) ≡ true

kept_behind : (b : Bool) (line : Line) (lines : List Line) (p : Line → Bool) → p line ≡ b → 0 < length (cond b (line ∷ filter p lines) (filter p lines))
    → (0 < length (filter p lines) → Kept lines p) → Kept (line ∷ lines) p
kept_behind true line lines p e h more = record { place = 0; within = omega arith; passes = e }
kept_behind false line lines p e h more =
    let there = more h in record { place = suc there.place; within = let below = there.within in omega (arith, below); passes = there.passes }

some_kept : (lines : List Line) (p : Line → Bool) → 0 < length (filter p lines) → Kept lines p
some_kept [] p h = absurd (omega arith)
some_kept (line ∷ lines) p h = kept_behind (p line) line lines p refl h (some_kept lines p)

-- and a row stands at a level that has some
pub row_there : (at : Level) → HasRows at → (row : ℕ) × StandsBelow at.place.row at.place.in_group row
row_there at h =
    let some : 0 < length (filter (stands (level_of at.place.row at.place.in_group)) profile) =
    subst (λ (n : ℕ). 0 < n) (length-map (filter (stands (level_of at.place.row at.place.in_group)) profile) (λ (line : Line). line.number)) h
    in let kept = some_kept profile (stands (level_of at.place.row at.place.in_group)) some
    in (kept.place, (kept.within, kept.passes))
