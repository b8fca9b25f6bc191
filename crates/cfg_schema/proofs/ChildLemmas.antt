-- What `child` answers is what the word begins.
use Rattle.std.proofs.Common.{◌≡◌, ◌≢◌, ℕ, ◌<◌, Bool, true, false, not, ◌&&◌, List, length, refl, arith, Option, Some, None, inl, inr, position, ap, ◌∙◌, subst, sym}
use Rattle.std.proofs.lemmas.List.Quantifiers.{position-Some}
use Rattle.cfg_base.specs.declared.kind.Shape.TheVariants.{Fixed}
use Rattle.cfg_schema.specs.declared.table.Line.{Line}
use Rattle.cfg_schema.specs.declared.level.Level.{Level}
use Rattle.cfg_schema.specs.declared.answer.Child.{Child}
use Rattle.cfg_schema.specs.Keyword.{spelled}
use Rattle.cfg_schema.specs.Profile.{profile, level_in, line_at, no_line, stands, begins, goes_on, names, is_bare, is_fixed, same_word, level_of}
use Rattle.cfg_schema.specs.Child.{first_of, child_in, child_of, HasHead, IsNoHead, Begins}
use Rattle.cfg_schema.proofs.TestLemmas.{both, both_true, not_true, not_false, bare, bare_is, fixed, fixed_is, not_bare, bare_not, same, same_is, neither, other_of, second_false, not_is_false, not_is_true, position-None}

module _ (parent : ℕ) (in_group : Bool) (word next : List ℕ) where
  -- a row with the word as its head passes the test, and the other way round
  has_head : (id : ℕ) → id < length profile → begins (level_of parent in_group) word (line_at profile id) ≡ true → HasHead parent in_group word id
  has_head id below h =
      let parts = both (stands (level_of parent in_group) (line_at profile id)) _ h
      in let head = both (not (is_bare (line_at profile id).shape)) _ parts.1
      in ((below, parts.0), not_bare _ (not_true _ head.0), same _ _ head.1)

  head_begins : (id : ℕ) → HasHead parent in_group word id → begins (level_of parent in_group) word (line_at profile id) ≡ true
  head_begins id h = both_true _ _ h.0.1 (both_true _ _ (not_false _ (bare_not _ h.1)) (same_is _ _ h.2))

  no_head : position (begins (level_of parent in_group) word) profile ≡ None → IsNoHead parent in_group word
  no_head none id h =
      let t = head_begins id h
      in let f = position-None (begins (level_of parent in_group) word) profile id no_line none h.0.0
      in cc

  -- a word that can't follow says that the row is Fixed and has another name
  stops : (line : Line) → goes_on next line ≡ false → (line.shape ≡ Fixed) × (spelled line.name ≢ next)
  stops line h =
      let parts = neither (not (is_fixed line.shape)) (same_word (spelled line.name) next) h
      in (fixed _ (not_is_false _ parts.0), λ e. let t = same_is _ _ e in let f = parts.1 in cc)

  goes : (line : Line) → goes_on next line ≡ true → line.shape ≡ Fixed → spelled line.name ≡ next
  goes line h e = same _ _ (other_of _ _ h (not_is_true _ (fixed_is _ e)))

  by_first : (fit head name : Option ℕ)
      → position (λ line. begins (level_of parent in_group) word line && goes_on next line) profile ≡ fit
      → position (begins (level_of parent in_group) word) profile ≡ head
      → position (names (level_of parent in_group)) profile ≡ name
      → Begins parent in_group word next (first_of fit head name)
  by_first (Some id) head name e f g =
      let at = position-Some (λ line. begins (level_of parent in_group) word line && goes_on next line) profile id no_line e
      in let parts = both (begins (level_of parent in_group) word (line_at profile id)) _ at.1
      in inl (has_head id at.0 parts.0, goes (line_at profile id) parts.1)
  by_first None (Some id) name e f g =
      let at = position-Some (begins (level_of parent in_group) word) profile id no_line f
      in (
        has_head id at.0 at.1,
        λ other h.
            let begun = head_begins other h
            in let fails = position-None (λ line. begins (level_of parent in_group) word line && goes_on next line) profile other no_line e h.0.0
            in let not_before : other < id → ⊥ = λ before. let never = at.2 other before in cc
            in let stopped = stops (line_at profile other) (second_false _ _ fails begun)
            in (omega arith, stopped.0, stopped.1),
      )
  by_first None None (Some id) e f g =
      let at = position-Some (names (level_of parent in_group)) profile id no_line g
      in let parts = both (stands (level_of parent in_group) (line_at profile id)) _ at.1
      in inr (no_head f, (at.0, parts.0), bare _ parts.1)
  by_first None None None e f g = (
    no_head f,
    λ id h is_bare_there.
        let named = both_true _ _ h.1 (bare_is _ is_bare_there)
        in let never = position-None (names (level_of parent in_group)) profile id no_line g h.0
        in cc,
  )

-- `child` answers what the word begins
pub child_begins : (parent : ℕ) (in_group : Bool) (word next : List ℕ) → Begins parent in_group word next (child_of parent in_group word next)
child_begins parent in_group word next = by_first parent in_group word next _ _ _ refl refl refl

-- the answer found in these rows is that of the profile
pub answered : (parent number : ℕ) (in_group : Bool) (word next : List ℕ) (lines : List Line) (level : Level) (result : Child)
    → lines ≡ profile → number ≡ parent → level ≡ level_in lines number in_group → result ≡ child_in lines level word next
    → result ≡ child_of parent in_group word next
answered parent number in_group word next lines level result a b c d =
    d
    ∙ ap (λ (l : Level). child_in lines l word next) c
    ∙ ap (λ (n : ℕ). child_in lines (level_in lines n in_group) word next) b
    ∙ ap (λ (ls : List Line). child_in ls (level_in ls parent in_group) word next) a

pub answered_begins : (parent : ℕ) (in_group : Bool) (word next : List ℕ) (result : Child)
    → result ≡ child_of parent in_group word next → Begins parent in_group word next result
answered_begins parent in_group word next result e =
    subst (λ (r : Child). Begins parent in_group word next r) (sym e) (child_begins parent in_group word next)
