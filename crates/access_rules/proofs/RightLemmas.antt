-- What the words of rights come to.
use Rattle.std.proofs.Common.{◌≡◌, ℕ, Bool, true, false, cond, List, [], ◌∷◌, refl, sym, ap, subst, ◌∙◌, Some, None}
use Rattle.std.specs.Prelude.{◌||◌, find, codes}
use Rattle.std.specs.List.{AllByRecursion}
use Rattle.cfg_base.specs.Words.{lists, same_word}
use Rattle.cfg_schema.proofs.TestLemmas.{same}
use Rattle.access_rules.specs.declared.right.Right.{Right}
use Rattle.access_rules.specs.declared.right.Right.TheVariants.{Alter, See}
use Rattle.access_rules.specs.declared.section.Section.{Section}
use Rattle.access_rules.specs.declared.section.Section.TheVariants.{System, Interface, Routing, Firewall}
use Rattle.access_rules.specs.Sections.{all_sections, alter_word, heads_of, section_of, see_word}
use Rattle.access_rules.specs.Rights.{gives, has_right}
use Rattle.access_rules.specs.Needs.{first_missing}

-- `all` lacks nothing
pub all_lacks_none : (needs : List Right) → first_missing (codes "all" ∷ []) needs ≡ None
all_lacks_none [] = refl
all_lacks_none (right ∷ needs) = all_lacks_none needs

more_words : (a b c d : Bool) → ((a || b) || false) ≡ true → ((a || c) || (b || d)) ≡ true
more_words true b c d h = refl
more_words false true true d h = refl
more_words false true false d h = refl
more_words false false c d h = cc

-- a word that lets change a section lets see it
gives_see : (word : List ℕ) (section : Section) → gives word (Alter section) ≡ true → gives word (See section) ≡ true
gives_see word section h =
    more_words (same_word word (codes "all")) (same_word word (alter_word section)) (same_word word (see_word section)) (same_word word (codes "view-configuration")) h

pub changes_sees : (words : List (List ℕ)) (section : Section) → has_right words (Alter section) ≡ true → has_right words (See section) ≡ true
changes_sees [] section h = h
changes_sees (word ∷ words) section h = by_word (gives word (Alter section)) refl h (λ k. changes_sees words section k)
  where
    either : (a b : Bool) → a ≡ true → (a || b) ≡ true
    either true b e = refl
    either false b e = cc

    later : (a b : Bool) → b ≡ true → (a || b) ≡ true
    later true b e = refl
    later false b e = e

    by_word : (b : Bool) → gives word (Alter section) ≡ b → (b || has_right words (Alter section)) ≡ true
        → (has_right words (Alter section) ≡ true → has_right words (See section) ≡ true)
        → (gives word (See section) || has_right words (See section)) ≡ true
    by_word true e k go = either (gives word (See section)) (has_right words (See section)) (gives_see word section e)
    by_word false e k go = later (gives word (See section)) (has_right words (See section)) (go k)

-- what holds of each word of a list holds of one that it has
module _ (P : List ℕ → Type 0) (word : List ℕ) where
  of_each : (words : List (List ℕ)) → AllByRecursion P words → lists words word ≡ true → P word
  of_each [] each h = cc
  of_each (w ∷ words) each h = by_word (same_word word w) refl h (λ k. of_each words each.1 k)
    where
      by_word : (b : Bool) → same_word word w ≡ b → (b || lists words word) ≡ true → (lists words word ≡ true → P word) → P word
      by_word true e k go = subst P (sym (same word w e)) each.0
      by_word false e k go = go k

-- the first words of a section's statements are of that section alone
own_heads : (section : Section) → AllByRecursion (λ head. section_of head ≡ Some section) (heads_of section)
own_heads System = (refl, (refl, (refl, (refl, (refl, tt)))))
own_heads Interface = (refl, (refl, tt))
own_heads Routing = (refl, (refl, (refl, tt)))
own_heads Firewall = (refl, tt)

pub heads_tell : (section : Section) (word : List ℕ) → lists (heads_of section) word ≡ true → section_of word ≡ Some section
heads_tell section word h = of_each (λ head. section_of head ≡ Some section) word (heads_of section) (own_heads section) h

-- and a statement of a section has one of these words
found_heads : (section : Section) (word : List ℕ) (sections : List Section) → find (λ other. lists (heads_of other) word) sections ≡ Some section
    → lists (heads_of section) word ≡ true
found_heads section word [] e = cc
found_heads section word (other ∷ sections) e = by_test (lists (heads_of other) word) refl e (λ k. found_heads section word sections k)
  where
    by_test : (b : Bool) → lists (heads_of other) word ≡ b → cond b (Some other) (find (λ s. lists (heads_of s) word) sections) ≡ Some section
        → (find (λ s. lists (heads_of s) word) sections ≡ Some section → lists (heads_of section) word ≡ true) → lists (heads_of section) word ≡ true
    by_test true f k go = let same_section : other ≡ section = cc in sym (ap (λ (s : Section). lists (heads_of s) word) same_section) ∙ f
    by_test false f k go = go k

pub told_heads : (section : Section) (word : List ℕ) → section_of word ≡ Some section → lists (heads_of section) word ≡ true
told_heads section word h = found_heads section word all_sections h
