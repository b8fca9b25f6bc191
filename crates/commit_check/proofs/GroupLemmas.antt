-- Whether a path is live, step by step; the words of the statements in question.
use Rattle.std.proofs.Common.{◌≡◌, ℕ, ◌+◌, ◌<◌, ◌==◌, Bool, true, false, not, ◌&&◌, ◌||◌, if◌then◌else◌, Option, Some, List, [], ◌∷◌, length, take, drop, codes, refl, sym, ap, ◌∙◌, arith, eqb-true}
use Rattle.std.specs.FinMap as map
use Rattle.std.specs.List.{list_any}
use Rattle.std.proofs.lemmas.List.{take_more, drop_more}
use Rattle.cfg_base.specs.declared.path.Step.{Step}
use Rattle.cfg_base.specs.declared.value.Value.{Value}
use Rattle.cfg_schema.specs.Profile.{profile, head_of}
use Rattle.cfg_tree.specs.Statements.{Statements, last_of, no_step}
use Rattle.cfg_tree.specs.Tree.{step_of}
use Rattle.group_expand.specs.Live.{Look, is_active, is_live, live_from, live_words, words_of}
use Rattle.group_expand.specs.Sources.{groups_step, apply_step, except_step, same_step}
use Rattle.group_expand.specs.Expansion.{is_apply}
use Rattle.commit_check.specs.Groups.{is_group, names_no_group}
use Rattle.commit_check.specs.Kinds.{plain}

-- a path is live from a place on where it is active at the next step and live from there on
pub live_step : (look : Look) (path : List Step) (n : ℕ) → n < length path
    → live_from look (take n path) (drop n path) ≡ (is_active (look (take (n + 1) path)) && live_from look (take (n + 1) path) (drop (n + 1) path))
live_step look path n below =
    ap (λ (rest : List Step). live_from look (take n path) rest) (drop_more path n no_step below)
    ∙ ap (λ (above : List Step). is_active (look above) && live_from look above (drop (n + 1) path)) (sym (take_more path n no_step below))

-- the row of groups begins with that word
pub groups_head : head_of 2 ≡ codes "groups"
unfolding profile
groups_head = refl

pub groups_plain : plain 2 ≡ groups_step
groups_plain = ap (λ (head : List ℕ). step_of head []) groups_head

-- a path with a step applies or excepts groups by its last step
pub apply_last : (path : List Step) → 0 < length path → is_apply path ≡ (same_step apply_step (last_of path) || same_step except_step (last_of path))
apply_last [] some = absurd (omega (arith, some))
apply_last (step ∷ rest) some = refl

-- a statement without words names no group
pub wordless : (m : Statements) (path : List Step) (value : Value) → map.get m path ≡ Some value → true ≡ (length value.words == 0) → false ≡ names_no_group m path
wordless m path value there none = sym (apart (is_apply path) (words (is_live (map.get m) path) (map.get m path) there))
  where
    unknown : List (List ℕ) → Bool
    unknown names = list_any (λ name. not (is_group m name)) names

    no_words : (names : List (List ℕ)) → true ≡ (length names == 0) → unknown names ≡ false
    no_words [] e = refl
    no_words (name ∷ names) e = absurd (omega (arith, eqb-true (length (name ∷ names)) 0 (sym e)))

    words : (live : Bool) (o : Option Value) → o ≡ Some value → unknown (if live then words_of o else []) ≡ false
    words true o e = ap (λ (x : Option Value). unknown (words_of x)) e ∙ no_words value.words none
    words false o e = refl

    apart : (a : Bool) → unknown (live_words (map.get m) path) ≡ false → (a && unknown (live_words (map.get m) path)) ≡ false
    apart true e = e
    apart false e = refl
