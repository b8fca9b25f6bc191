-- A Many that gets no word.
use Rattle.std.proofs.Common.{◌≡◌, ◌==◌, ◌&&◌, eqb-true, ℕ, ◌<◌, Bool, true, false, List, length, refl, sym, ap, ◌∙◌, Some, None, Ok, arith}
use Rattle.std.specs.List.{list_all}
use Rattle.std.specs.FinMap as map
use Rattle.cfg_base.specs.declared.path.Step.{Step}
use Rattle.cfg_base.specs.declared.value.Value.{Value}
use Rattle.cfg_base.specs.Words.{lists, joined}
use Rattle.cfg_base.proofs.WordLemmas.{joined-same, joined-grows}
use Rattle.cfg_schema.proofs.TestLemmas.{both}
use Rattle.cfg_tree.specs.Statements.{Statements}
use Rattle.cfg_tree.specs.Tree.{IsTree}
use Rattle.cfg_tree.specs.Change.{put_at}
use Rattle.edit_ops.specs.Value.{is_many_at, words_set, value_set}
use Rattle.edit_ops.specs.Change.{set_of}
use Rattle.edit_ops.specs.Made.{IsPartMade}
use Rattle.edit_ops.proofs.NearLemmas.{put_same, set_there}

-- a joined list that is no longer than the old one is that one
no_longer : (old given : List (List ℕ)) → length (joined old given) ≡ length old → joined old given ≡ old
no_longer old given h = by_test (list_all (lists old) given) refl
  where
    by_test : (b : Bool) → list_all (lists old) given ≡ b → joined old given ≡ old
    by_test true e = joined-same old given e
    by_test false e = let more = joined-grows old given e in absurd (omega (arith, more, h))

pub adds_none : (m : Statements) (path : List Step) (old value : Value) (given : List (List ℕ)) → 0 < length path → IsTree m → map.get m path ≡ Some old
    → value ≡ value_set path old given → (is_many_at path && (length value.words == length old.words)) ≡ true
    → IsPartMade m (Ok (set_of m path given)) (λ _. ⊥) (Ok None)
adds_none m path old value given long tree found e h =
    (ap (λ (x : Statements). Ok x) (set_there m path old given long tree found ∙ ap (put_at m path) same ∙ put_same m path old found), tree.few)
  where
    parts : (is_many_at path ≡ true) × ((length value.words == length old.words) ≡ true)
    parts = both (is_many_at path) (length value.words == length old.words) h

    joins : words_set (is_many_at path) old.words given ≡ joined old.words given
    joins = ap (λ (b : Bool). words_set b old.words given) parts.0

    as_long : length (joined old.words given) ≡ length old.words
    as_long = ap (λ (ws : List (List ℕ)). length ws) (sym joins ∙ ap (λ (v : Value). v.words) (sym e)) ∙ eqb-true _ _ parts.1

    same : value_set path old given ≡ old
    same = ap (λ (ws : List (List ℕ)). record old { words = ws }) (joins ∙ no_longer old.words given as_long)
