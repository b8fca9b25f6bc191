-- Each printed line is a change that succeeds.
use Rattle.std.proofs.Common.{◌≡◌, ℕ, ◌+◌, ◌<◌, ◌≤◌, Bool, true, false, List, [], ◌∷◌, ◌++◌, length, refl, sym, ap, subst, ◌∙◌, Some, None, is_some, arith, append-nil, Ok}
use Rattle.std.specs.FinMap as map
use Rattle.std.proofs.lemmas.List.Elements.{All-nil}
use Rattle.cfg_base.specs.declared.kind.Shape.{Shape}
use Rattle.cfg_base.specs.declared.kind.Shape.TheVariants.{Container, Fixed, Keyed, Bare, Leaf, Flag, Many}
use Rattle.cfg_base.specs.declared.path.Step.{Step}
use Rattle.cfg_base.specs.declared.value.Value.{Value}
use Rattle.cfg_schema.specs.declared.place.Place.{Place}
use Rattle.cfg_schema.specs.Profile.{row_of}
use Rattle.cfg_schema.specs.Place.{place_of}
use Rattle.cfg_values.specs.Spelling.{IsCanonical}
use Rattle.cfg_tree.specs.declared.limit.TheConstants.{MAX_STATEMENTS}
use Rattle.cfg_tree.specs.Statements.{Statements, size_of}
use Rattle.cfg_tree.specs.Typed.{AreCanonical}
use Rattle.cfg_tree.specs.Tree.{IsTree}
use Rattle.cfg_tree.specs.OwnWords.{own_words}
use Rattle.cfg_resolve.specs.Resolve.{AreGiven, ResolvesTo, target}
use Rattle.cfg_resolve.proofs.OwnLemmas.{below_named}
use Rattle.edit_ops.specs.Answer.{IsChange}
use Rattle.edit_ops.specs.Block.{IsFree}
use Rattle.set_text.specs.Printed.{Line}
use Rattle.commands.specs.Verb.{op_of}
use Rattle.set_text.specs.Back.{changes_of}
use Rattle.load_ops.specs.Lines.{AreMade}
use Rattle.set_laws.proofs.LookLemmas.{Unprotected, set_grows}
use Rattle.set_laws.proofs.SetLemmas.{Sets, SetsAll}

pub made_both : (x y z : Statements) (number : ℕ) (xs ys : List Line) → AreMade x (changes_of number xs) y → AreMade y (changes_of (number + length xs) ys) z → AreMade x (changes_of number (xs ++ ys)) z
made_both x y z number [] ys one two =
    subst (λ (s : Statements). AreMade s (changes_of number ys) z) one (subst (λ (n : ℕ). AreMade y (changes_of n ys) z) (omega arith) two)
made_both x y z number (l ∷ xs) ys one two =
    (one.0, one.1, one.2, made_both one.0 y z (number + 1) xs ys one.3 (subst (λ (n : ℕ). AreMade y (changes_of n ys) z) (omega arith) two))

-- no words are given to any statement
pub given_none : (shape : Shape) → AreGiven shape []
given_none Container = refl
given_none Fixed = refl
given_none Keyed = refl
given_none Bare = refl
given_none Leaf = omega arith
given_none Flag = refl
given_none Many = tt

module _ (m : Statements) (tree : IsTree m) where
  has_steps : (path : List Step) (v : Value) → map.get m path ≡ Some v → 0 < length path
  has_steps [] v found = let top = tree.statements.top in absurd (let e = sym top ∙ found in cc)
  has_steps (s ∷ path) v found = omega arith

  pub named : (path : List Step) (v : Value) (words : List (List ℕ)) → map.get m path ≡ Some v
      → ((here : Place) → place_of path ≡ Some here → AreGiven (row_of here.row).shape words × AreCanonical (row_of here.row).value_kind words)
      → ResolvesTo [] (own_words path ++ words) (Ok (target path words))
  named path v words found given =
      below_named [] path words
      (record {
        rest = path;
        steps = has_steps path v found;
        below = refl;
        typed = tree.typed.paths path (ap is_some found);
        given = λ here e. (given here e).0;
        canonical = λ here e. (given here e).1;
      })

  pub named_alone : (path : List Step) (v : Value) → map.get m path ≡ Some v → ResolvesTo [] (own_words path) (Ok (target path []))
  named_alone path v found =
      subst (λ (ws : List (List ℕ)). ResolvesTo [] ws (Ok (target path []))) (append-nil (own_words path))
      (named path v [] found (λ here e. (given_none (row_of here.row).shape, All-nil (IsCanonical (row_of here.row).value_kind))))

  -- nothing that isn't protected keeps a change
  free_of : (x y : Statements) (spared : List Step → Type 0) → Unprotected x → IsFree x y spared
  free_of x y spared none path blocks = clash (none path blocks.is_protected.value blocks.is_protected.found) blocks.is_protected.mark
    where
      clash : {b : Bool} → b ≡ false → b ≡ true → ⊥
      clash e f = cc

  set_changes : (passes : List Step → Type 0) (x y : Statements) (it : Line) → Sets m passes x it y → size_of y ≤ MAX_STATEMENTS → IsChange x y [] (op_of it.verb it.words) true
  set_changes passes x y it sets few =
      subst (λ (l : Line). IsChange x y [] (op_of l.verb l.words) true) (sym sets.is_line)
      record {
        subject = record { target = target sets.path sets.words; other = None };
        asks = record { names = named sets.path sets.value sets.words sets.found sets.given; is_whole = sets.enough; other = refl };
        makes = record { made = ap (λ (n : Statements). Ok n) (sym sets.made); free = free_of x y (λ path. ⊥) sets.open_before; few = few };
        tells = (λ e same. sets.differs (ap (λ (n : Statements). map.get n sets.path) (sym same)), λ e. refl);
      }

  sets_grow : (passes : List Step → Type 0) (x y : Statements) (lines : List Line) → SetsAll m passes x lines y → size_of x ≤ size_of y
  sets_grow passes x y [] sets = subst (λ (n : Statements). size_of x ≤ size_of n) sets (omega arith)
  sets_grow passes x y (l ∷ lines) sets =
      let one : size_of x ≤ size_of sets.0 = subst (λ (n : Statements). size_of x ≤ size_of n) (sym sets.1.made) (set_grows x sets.1.path sets.1.words) in
      omega (arith, one, sets_grow passes sets.0 y lines sets.2)

  pub sets_made : (passes : List Step → Type 0) (number : ℕ) (x y : Statements) (lines : List Line) → SetsAll m passes x lines y → size_of y ≤ MAX_STATEMENTS → AreMade x (changes_of number lines) y
  sets_made passes number x y [] sets few = sym sets
  sets_made passes number x y (l ∷ lines) sets few = (
    sets.0,
    true,
    set_changes passes x sets.0 l sets.1 (omega (arith, few, sets_grow passes sets.0 y lines sets.2)),
    sets_made passes (number + 1) sets.0 y lines sets.2 few,
  )
