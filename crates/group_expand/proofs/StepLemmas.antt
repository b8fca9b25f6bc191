-- A path with one more step.
use Rattle.std.proofs.Common.{◌≡◌, ◌+◌, Bool, true, List, [], ◌∷◌, ◌++◌, length, sym, ap, ◌∙◌, arith, length-append}
use Rattle.std.specs.Prelude.{◌&&◌, ◌==◌}
use Rattle.std.proofs.lemmas.Bool.{eq-eqb}
use Rattle.cfg_base.specs.declared.path.Step.{Step}
use Rattle.cfg_tree.specs.Statements.{last_of}
use Rattle.cfg_tree.specs.Children.{is_child}
use Rattle.cfg_tree.proofs.PathLemmas.{split, same_ends}
use Rattle.cfg_tree.proofs.BelowLemmas.{below_self, below_more}

pub child_is : (p : List Step) (s : Step) → is_child p (p ++ s ∷ []) ≡ true
child_is p s =
    ap (λ (b : Bool). b && (length (p ++ s ∷ []) == length p + 1)) (below_more p p s (below_self p))
    ∙ eq-eqb _ _ (length-append p (s ∷ []))

pub last_is : (p : List Step) (s : Step) → last_of (p ++ s ∷ []) ≡ s
last_is p s = sym (same_ends p _ s _ (split (p ++ s ∷ []) (let k = length-append p (s ∷ []) in omega (arith, k)))).1
