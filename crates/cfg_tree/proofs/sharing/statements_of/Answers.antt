use Rattle.std.proofs.Common.{◌≡◌, ◌∙◌, sym, ap, refl, List, [], ◌∷◌, ◌++◌, rules}
use Rattle.cfg_base.specs.declared.value.Value.{Value}
use Rattle.cfg_base.specs.declared.path.Step.{Step}
use Rattle.cfg_tree.proofs.sharing.statements_of.Goals as goal

moved : {X : Type 0} (xs : List X) (x : X) (ys : List X) → (xs ++ x ∷ []) ++ ys ≡ xs ++ x ∷ ys
moved [] x ys = refl
moved (y ∷ xs) x ys = ap (λ zs. y ∷ zs) (moved xs x ys)

taken : (old new left rest all : List (List Step × Value)) (e f : List Step × Value) → old ++ left ≡ all → left ≡ e ∷ rest → new ≡ old ++ f ∷ [] → f ≡ e → new ++ rest ≡ all
taken old new left rest all e f whole first pushed same =
    ap (λ (xs : List (List Step × Value)). xs ++ rest) (pushed ∙ ap (λ (p : List Step × Value). old ++ p ∷ []) same)
    ∙ moved old e rest
    ∙ ap (λ (xs : List (List Step × Value)). old ++ xs) (sym first)
    ∙ whole

pub loop-path-preserved : goal.loop-path-preserved
loop-path-preserved c =
    let same : ◌≡◌ {A = List Step × Value} (c.in_ok-clone.field-0, c.in_ok-clone-2.field-0) (c.in-Some.path.now, c.in-Some.value.now) = search rules
    in taken c.loop-path.items.items c.push.new.self.items c.loop-path.left c.next.new.self c.walk-left.result
    (c.in-Some.path.now, c.in-Some.value.now) (c.in_ok-clone.field-0, c.in_ok-clone-2.field-0)
    c.loop-path.invariant c.in-Some.ensures (c.in_ok-push.ensures.items) same
