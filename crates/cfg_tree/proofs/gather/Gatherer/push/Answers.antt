use Rattle.std.proofs.Common.{◌∙◌, ◌∷◌, [], ap, sym, subst, List, ◌++◌, Option, Some}
use Rattle.std.specs.Option.{option_to_list}
use Rattle.std.specs.Ordering.{eq_by_cmp}
use Rattle.cfg_base.specs.Order.{path_cmp}
use Rattle.cfg_base.specs.declared.path.Step.{Step}
use Rattle.cfg_base.specs.declared.value.Value.{Value}
use Rattle.cfg_entries.specs.EntryMap.{Pair}
use Rattle.cfg_tree.specs.Gather.{with_one, AreUpTo, IsGathered}
use Rattle.cfg_tree.proofs.GatherLemmas.{first_one, first_sorted, same_one, same_sorted, next_one, next_sorted}
use Rattle.cfg_tree.proofs.gather.Gatherer.push.Goals as goal

pub invariant_of-result : goal.invariant_of-result
invariant_of-result c =
    subst (λ (e : Pair Value). IsGathered c.self.inside.maker (Some e)) (sym c.of.ensures)
    (first_sorted (c.args.path, c.args.value) c.self.inside.maker (subst (λ (o : Option (Pair Value)). IsGathered c.self.inside.maker o) c.in-None.is c.self.invariant))

pub returns-in-None : goal.returns-in-None
returns-in-None c =
    ap (λ (e : Pair Value). c.self.inside.maker ++ e ∷ []) c.of.ensures
    ∙ first_one (c.args.path, c.args.value) c.self.inside.maker c.args.self
    (sym c.self.view_is ∙ ap (λ (o : Option (Pair Value)). c.self.inside.maker ++ option_to_list o) c.in-None.is)
    (subst (λ (o : Option (Pair Value)). IsGathered c.self.inside.maker o) c.in-None.is c.self.invariant)

pub invariant_of-result-then-eq : goal.invariant_of-result-then-eq
invariant_of-result-then-eq c =
    same_sorted c.self.inside.maker c.in-Some.before (c.args.path, c.args.value)
    (subst (λ (o : Option (Pair Value)). IsGathered c.self.inside.maker o) c.in-Some.is c.self.invariant)
    c.in_ok-both-in-Some.both
    (sym (c.if-eq.ensures ∙ ap (λ (p : List Step). eq_by_cmp path_cmp p c.args.path) c.path.ensures))
    c.in_ok-both-in-Some.ensures

pub returns-then-eq : goal.returns-then-eq
returns-then-eq c =
    same_one c.self.inside.maker c.in-Some.before (c.args.path, c.args.value)
    (subst (λ (o : Option (Pair Value)). IsGathered c.self.inside.maker o) c.in-Some.is c.self.invariant)
    c.in_ok-both-in-Some.both
    (sym (c.if-eq.ensures ∙ ap (λ (p : List Step). eq_by_cmp path_cmp p c.args.path) c.path.ensures))
    c.in_ok-both-in-Some.ensures
    ∙ ap (λ (es : List (Pair Value)). with_one (c.args.path, c.args.value) es) (sym (ap (λ (o : Option (Pair Value)). c.self.inside.maker ++ option_to_list o) c.in-Some.is) ∙ c.self.view_is)

pub invariant_of-result-in-Some : goal.invariant_of-result-in-Some
invariant_of-result-in-Some c =
    subst (λ (e : Pair Value). IsGathered c.in_ok-maker-in-Some.maker (Some e)) (sym c.of-in-Some.ensures)
    (next_sorted c.self.inside.maker c.in-Some.before (c.args.path, c.args.value)
    (subst (λ (o : Option (Pair Value)). IsGathered c.self.inside.maker o) c.in-Some.is c.self.invariant)
    c.in_ok-maker-in-Some.maker
    (subst (λ (es : List (Pair Value)). AreUpTo c.args.path es) (sym c.self.view_is ∙ ap (λ (o : Option (Pair Value)). c.self.inside.maker ++ option_to_list o) c.in-Some.is) c.requires)
    (sym (c.if-eq.ensures ∙ ap (λ (p : List Step). eq_by_cmp path_cmp p c.args.path) c.path.ensures))
    c.in_ok-maker-in-Some.ensures)

pub returns-in_ok-maker-in-Some : goal.returns-in_ok-maker-in-Some
returns-in_ok-maker-in-Some c =
    ap (λ (e : Pair Value). c.in_ok-maker-in-Some.maker ++ e ∷ []) c.of-in-Some.ensures
    ∙ next_one c.self.inside.maker c.in-Some.before (c.args.path, c.args.value)
    (subst (λ (o : Option (Pair Value)). IsGathered c.self.inside.maker o) c.in-Some.is c.self.invariant)
    c.in_ok-maker-in-Some.maker
    (subst (λ (es : List (Pair Value)). AreUpTo c.args.path es) (sym c.self.view_is ∙ ap (λ (o : Option (Pair Value)). c.self.inside.maker ++ option_to_list o) c.in-Some.is) c.requires)
    (sym (c.if-eq.ensures ∙ ap (λ (p : List Step). eq_by_cmp path_cmp p c.args.path) c.path.ensures))
    c.in_ok-maker-in-Some.ensures
    ∙ ap (λ (es : List (Pair Value)). with_one (c.args.path, c.args.value) es) (sym (ap (λ (o : Option (Pair Value)). c.self.inside.maker ++ option_to_list o) c.in-Some.is) ∙ c.self.view_is)
