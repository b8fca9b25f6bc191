-- Excepted groups, as a set and as a list.
use Rattle.std.proofs.Common.{◌≡◌, ℕ, Bool, true, false, not, cond, List, [], ◌∷◌, ◌++◌, filter, refl, ap, subst, ◌∙◌, Option, Some, None}
use Rattle.std.specs.Prelude.{flat_map, unwrap_or}
use Rattle.std.specs.BTreeSet as set
use Rattle.cfg_base.specs.Words.{lists, Knows}
use Rattle.cfg_base.specs.declared.path.Step.{Step}
use Rattle.group_expand.specs.Sources.{apply_step, except_step}
use Rattle.group_expand.specs.Node.{Node}
use Rattle.group_expand.specs.Offer.{Source, Offer}
use Rattle.group_expand.specs.Fronts.{words_if_any, words_with, front_of, source_of, brought_by, applied_sources, kept_by, kept_of, brought_unless, kept_unless_in, kept_unless}

module _ (words : List (List ℕ)) (gone : set.BTreeSet (List ℕ)) (knows : Knows words gone) where
  pub applied_is : (groups : List Node) (path : List Step) (ws : List (List ℕ))
      → flat_map (brought_unless groups path gone) ws ≡ applied_sources groups path words ws
  applied_is groups path [] = refl
  applied_is groups path (g ∷ ws) =
      ap (λ (b : Bool). cond b [] (brought_by groups path g) ++ flat_map (brought_unless groups path gone) ws) (knows g)
      ∙ ap (λ (xs : List Source). cond (lists words g) [] (brought_by groups path g) ++ xs) (applied_is groups path ws)
      ∙ by_test (lists words g)
    where
      by_test : (b : Bool) → cond b [] (brought_by groups path g) ++ applied_sources groups path words ws
          ≡ flat_map (brought_by groups path) (cond (not b) (g ∷ filter (λ h. not (lists words h)) ws) (filter (λ h. not (lists words h)) ws))
      by_test true = refl
      by_test false = refl

  kept_one : (o : Offer) → kept_unless gone o ≡ kept_of words o
  kept_one o = by_group o.group
    where
      by_group : (group : Option (List ℕ)) → kept_unless_in gone group o.node ≡ kept_by words group o.node
      by_group None = refl
      by_group (Some g) = ap (λ (b : Bool). cond b [] (source_of g o.node ∷ [])) (knows g)

  pub kept_all : (os : List Offer) → flat_map (kept_unless gone) os ≡ flat_map (kept_of words) os
  kept_all [] = refl
  kept_all (o ∷ os) = ap (λ (xs : List Source). xs ++ flat_map (kept_unless gone) os) (kept_one o) ∙ ap (λ (xs : List Source). kept_of words o ++ xs) (kept_all os)

-- what the code makes of a level's own statements and of what is offered for its path
pub front_told : (groups own : List Node) (path : List Step) (offers : List Offer) (gone : set.BTreeSet (List ℕ)) (none applied front : List Source) (away given : Option (List (List ℕ)))
    → none ≡ [] → away ≡ words_if_any except_step own → given ≡ words_if_any apply_step own → Knows (unwrap_or away []) gone
    → applied ≡ none ++ flat_map (brought_unless groups path gone) (unwrap_or given []) → front ≡ applied ++ flat_map (kept_unless gone) offers
    → front ≡ front_of groups path own offers
front_told groups own path offers gone none applied front away given n a g knows e f =
    let known : Knows (words_with except_step own) gone = subst (λ (ws : Option (List (List ℕ))). Knows (unwrap_or ws []) gone) a knows
    in f
    ∙ ap (λ (xs : List Source). xs ++ flat_map (kept_unless gone) offers)
    (e ∙ ap (λ (xs : List Source). xs ++ flat_map (brought_unless groups path gone) (unwrap_or given [])) n
    ∙ ap (λ (ws : Option (List (List ℕ))). flat_map (brought_unless groups path gone) (unwrap_or ws [])) g
    ∙ applied_is (words_with except_step own) gone known groups path (words_with apply_step own))
    ∙ ap (λ (xs : List Source). applied_sources groups path (words_with except_step own) (words_with apply_step own) ++ xs)
    (kept_all (words_with except_step own) gone known offers)
