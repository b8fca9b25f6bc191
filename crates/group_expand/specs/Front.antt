-- What a path's children are given from, and which children it may have. For the inner functions.
use Rattle.std.specs.Prelude.{not, ◌||◌, ℕ, false, List, [], ◌∷◌, ◌++◌, map, filter}
use Rattle.std.specs.List.{flat_map}
use Rattle.std.specs.BTreeSet.{insert_key}
use Rattle.cfg_base.specs.Words.{lists}
use Rattle.cfg_base.specs.Order.{step_cmp}
use Rattle.cfg_base.specs.declared.path.Step.{Step}
use Rattle.group_expand.specs.Live.{Look, is_live}
use Rattle.group_expand.specs.Sources.{Source, source, is_wildcard, fitting, applied, excepted, sources_by, outward}

-- a source, and what it brings one step further down
abbrev pub grown : (List Step → List (List Step)) → Source → List Source
grown step x = map (source x.group) (step x.from)

-- steps in order, each once
abbrev pub sorted : List Step → List Step
sorted [] = []
sorted (s ∷ ss) = insert_key step_cmp (sorted ss) s

module _ (look : Look) (kids : List Step → List Step) where
  -- the sources of a path, whatever its steps are
  abbrev pub raw : List Step → List Source
  raw p = sources_by look kids (λ g. fitting look kids g p) (λ g. false) (outward p)

  -- the groups applied at a path and not excepted there
  abbrev pub applied_at : List Step → List (List ℕ)
  applied_at p = filter (λ g. not (lists (excepted look kids p) g || false)) (applied look kids p)

  -- the path's own sources but those excepted here
  abbrev pub kept_at : List Step → List Source
  kept_at p = filter (λ x. not (lists (excepted look kids p) x.group)) (raw p)

  -- what a path's children are given from: the groups that are applied here, and then the path's own sources but those excepted here
  unfoldable pub front : List Step → List Source
  front p = flat_map (λ g. map (source g) (fitting look kids g p)) (applied_at p) ++ kept_at p

  -- the steps of the live statements right below a path
  abbrev pub live_kids : List Step → List Step
  live_kids p = filter (λ s. is_live look (p ++ s ∷ [])) (kids p)

  -- the steps that the children of a path may have, each once, in order
  unfoldable pub steps_at : List Step → List Step
  steps_at p = sorted (live_kids p ++ flat_map (λ x. filter (λ s. not (is_wildcard s.name)) (live_kids x.from)) (front p))
