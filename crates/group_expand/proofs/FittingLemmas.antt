-- What of a group fits a path, one step further down.
use Rattle.std.proofs.Common.{◌≡◌, ℕ, ◌+◌, ◌<◌, List, [], ◌∷◌, ◌++◌, length, take, get_or, refl, sym, ap, ◌∙◌, append_assoc}
use Rattle.std.specs.Prelude.{flat_map}
use Rattle.std.proofs.lemmas.List.{take_more}
use Rattle.cfg_base.specs.declared.path.Step.{Step}
use Rattle.group_expand.specs.Node.{Node, children_of}
use Rattle.group_expand.specs.Fitting.{exact, wild, wildcards_of, fits_of, down}
use Rattle.group_expand.proofs.SearchLemmas.{wild_among}

pub down_last : (nodes : List Node) (path : List Step) (s : Step) → down nodes (path ++ s ∷ []) ≡ flat_map (fits_of s) (down nodes path)
down_last nodes [] s = refl
down_last nodes (t ∷ path) s = down_last (flat_map (fits_of t) nodes) path s

pub down_more : (nodes found next : List Node) (path : List Step) (i : ℕ) (s : Step) → i < length path → s ≡ get_or path i s → found ≡ down nodes (take i path)
    → next ≡ flat_map (fits_of s) found → next ≡ down nodes (take (i + 1) path)
down_more nodes found next path i s l is e f =
    f ∙ ap (flat_map (fits_of s)) e ∙ sym (down_last nodes (take i path) s)
    ∙ ap (λ (t : Step). down nodes (take i path ++ t ∷ [])) is
    ∙ ap (down nodes) (sym (take_more path i s l))

-- what fits a step right below a node: the child that has it, and then the wildcards among those with its head
pub fits_told : (step : Step) (node : Node) (found more wildcards : List Node) → more ≡ found ++ exact step (children_of node) → wildcards ≡ wildcards_of step.head node
    → more ++ wild step wildcards ≡ found ++ fits_of step node
fits_told step node found more wildcards e f =
    ap (λ (ns : List Node). ns ++ wild step wildcards) e
    ∙ ap (λ (ns : List Node). (found ++ exact step (children_of node)) ++ wild step ns) f
    ∙ ap (λ (ns : List Node). (found ++ exact step (children_of node)) ++ ns) (wild_among step node)
    ∙ append_assoc found (exact step (children_of node)) (wild step (children_of node))
