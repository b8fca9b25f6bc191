-- An expansion that has at and below some paths what another one has there. For the inner functions.
use Rattle.std.specs.Prelude.{List, [], ◌∷◌, filter}
use Rattle.std.specs.FinMap as finite
use Rattle.cfg_base.specs.declared.path.Step.{Step}
use Rattle.cfg_tree.specs.Statements.{is_below}
use Rattle.cfg_tree.specs.Shown.{without_all}
use Rattle.cfg_tree.specs.declared.full.Given.{Given}
use Rattle.cfg_tree.specs.Full.{Expansion}
use Rattle.kept_expansion.specs.Changes.{is_reached}

-- without the paths that another expansion has at and below some paths
abbrev pub cleared : Expansion → Expansion → List (List Step) → Expansion
cleared made full [] = made
cleared made full (root ∷ roots) = cleared (without_all made (filter (is_below root) (finite.keys full))) full roots

-- with these entries, one after the other
abbrev pub with_entries : Expansion → List (List Step × Given) → Expansion
with_entries made [] = made
with_entries made (e ∷ es) = with_entries (finite.insert made e.0 e.1) es

-- the entries at and below some paths
abbrev pub entries_at : List (List Step) → List (List Step × Given) → List (List Step × Given)
entries_at roots es = filter (λ e. is_reached roots e.0) es

abbrev pub spliced : Expansion → Expansion → List (List Step) → Expansion
spliced full part roots = with_entries (cleared full full roots) (entries_at roots (finite.entries part))
