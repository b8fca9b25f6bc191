use Rattle.std.proofs.Common.{◌≡◌, ◌∙◌, List, ℕ, Some, sym, subst, rules}
use Rattle.cfg_schema.specs.declared.place.Place.{Place}
use Rattle.cfg_schema.specs.Profile.{row_of}
use Rattle.cfg_schema.specs.Place.{place_of}
use Rattle.cfg_tree.specs.Statements.{HasParent}
use Rattle.cfg_tree.specs.Typed.{AreCounted}
use Rattle.cfg_tree.proofs.ReadyLemmas.{ready}
use Rattle.call_scripts.proofs.puts.ready_value.Goals as goal

pub returns : goal.returns
returns c =
    let parent : HasParent c.args.tree.now c.args.target.now.path = search rules
    in let counted : (here : Place) → place_of c.args.target.now.path ≡ Some here → AreCounted (row_of here.row).shape c.args.target.now.words = search rules
    in ready c.args.tree.now c.args.target.now.path _ c.order_there.ensures.tree.statements c.requires.typed parent c.in_ok-order.ensures.order
    (λ here e. subst (λ (ws : List (List ℕ)). AreCounted (row_of here.row).shape ws) (sym (c.in_ok-words.ensures ∙ c.as_slice.ensures)) (counted here e))
