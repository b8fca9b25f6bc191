-- An expansion is shown, or is too wide.
use Rattle.std.proofs.Common.{◌≡◌, ◌≤◌, ◌<◌, ℕ, List, Bool, cond, sym, ap, ◌∙◌}
use Rattle.std.proofs.lemmas.Bool.{le-leb, lt-leb}
use Rattle.std.specs.FinMap as map
use Rattle.cfg_base.specs.declared.path.Step.{Step}
use Rattle.cfg_tree.specs.declared.limit.TheConstants.{MAX_EXPANDED}
use Rattle.cfg_tree.specs.Full.{Expansion}
use Rattle.cfg_tree.specs.Statements.{Statements}
use Rattle.curly_print.specs.Inherited.{printed_full}
use Rattle.group_expand.specs.Expansion.{IsExpansion}
use Rattle.config_core.specs.declared.reply.Refusal.TheVariants.{TooWide}
use Rattle.config_core.specs.declared.reply.Reply.TheVariants.{Text, Refused}
use Rattle.config_core.specs.Showing.{ShowsExpansion}

pub shows_text : (m : Statements) (full : Expansion) (path : List Step) (text : List ℕ) → IsExpansion m full → map.len full ≤ MAX_EXPANDED
    → text ≡ printed_full full path → ShowsExpansion m path (Text text)
shows_text m full path text expansion within is = record {
  full = full;
  expansion = expansion;
  is = ap Text is ∙ sym (ap (λ (b : Bool). cond b (Text (printed_full full path)) (Refused TooWide)) (le-leb (map.len full) MAX_EXPANDED within));
}

pub shows_too_wide : (m : Statements) (full : Expansion) (path : List Step) → IsExpansion m full → MAX_EXPANDED < map.len full
    → ShowsExpansion m path (Refused TooWide)
shows_too_wide m full path expansion wide = record {
  full = full;
  expansion = expansion;
  is = sym (ap (λ (b : Bool). cond b (Text (printed_full full path)) (Refused TooWide)) (lt-leb (map.len full) MAX_EXPANDED wide));
}
