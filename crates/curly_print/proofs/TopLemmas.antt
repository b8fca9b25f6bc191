-- The whole printed text is the text below the top.
use Rattle.std.proofs.Common.{◌≡◌, Bool, true, [], refl, sym, ap, if◌then◌else◌}
use Rattle.std.specs.FinMap as map
use Rattle.cfg_base.specs.declared.path.TheConstants.{MAX_STEPS}
use Rattle.cfg_schema.specs.Profile.{profile, row_of, is_level}
use Rattle.cfg_tree.specs.Statements.{Statements, last_of}
use Rattle.curly_print.specs.Printed.{statement_text, text_below, printed}

top_is_level : is_level (row_of 0).shape ≡ true
unfolding profile
top_is_level = refl

pub top_text : (m : Statements) → text_below MAX_STEPS m [] 0 ≡ printed m []
top_text m = sym (ap (λ (b : Bool). if b then text_below MAX_STEPS m [] 0 else statement_text 0 (last_of []) (map.get m []) []) top_is_level)
