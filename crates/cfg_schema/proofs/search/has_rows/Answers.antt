use Rattle.std.proofs.Common.{◌∙◌, ap, List, ℕ, length, nat_lt}
use Rattle.cfg_schema.proofs.SearchLemmas.{has_more}
use Rattle.cfg_schema.proofs.search.has_rows.Goals as goal

pub returns : goal.returns
returns c = ap (λ (rows : List ℕ). nat_lt 2 (length rows)) c.rows_of.ensures.rows ∙ has_more _ c.requires
