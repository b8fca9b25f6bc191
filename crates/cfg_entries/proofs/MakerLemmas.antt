-- Rows that are being filled.
use Rattle.std.proofs.Common.{◌≡◌, List, [], ◌∷◌, ◌++◌, sym, ap, ◌∙◌, append-nil, append_assoc}
use Rattle.cfg_entries.specs.EntryMap.{Pair}
use Rattle.cfg_entries.specs.Rows.{flat, rows_of}
use Rattle.cfg_base.proofs.FlatLemmas.{flat-append}

module _ {V : Type 0} where
  rows_last : (ps : List (List (List (Pair V)))) (p : List (List (Pair V))) → flat (rows_of (ps ++ p ∷ [])) ≡ flat (rows_of ps) ++ flat p
  rows_last [] p = append-nil (flat p)
  rows_last (q ∷ ps) p = ap (λ (es : List (Pair V)). flat q ++ es) (rows_last ps p) ∙ sym (append_assoc (flat q) (flat (rows_of ps)) (flat p))

  pub last_page : (ps ns : List (List (List (Pair V)))) (p q : List (List (Pair V))) → ns ≡ ps ++ p ∷ [] → p ≡ q → flat (rows_of ns) ≡ flat (rows_of ps) ++ flat q
  last_page ps ns p q e f = ap (λ (ms : List (List (List (Pair V)))). flat (rows_of ms)) e ∙ rows_last ps p ∙ ap (λ (bs : List (List (Pair V))). flat (rows_of ps) ++ flat bs) f

pub last_block : {X : Type 0} (bs ns : List (List X)) (b es : List X) → ns ≡ bs ++ b ∷ [] → b ≡ es → flat ns ≡ flat bs ++ es
last_block {X} bs ns b es e f =
    ap (λ (cs : List (List X)). flat cs) e ∙ flat-append bs (b ∷ []) ∙ ap (λ (xs : List X). flat bs ++ xs) (append-nil b ∙ f)
