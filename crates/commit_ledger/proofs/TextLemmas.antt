-- A text is one map's whole text at most.
use Rattle.std.proofs.Common.{◌≡◌, ℕ, List, [], refl, sym, subst}
use Rattle.cfg_base.specs.declared.path.Step.{Step}
use Rattle.cfg_tree.specs.Statements.{Statements}
use Rattle.cfg_tree.specs.Tree.{IsTree}
use Rattle.curly_grammar.specs.declared.fault.TextFault.{TextFault}
use Rattle.curly_grammar.specs.Fault.{IsLeftmostFault}
use Rattle.curly_grammar.specs.Grammar.{Reads}
use Rattle.curly_grammar.proofs.AnswerLemmas.{one_reading, not_both}
use Rattle.curly_text.proofs.LaidLemmas.{reads_back}
use Rattle.commit_ledger.specs.Payload.{text_of}

own_reading : (text : List ℕ) (m : Statements) → IsTree m → text ≡ text_of m → Reads text m []
unfolding text_of
own_reading text m tree is = subst (λ t. Reads t m []) (sym is) (reads_back m tree)

-- what a map's text is read as is the map
pub is_that_map : (text : List ℕ) (m n : Statements) (tags : List (List Step)) → Reads text m tags → IsTree n → text ≡ text_of n → n ≡ m
is_that_map text m n tags reads tree is = sym (one_reading text m n tags [] reads (own_reading text n tree is)).0

-- and it has no fault
pub no_fault : (text : List ℕ) (m : Statements) (fault : TextFault) → IsLeftmostFault text fault → IsTree m → text ≡ text_of m → ⊥
no_fault text m fault leftmost tree is = not_both text m [] fault (own_reading text m tree is) tree.few leftmost

-- two maps of one text are one
pub one_map : (m n : Statements) → IsTree m → IsTree n → text_of m ≡ text_of n → m ≡ n
one_map m n tree other same = is_that_map (text_of n) n m [] (own_reading (text_of n) n other refl) tree (sym same)
