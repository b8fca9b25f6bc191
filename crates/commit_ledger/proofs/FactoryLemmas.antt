-- The factory commit is an entry, and the list begins with it.
use Rattle.std.proofs.Common.{◌≡◌, ◌≤◌, inl, [], ◌∷◌, length, refl, arith}
use Rattle.std.specs.FinMap as map
use Rattle.cfg_base.specs.Order.{path_cmp}
use Rattle.cfg_base.specs.declared.value.Value.{Value}
use Rattle.cfg_tree.specs.Statements.{Statements}
use Rattle.cfg_tree.proofs.TreeLemmas.{nothing_is}
use Rattle.curly_print.proofs.HoldsLemmas.{no_len}
use Rattle.commit_ledger.specs.declared.entry.Commit.{Commit}
use Rattle.commit_ledger.specs.declared.entry.Entry.TheVariants.{Commit as CommitOf}
use Rattle.commit_ledger.specs.Kept.{factory_commit, opened}
use Rattle.commit_ledger.specs.Payload.{text_of, most_text, entry_record}
use Rattle.commit_ledger.specs.Reading.{ReadsAs}
use Rattle.commit_ledger.specs.Rules.{IsCommit}

-- no statement has a text that is short
pub nothing_is_short : length (text_of map.empty) ≤ most_text
unfolding text_of
nothing_is_short =
    let none = no_len map.empty nothing_is (map.len-empty path_cmp Value) in
    omega (arith, none)

pub factory_is_commit : (P : Statements → Type 0) → P map.empty → IsCommit P factory_commit
factory_is_commit P passes = record {
  number = (omega arith, omega arith);
  moment = omega arith;
  user = (omega arith, omega arith, refl);
  comment = record { short = omega arith; each = refl };
  minutes = omega arith;
  tree = nothing_is;
  text = nothing_is_short;
  passes = passes;
}

-- a first record is read
pub first_is_read : (P : Statements → Type 0) (commit : Commit) → IsCommit P commit → commit.number ≡ 1 → commit.minutes ≡ 0 → ReadsAs P (entry_record (CommitOf commit) ∷ []) (opened commit)
first_is_read P commit is number plain = record {
  front = entry_record (CommitOf commit) ∷ [];
  rest = [];
  cut = refl;
  first = opened commit;
  begins = inl (
    entry_record (CommitOf commit),
    refl,
    record {
      entry = CommitOf commit;
      is_record = record { is = inl refl; is_entry = is };
      commit = commit;
      first = record { is = refl; number = number; plain = plain };
      is = refl;
    },
  );
  reads = refl;
}
