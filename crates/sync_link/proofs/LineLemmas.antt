-- A line as a run goes on.
use Rattle.std.proofs.Common.{◌≡◌, nat_le, ℕ, Bool, true, false, List, [], ◌∷◌, ◌++◌, length, take, if◌then◌else◌, refl, sym, ◌∙◌, ap, subst, arith, append_assoc, append-nil, length-append, leb-true, leb-false, le-leb}
use Rattle.std.proofs.lemmas.List.{take-append-le, take_all}
use Rattle.commit_ledger.specs.declared.entry.Entry.{Entry}
use Rattle.commit_ledger.specs.Kept.{Kept, after_entries}
use Rattle.sync_link.specs.Lines.{IsLineBehind, IsLineOf, Line}

module _ {E : Type 0} (Leads : List E → Kept → Type 0) (events : List E) (event : E) (added : List Entry) (line : Line)
    (is : IsLineOf Leads events line) (leads : Leads (events ++ event ∷ []) (after_entries line.first (line.entries ++ added))) where
  behind : Line
  behind = record { first = line.first; entries = line.entries ++ added; by = λ n. if nat_le n (length events) then line.by n else line.entries ++ added; own = line.own }

  front_by : (n : ℕ) (b : Bool) → nat_le n (length events) ≡ b
      → (rest : List Entry) × (line.entries ++ added ≡ (if b then line.by n else line.entries ++ added) ++ rest)
      × Leads (take n (events ++ event ∷ [])) (after_entries line.first (if b then line.by n else line.entries ++ added))
  front_by n true le =
      let old = is n in (
        old.rest ++ added,
        ap (λ l. l ++ added) old.cut ∙ append_assoc (line.by n) old.rest added,
        subst (λ l. Leads l (after_entries line.first (line.by n))) (sym (take-append-le n events (event ∷ []) (leb-true n (length events) le))) old.leads,
      )
  front_by n false le =
      let all : take n (events ++ event ∷ []) ≡ events ++ event ∷ [] = take_all n (events ++ event ∷ []) (omega (arith, leb-false n (length events) le, length-append events (event ∷ []))) in
      ([], sym (append-nil (line.entries ++ added)), subst (λ l. Leads l (after_entries line.first (line.entries ++ added))) (sym all) leads)

  pub line_behind : (line' : Line) × IsLineBehind Leads events event added line line'
  line_behind = (
    record { first = line.first; entries = line.entries ++ added; by = λ n. if nat_le n (length events) then line.by n else line.entries ++ added; own = line.own },
    record {
      is = λ n. let f = front_by n (nat_le n (length events)) refl in record { rest = f.0; cut = f.1; leads = f.2 };
      entries = refl;
      on = record {
        first = refl;
        own = refl;
        more = added;
        entries = refl;
        by = λ n le. ap (λ (b : Bool). if b then line.by n else line.entries ++ added) (le-leb n (length events) le);
      };
    },
  )
