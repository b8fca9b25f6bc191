-- What results from a list that was found.
use Rattle.std.proofs.Common.{◌≡◌, inl, inr, ℕ, List, refl, sym, subst, rules}
use Rattle.disk_model.specs.Pair.{DiskPair}
use Rattle.io_edge.specs.Ends.{SinkView}
use Rattle.commit_ledger.specs.Kept.{Kept}
use Rattle.modes.specs.declared.did.StartWhy0.{StartWhy0}
use Rattle.modes.specs.declared.did.StartWhy0.TheVariants.{None as NoWhy}
use Rattle.modes.specs.Modes.{IsCheck, IsTold}
use Rattle.modes.specs.Texts.{check_text}
use Rattle.stored_ledger.specs.Starting.{IsFound}

module _ (Untouched : Type 0) (old new : SinkView) (before found after : DiskPair) (kept : Kept) (is_found : IsFound before found kept)
    (back : after ≡ found) (why : StartWhy0) (no_why : why ≡ NoWhy) where
  here : IsFound before after kept
  here = subst (λ (d : DiskPair). IsFound before d kept) (sym back) is_found

  -- the list is reported, or what there is room for
  pub check_told : (status given : ℕ) (text : List ℕ) → status ≡ given → text ≡ check_text kept → IsTold text old new given
      → IsCheck Untouched old new before after status why
  check_told status given text is said told =
      inr (
        no_why,
        kept,
        here,
        inl (subst (λ n. IsTold (check_text kept) old new n) (sym is)
            (subst (λ (t : List ℕ). IsTold t old new given) said told)),
      )

  -- memory runs out for the text
  pub check_untold : (status : ℕ) → status ≡ 9 → Untouched → IsCheck Untouched old new before after status why
  check_untold status is same = inr (no_why, kept, here, inr (is, same))
