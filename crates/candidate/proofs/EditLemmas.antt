-- A candidate's map and its edits.
use Rattle.std.proofs.Common.{◌≡◌, ◌≢◌, inl, inr, ⊎_elim, ℕ, Bool, true, false, ◌||◌, List, [], ◌∷◌, ◌++◌, refl, sym, ap, subst, ◌∙◌}
use Rattle.std.specs.Bool.{Decides}
use Rattle.std.proofs.lemmas.Bool.Decides.{same_from_decides, not_from_Decides}
use Rattle.cfg_tree.proofs.ValuesLemmas.{never_differ}
use Rattle.cfg_base.specs.declared.path.Step.{Step}
use Rattle.commands.specs.declared.command.Op.{Op}
use Rattle.cfg_tree.specs.Statements.{Statements}
use Rattle.cfg_tree.specs.Typed.{IsLevelPath}
use Rattle.edit_ops.proofs.UniqueLemmas.{one_map}
use Rattle.candidate.specs.Edits.{Edit, CandidateView, AreEditsOf, IsEdited, IsCandidateChange, fresh, after_edit, after_edits}

pub no_edits : (number : ℕ) (base : Statements) → AreEditsOf (fresh number base) []
no_edits number base = record { made = refl; some = (λ e. cc, λ f. absurd (f refl)) }

after-join : (m : Statements) (edits added : List Edit) → after_edits m (edits ++ added) ≡ after_edits (after_edits m edits) added
after-join m [] added = refl
after-join m (e ∷ edits) added = after-join (after_edit m e) edits added

last_of_none : (edits added : List Edit) → edits ++ added ≡ [] → added ≡ []
last_of_none [] added e = e
last_of_none (x ∷ edits) added e = cc

module _ (old new : CandidateView) (edits added : List Edit) (are : AreEditsOf old edits) (edited : IsEdited old new (after_edits old.map added)) where
  -- edits that change the map are added
  pub more_edits : after_edits old.map added ≢ old.map → AreEditsOf new (edits ++ added)
  more_edits differs = record {
    made =
        edited.is_made
        ∙ ap (λ (m : Statements). after_edits m added) are.made
        ∙ sym (after-join old.base edits added)
        ∙ ap (λ (m : Statements). after_edits m (edits ++ added)) (sym edited.same_base);
    some = (
      λ _ e. differs (ap (λ (es : List Edit). after_edits old.map es) (last_of_none edits added e)),
      λ _. edited.modifies.1 (inr differs),
    );
  }

  -- and those that leave it aren't
  pub same_edits : after_edits old.map added ≡ old.map → AreEditsOf new edits
  same_edits same = record {
    made = edited.is_made ∙ same ∙ are.made ∙ ap (λ (m : Statements). after_edits m edits) (sym edited.same_base);
    some = (
      λ t. ⊎_elim (λ was. are.some.0 was) (λ differs. absurd (differs same)) (edited.modifies.0 t),
      λ f. edited.modifies.1 (inl (are.some.1 f)),
    );
  }

view_of : (one other : CandidateView) → one.number ≡ other.number → one.base ≡ other.base → one.map ≡ other.map → one.modified ≡ other.modified → one ≡ other
view_of one other a b c d = λ i. record { number = a i; base = b i; map = c i; modified = d i }

-- a command leaves one candidate
pub edit_once : (old one other : CandidateView) (made : Statements) → IsEdited old one made → IsEdited old other made → one ≡ other
edit_once old one other made a b =
    view_of one other (a.same_number ∙ sym b.same_number) (a.same_base ∙ sym b.same_base) (a.is_made ∙ sym b.is_made)
    (same_from_decides one.modified other.modified a.modifies b.modifies)

pub change_once : (old one other : CandidateView) (level : List Step) (op : Op) → IsLevelPath level → IsCandidateChange old one level op
    → IsCandidateChange old other level op → one ≡ other
change_once old one other level op is_level a b =
    edit_once old one other other.map
    (subst (λ (m : Statements). IsEdited old one m) (one_map old.map level op is_level one.map other.map a.told b.told a.change b.change).0 a.edited)
    b.edited

-- what isn't modified after a change wasn't before it, and has its old map
pub still_base : (base old new : Statements) (was told now : Bool) → (was ≡ false → old ≡ base) → Decides told (new ≢ old) → now ≡ (was || told)
    → now ≡ false → new ≡ base
still_base base old new false false now kept tells is e = never_differ new old (not_from_Decides false tells refl) ∙ kept refl
still_base base old new false true now kept tells is e = let f = sym is ∙ e in cc
still_base base old new true told now kept tells is e = let f = sym is ∙ e in cc
