-- A step has one outcome.
use Rattle.std.proofs.Common.{◌≡◌, ◌≢◌, ◌⊎◌, ℕ, Bool, true, false, ◌==◌, List, [], length, refl, sym, ap, subst, ◌∙◌, inl, inr, Some, None, Result, Ok, Err}
use Rattle.std.specs.Prelude.{MatchBool, Option}
use Rattle.std.proofs.lemmas.Bool.Decides.{same_from_decides}
use Rattle.commands.specs.declared.command.Command.{Command}
use Rattle.commands.specs.declared.command.Command.TheVariants.{Configure, ShowActive, ShowCommits, ClearCommit, Logout, Edit, Up, Top, Exit, ExitAll, Show, Change, Load, Rollback, CheckOnly, Commit as CommitAsked, CommitAt, Update, Status}
use Rattle.commands.specs.declared.command.Form.{Form}
use Rattle.commands.specs.declared.command.Form.TheVariants.{Curly, SetLines, Inherited}
use Rattle.commands.specs.declared.command.LoadWay.{LoadWay}
use Rattle.commands.specs.declared.command.Op.{Op}
use Rattle.commands.specs.When.{at_of}
use Rattle.cfg_base.specs.declared.path.Step.{Step}
use Rattle.cfg_resolve.specs.declared.target.Target.{Target}
use Rattle.cfg_resolve.specs.declared.target.WordsFault.{WordsFault}
use Rattle.cfg_resolve.specs.declared.target.WordsFault.TheVariants as words
use Rattle.cfg_tree.specs.Full.{Expansion}
use Rattle.cfg_tree.specs.Statements.{Statements}
use Rattle.cfg_tree.specs.Typed.{IsLevelPath}
use Rattle.cfg_resolve.specs.Resolve.{ResolvesTo}
use Rattle.cfg_tree.proofs.TopLemmas.{top_is_level}
use Rattle.edit_ops.specs.declared.fault.EditFault.{EditFault}
use Rattle.edit_ops.specs.declared.fault.EditFault.TheVariants as edit
use Rattle.edit_ops.specs.Answer.{edit_fault, IsChange, IsEditFault}
use Rattle.candidate.specs.Edits.{CandidateView, IsCandidateChange, IsEdited}
use Rattle.private_merge.specs.declared.fault.MergeFault.{MergeFault}
use Rattle.private_merge.specs.declared.fault.MergeFault.TheVariants as merge
use Rattle.private_merge.specs.Merge.{IsMerge, IsMergeFault}
use Rattle.group_expand.specs.Expansion.{IsExpansion}
use Rattle.load_ops.specs.declared.fault.LoadFault.{LoadFault}
use Rattle.load_ops.specs.declared.fault.LoadFault.TheVariants as load
use Rattle.load_ops.specs.Answer.{IsLoad, IsLoadFault}
use Rattle.commit_check.specs.Accepts.{Accepts, IsFirst}
use Rattle.config_core.specs.declared.event.Event.{Event}
use Rattle.config_core.specs.declared.event.Event.TheVariants.{Settle, Revert, Carry, Command as CommandOf}
use Rattle.config_core.specs.declared.event.Outcome.{Outcome}
use Rattle.config_core.specs.declared.event.Outcome.TheVariants as outcomes
use Rattle.config_core.specs.declared.reply.Refusal.{Refusal}
use Rattle.config_core.specs.declared.reply.Refusal.TheVariants.{Check, DiskFault}
use Rattle.config_core.specs.declared.reply.Reply.{Reply}
use Rattle.config_core.specs.declared.reply.Reply.TheVariants.{Done, Text, Loaded, Refused}
use Rattle.commit_ledger.specs.declared.entry.Commit.{Commit}
use Rattle.commit_ledger.specs.Kept.{Kept, active_of, nth_last}
use Rattle.commit_ledger.specs.Listing.{IsListing}
use Rattle.config_core.specs.State.{State, Made, fresh_of}
use Rattle.config_core.specs.Showing.{refusal_of, load_refusal_of, merge_refusal_of, NamesNone, NamesOne, path_alone, ShowAsksFor, shown_full, ShowsBelow, ShowsAnswer, IsShow}
use Rattle.config_core.specs.Access.{bar_to}
use Rattle.config_core.specs.Callers.{level_of, own_of, candidate_of, with_candidate}
use Rattle.config_core.specs.Serving.{Turned, answered, refused, edited, Moves, IsLost, Shows, Lists, Changes, IsUnchanged, Loads, IsNotLoaded, Replaces, RollsTo, IsOwnMerge, IsNotMerged, Updates, Checks, ChecksMerged, ChecksWhole, checked, committed, set_for, Unless, Does, Serves}
use Rattle.config_core.specs.Machine.{Waiting, InFlight, Missed, Ready, Free, waiting_of, Ends, IsPutInFlight, StepsFrom, later, carried, reverted, Steps}

both_served : (b : Bool) (P Q P' Q' R : Type 0) → (P → P' → R) → (Q → Q' → R) → MatchBool b P Q → MatchBool b P' Q' → R
both_served true P Q P' Q' R f g h k = f h k
both_served false P Q P' Q' R f g h k = g h k

both_are : {A : Type 0} (a one other : A) → one ≡ a → other ≡ a → one ≡ other
both_are a one other h k = h ∙ sym k

same_some : {A : Type 0} (a b : A) → Some a ≡ Some b → a ≡ b
same_some a b e = cc

some_none : {A : Type 0} (a : A) → None ≡ Some a → ⊥
some_none a e = cc

-- an answer to words
abbrev named : Target → Result Target WordsFault
named target = Ok target

abbrev misnamed : WordsFault → Result Target WordsFault
misnamed why = Err why

ok_differs : (target : Target) (why : WordsFault) → named target ≡ misnamed why → ⊥
ok_differs target why e = cc

same_target : (one other : Target) → named one ≡ named other → one ≡ other
same_target one other e = cc

same_why : (one other : WordsFault) → misnamed one ≡ misnamed other → one ≡ other
same_why one other e = cc

-- what is refused isn't want of memory
has_cause : (fault : EditFault) (refusal : Refusal) → refusal_of fault ≡ Some refusal → fault ≢ edit.NoMemory
has_cause fault refusal told e = some_none refusal (sym (ap refusal_of e) ∙ told)

load_has_cause : (fault : LoadFault) (refusal : Refusal) → load_refusal_of fault ≡ Some refusal → fault ≢ load.NoMemory
load_has_cause fault refusal told e = some_none refusal (sym (ap load_refusal_of e) ∙ told)

merge_has_cause : (fault : MergeFault) (refusal : Refusal) → merge_refusal_of fault ≡ Some refusal → fault ≢ merge.NoMemory
merge_has_cause fault refusal told e = some_none refusal (sym (ap merge_refusal_of e) ∙ told)

why_has_cause : (why : WordsFault) (refusal : Refusal) → refusal_of (edit_fault why) ≡ Some refusal → misnamed why ≢ misnamed words.NoMemory
why_has_cause why refusal told e = has_cause (edit_fault why) refusal told (ap edit_fault (same_why why words.NoMemory e))

ok_has_none : (target : Target) → named target ≢ misnamed words.NoMemory
ok_has_none target e = ok_differs target words.NoMemory e

module _ (level : List Step)
    (words_once : (asked : List (List ℕ)) (one other : Result Target WordsFault) → ResolvesTo level asked one
    → ResolvesTo level asked other → one ≢ misnamed words.NoMemory → other ≢ misnamed words.NoMemory → one ≡ other) where
  -- words name one statement
  named_once : (asked : List (List ℕ)) (one other : Target) → ResolvesTo level asked (named one) → ResolvesTo level asked (named other) → one ≡ other
  named_once asked one other f g = same_target one other (words_once asked (named one) (named other) f g (ok_has_none one) (ok_has_none other))

  module _ {A : Type 0} (of_target : Target → A) (of_refusal : Refusal → A) (asked : List (List ℕ)) where
    -- words that name a statement aren't refused
    one_or_none : (one other : A) → NamesOne of_target level asked one → NamesNone of_refusal level asked other → ⊥
    one_or_none one other a b =
        ok_differs a.target b.why
        (words_once asked (named a.target) (misnamed b.why) a.names b.names (ok_has_none a.target) (why_has_cause b.why b.refusal b.told))

    none_once : (one other : A) → NamesNone of_refusal level asked one → NamesNone of_refusal level asked other → one ≡ other
    none_once one other a b =
        let same = words_once asked (misnamed a.why) (misnamed b.why) a.names b.names (why_has_cause a.why a.refusal a.told) (why_has_cause b.why b.refusal b.told)
        in let one_refusal = sym a.told ∙ ap (λ (w : WordsFault). refusal_of (edit_fault w)) (same_why a.why b.why same) ∙ b.told
        in a.is ∙ ap of_refusal (same_some a.refusal b.refusal one_refusal) ∙ sym b.is

    -- words have one answer
    answer_once : (one other : A) → NamesOne of_target level asked one ⊎ NamesNone of_refusal level asked one
        → NamesOne of_target level asked other ⊎ NamesNone of_refusal level asked other → one ≡ other
    answer_once one other (inl a) (inl b) = a.is ∙ ap of_target (named_once asked a.target b.target a.names b.names) ∙ sym b.is
    answer_once one other (inl a) (inr b) = absurd (one_or_none one other a b)
    answer_once one other (inr a) (inl b) = absurd (one_or_none other one b a)
    answer_once one other (inr a) (inr b) = none_once one other a b

  -- a show asks for one path
  path_once : (asked : List (List ℕ)) (one other : Result (List Step) Refusal) → ShowAsksFor level asked one → ShowAsksFor level asked other → one ≡ other
  path_once asked one other =
      both_served (length asked == 0) _ _ _ _ (one ≡ other) (both_are _ one other) (answer_once path_alone Err asked one other)

  module _ (full_once : (m : Statements) (full other : Expansion) → IsExpansion m full → IsExpansion m other → full ≡ other) where
    below_once : (form : Form) (m : Statements) (path : List Step) (one other : Reply) → ShowsBelow form m path one → ShowsBelow form m path other → one ≡ other
    below_once Curly m path one other a b = both_are _ one other a b
    below_once SetLines m path one other a b = both_are _ one other a b
    below_once Inherited m path one other a b =
        a.is ∙ ap (λ (full : Expansion). shown_full full path) (full_once m a.full b.full a.expansion b.expansion) ∙ sym b.is

    said_once : (form : Form) (m : Statements) (answer : Result (List Step) Refusal) (one other : Reply) → ShowsAnswer form m answer one
        → ShowsAnswer form m answer other → one ≡ other
    said_once form m (Ok path) one other = below_once form m path one other
    said_once form m (Err refusal) one other = both_are _ one other

    -- a show says one thing
    show_once : (m : Statements) (asked : List (List ℕ)) (form : Form) (one other : Reply) → IsShow m level asked form one
        → IsShow m level asked form other → one ≡ other
    show_once m asked form one other a b =
        said_once form m b.answer one other
        (subst (λ (answer : Result (List Step) Refusal). ShowsAnswer form m answer one) (path_once asked a.answer b.answer a.names b.names) a.shows) b.shows

    shows_once : (s : State) (m : Statements) (asked : List (List ℕ)) (form : Form) (one other : Turned) → Shows s m level asked form one
        → Shows s m level asked form other → one ≡ other
    shows_once s m asked form one other a b = a.is ∙ ap (answered s) (show_once m asked form a.reply b.reply a.show b.show) ∙ sym b.is

-- a check has one outcome
module _ (first_once : (m : Statements) (number other : ℕ) (path again : List Step) → IsFirst m number path → IsFirst m other again
    → (number ≡ other) × (path ≡ again))
    (accepted_or_first : (m : Statements) (number : ℕ) (path : List Step) → Accepts m → IsFirst m number path → ⊥) where
  checks_once : (s : State) (m : Statements) (accepted one other : Turned) → Checks s m one accepted → Checks s m other accepted → one ≡ other
  checks_once s m accepted one other (inl a) (inl b) = a.1 ∙ sym b.1
  checks_once s m accepted one other (inl a) (inr b) = absurd (accepted_or_first m b.number b.path a.0 b.first)
  checks_once s m accepted one other (inr a) (inl b) = absurd (accepted_or_first m a.number a.path b.0 a.first)
  checks_once s m accepted one other (inr a) (inr b) =
      let same = first_once m a.number b.number a.path b.path a.first b.first in
      a.is ∙ ap (λ (n : ℕ). refused s (Check n a.path)) same.0 ∙ ap (λ (p : List Step). refused s (Check b.number p)) same.1 ∙ sym b.is

  -- so has the check of a merge
  module _ (merge_once : (base active mine one other : Statements) → IsMerge base active mine one → IsMerge base active mine other → one ≡ other)
      (unmerged_once : (base active mine : Statements) (one other : MergeFault) → IsMergeFault base active mine one
      → IsMergeFault base active mine other → one ≢ merge.NoMemory → other ≢ merge.NoMemory → one ≡ other)
      (merge_or_fault : (base active mine merged : Statements) (fault : MergeFault) → IsMerge base active mine merged
      → IsMergeFault base active mine fault → fault ≡ merge.NoMemory) (s : State) where
    -- what is merged isn't refused
    merged_or_not : (own : CandidateView) (merged : Statements) (turned : Turned) → IsOwnMerge s own merged → IsNotMerged s own turned → ⊥
    merged_or_not own merged turned a b =
        merge_has_cause b.fault b.refusal b.told (merge_or_fault own.base (active_of s.kept) own.map merged b.fault a b.cause)

    not_merged_once : (own : CandidateView) (one other : Turned) → IsNotMerged s own one → IsNotMerged s own other → one ≡ other
    not_merged_once own one other a b =
        let same = unmerged_once own.base (active_of s.kept) own.map a.fault b.fault a.cause b.cause
        (merge_has_cause a.fault a.refusal a.told) (merge_has_cause b.fault b.refusal b.told)
        in a.is ∙ ap (refused s) (same_some a.refusal b.refusal (sym a.told ∙ ap merge_refusal_of same ∙ b.told)) ∙ sym b.is

    merged_once : (own : CandidateView) (accepted : Statements → Turned) (one other : Turned) → ChecksMerged s own one accepted
        → ChecksMerged s own other accepted → one ≡ other
    merged_once own accepted one other a b =
        checks_once s b.merged (accepted b.merged) one other
        (subst (λ (m : Statements). Checks s m one (accepted m)) (merge_once own.base (active_of s.kept) own.map a.merged b.merged a.merge b.merge) a.checks)
        b.checks

    whole_once : (own : Option CandidateView) (accepted : Statements → Turned) (one other : Turned) → ChecksWhole s own one accepted
        → ChecksWhole s own other accepted → one ≡ other
    whole_once None accepted one other a b = checks_once s s.shared.map (accepted s.shared.map) one other a b
    whole_once (Some own) accepted one other (inl a) (inl b) = merged_once own accepted one other a b
    whole_once (Some own) accepted one other (inl a) (inr b) = absurd (merged_or_not own a.merged other a.merge b)
    whole_once (Some own) accepted one other (inr a) (inl b) = absurd (merged_or_not own b.merged one b.merge a)
    whole_once (Some own) accepted one other (inr a) (inr b) = not_merged_once own one other a b

    -- an update leaves one candidate
    module _ (edit_once : (old one other : CandidateView) (made : Statements) → IsEdited old one made → IsEdited old other made → one ≡ other)
        (caller : ℕ) where
      updates_once : (one other : Turned) → Updates s caller one ⊎ IsNotMerged s (candidate_of s caller) one
          → Updates s caller other ⊎ IsNotMerged s (candidate_of s caller) other → one ≡ other
      updates_once one other (inl a) (inl b) =
          let same = merge_once (candidate_of s caller).base (active_of s.kept) (candidate_of s caller).map a.merged b.merged a.merge b.merge in
          let next = edit_once (fresh_of s.kept.last) a.next b.next b.merged
          (subst (λ (m : Statements). IsEdited (fresh_of s.kept.last) a.next m) same a.edited) b.edited
          in a.is ∙ ap (λ (c : CandidateView). answered (with_candidate s caller c) Done) next ∙ sym b.is
      updates_once one other (inl a) (inr b) = absurd (merged_or_not (candidate_of s caller) a.merged other a.merge b)
      updates_once one other (inr a) (inl b) = absurd (merged_or_not (candidate_of s caller) b.merged one b.merge a)
      updates_once one other (inr a) (inr b) = not_merged_once (candidate_of s caller) one other a b

module _ (s : State) (caller : ℕ)
    (words_once : (level : List Step) (asked : List (List ℕ)) (one other : Result Target WordsFault) → IsLevelPath level → ResolvesTo level asked one
    → ResolvesTo level asked other → one ≢ misnamed words.NoMemory → other ≢ misnamed words.NoMemory → one ≡ other)
    (full_once : (m : Statements) (full other : Expansion) → IsExpansion m full → IsExpansion m other → full ≡ other)
    (first_once : (m : Statements) (number other : ℕ) (path again : List Step) → IsFirst m number path → IsFirst m other again
    → (number ≡ other) × (path ≡ again))
    (accepted_or_first : (m : Statements) (number : ℕ) (path : List Step) → Accepts m → IsFirst m number path → ⊥)
    (load_once : (way : LoadWay) (old one other : Statements) (text : List ℕ) (told again : Bool) → IsLoad way old text one told
    → IsLoad way old text other again → (one ≡ other) × (told ≡ again))
    (load_fault_once : (way : LoadWay) (old : Statements) (text : List ℕ) (one other : LoadFault) → IsLoadFault way old text one
    → IsLoadFault way old text other → one ≢ load.NoMemory → other ≢ load.NoMemory → one ≡ other)
    (load_or_fault : (way : LoadWay) (old new : Statements) (text : List ℕ) (told : Bool) (fault : LoadFault) → IsLoad way old text new told
    → IsLoadFault way old text fault → fault ≡ load.NoMemory)
    (listing_once : (kept : Kept) (one other : List ℕ) → IsListing kept one → IsListing kept other → one ≡ other)
    (merge_once : (base active mine one other : Statements) → IsMerge base active mine one → IsMerge base active mine other → one ≡ other)
    (unmerged_once : (base active mine : Statements) (one other : MergeFault) → IsMergeFault base active mine one
    → IsMergeFault base active mine other → one ≢ merge.NoMemory → other ≢ merge.NoMemory → one ≡ other)
    (merge_or_fault : (base active mine merged : Statements) (fault : MergeFault) → IsMerge base active mine merged
    → IsMergeFault base active mine fault → fault ≡ merge.NoMemory)
    (edit_once : (old one other : CandidateView) (made : Statements) → IsEdited old one made → IsEdited old other made → one ≡ other)
    (is_level : IsLevelPath (level_of s caller))
    (change_once : (op : Op) (one other : CandidateView) → IsCandidateChange (candidate_of s caller) one (level_of s caller) op
    → IsCandidateChange (candidate_of s caller) other (level_of s caller) op → one ≡ other)
    (fault_once : (op : Op) (one other : EditFault) → IsEditFault (candidate_of s caller).map (level_of s caller) op one
    → IsEditFault (candidate_of s caller).map (level_of s caller) op other → one ≢ edit.NoMemory → other ≢ edit.NoMemory → one ≡ other)
    (change_or_fault : (op : Op) (n : CandidateView) (fault : EditFault) → IsCandidateChange (candidate_of s caller) n (level_of s caller) op
    → IsEditFault (candidate_of s caller).map (level_of s caller) op fault → fault ≡ edit.NoMemory) where
  once_at : (level : List Step) → IsLevelPath level → (asked : List (List ℕ)) (one other : Result Target WordsFault) → ResolvesTo level asked one
      → ResolvesTo level asked other → one ≢ misnamed words.NoMemory → other ≢ misnamed words.NoMemory → one ≡ other
  once_at level is asked one other = words_once level asked one other is

  moves_once : (asked : List (List ℕ)) (one other : Turned) → Moves s caller asked one ⊎ IsLost s (level_of s caller) asked one
      → Moves s caller asked other ⊎ IsLost s (level_of s caller) asked other → one ≡ other
  moves_once asked one other =
      answer_once (level_of s caller) (once_at (level_of s caller) is_level) (λ (target : Target). edited s caller target.path) (refused s) asked one other

  changes_once : (op : Op) (one other : Turned) → Changes s caller op one ⊎ IsUnchanged s caller op one
      → Changes s caller op other ⊎ IsUnchanged s caller op other → one ≡ other
  changes_once op one other (inl a) (inl b) =
      a.is ∙ ap (λ (n : CandidateView). answered (with_candidate s caller n) Done) (change_once op a.next b.next a.change b.change) ∙ sym b.is
  changes_once op one other (inl a) (inr b) =
      absurd (has_cause b.fault b.refusal b.told (change_or_fault op a.next b.fault a.change b.cause))
  changes_once op one other (inr a) (inl b) =
      absurd (has_cause a.fault a.refusal a.told (change_or_fault op b.next a.fault b.change a.cause))
  changes_once op one other (inr a) (inr b) =
      let same = fault_once op a.fault b.fault a.cause b.cause (has_cause a.fault a.refusal a.told) (has_cause b.fault b.refusal b.told)
      in a.is ∙ ap (refused s) (same_some a.refusal b.refusal (sym a.told ∙ ap refusal_of same ∙ b.told)) ∙ sym b.is

  replaces_once : (made : Statements) (one other : Turned) → Replaces s caller made one → Replaces s caller made other → one ≡ other
  replaces_once made one other a b =
      a.is ∙ ap (λ (n : CandidateView). answered (with_candidate s caller n) Loaded) (edit_once (candidate_of s caller) a.next b.next made a.edited b.edited)
      ∙ sym b.is

  loads_once : (way : LoadWay) (text : List ℕ) (one other : Turned) → Loads s caller way text one ⊎ IsNotLoaded s caller way text one
      → Loads s caller way text other ⊎ IsNotLoaded s caller way text other → one ≡ other
  loads_once way text one other (inl a) (inl b) =
      let same = load_once way (candidate_of s caller).map a.made b.made text a.told b.told a.load b.load in
      replaces_once b.made one other (subst (λ (m : Statements). Replaces s caller m one) same.0 a.replaces) b.replaces
  loads_once way text one other (inl a) (inr b) =
      absurd (load_has_cause b.fault b.refusal b.told (load_or_fault way (candidate_of s caller).map a.made text a.told b.fault a.load b.cause))
  loads_once way text one other (inr a) (inl b) =
      absurd (load_has_cause a.fault a.refusal a.told (load_or_fault way (candidate_of s caller).map b.made text b.told a.fault b.load a.cause))
  loads_once way text one other (inr a) (inr b) =
      let same = load_fault_once way (candidate_of s caller).map text a.fault b.fault a.cause b.cause (load_has_cause a.fault a.refusal a.told)
      (load_has_cause b.fault b.refusal b.told)
      in a.is ∙ ap (refused s) (same_some a.refusal b.refusal (sym a.told ∙ ap load_refusal_of same ∙ b.told)) ∙ sym b.is

  lists_once : (one other : Turned) → Lists s one → Lists s other → one ≡ other
  lists_once one other a b = a.is ∙ ap (λ (text : List ℕ). answered s (Text text)) (listing_once s.kept a.text b.text a.listing b.listing) ∙ sym b.is

  rolls_once : (n : ℕ) (commit : Option Commit) (one other : Turned) → RollsTo s caller n commit one → RollsTo s caller n commit other → one ≡ other
  rolls_once n None one other a b = a ∙ sym b
  rolls_once n (Some commit) one other a b =
      both_served (n == 0) _ _ _ _ (one ≡ other) (both_are _ one other) (replaces_once commit.tree one other) a b

  module _ (one other : Turned) where
    unless_once : (bar : Option Refusal) (P Q : Type 0) → (P → Q → one ≡ other) → Unless bar s one P → Unless bar s other Q → one ≡ other
    unless_once None P Q once a b = once a b
    unless_once (Some refusal) P Q once a b = a ∙ sym b

    -- a command that nothing bars has one outcome
    does_once : (command : Command) → Does s caller command one → Does s caller command other → one ≡ other
    does_once (Configure mode) = both_are _ one other
    does_once (ShowActive asked form) = shows_once [] (once_at [] (top_is_level [] refl)) full_once s (active_of s.kept) asked form one other
    does_once ShowCommits = lists_once one other
    does_once Logout = both_are _ one other
    does_once (Edit asked) = moves_once asked one other
    does_once (Up count) = both_are _ one other
    does_once Top = both_are _ one other
    does_once Exit = both_are _ one other
    does_once ExitAll = both_are _ one other
    does_once (Show asked form) = shows_once (level_of s caller) (once_at (level_of s caller) is_level) full_once s (candidate_of s caller).map asked form one other
    does_once (Change op) = changes_once op one other
    does_once (Load way text) = loads_once way text one other
    does_once (Rollback n) = rolls_once n (nth_last s.kept n) one other
    does_once CheckOnly =
        whole_once first_once accepted_or_first merge_once unmerged_once merge_or_fault s (own_of s caller) (λ m. checked s caller s.kept.pending) one other
    does_once (CommitAsked minutes comment quit) =
        whole_once first_once accepted_or_first merge_once unmerged_once merge_or_fault s (own_of s caller)
        (λ m. committed s caller m minutes comment quit) one other
    does_once (CommitAt when comment) =
        whole_once first_once accepted_or_first merge_once unmerged_once merge_or_fault s (own_of s caller)
        (λ m. set_for s caller m (at_of when s.greatest) comment) one other
    does_once ClearCommit = both_are _ one other
    does_once Update = updates_once first_once accepted_or_first merge_once unmerged_once merge_or_fault s edit_once caller one other
    does_once Status = both_are _ one other

    -- a command has one outcome
    pub serves_once : (command : Command) → Serves s caller command one → Serves s caller command other → one ≡ other
    serves_once command = unless_once (bar_to s caller command) _ _ (does_once command)

-- what was to be done ends in one way
put_once : (s : State) (done one other : Turned) → IsPutInFlight s done one → IsPutInFlight s done other → one ≡ other
put_once s done one other a b =
    a.is ∙ ap (λ (made : Made). record { state = record s { flight = Some made }; reply = Refused DiskFault; made = Some made })
    (same_some a.made b.made (sym a.makes ∙ b.makes)) ∙ sym b.is

ends_once : (outcome : Outcome) (s : State) (done one other : Turned) → Ends outcome s done one → Ends outcome s done other → one ≡ other
ends_once outcomes.Done s done one other a b = a ∙ sym b
ends_once outcomes.Fault s done one other a b = put_once s done one other a b

from_once : (waiting : Waiting) (s : State) (caller : ℕ) (event : Event) (outcome : Outcome) (one other : Turned)
    → ((command : Command) (done again : Turned) → Serves s caller command done → Serves s caller command again → done ≡ again)
    → StepsFrom waiting s caller event outcome one → StepsFrom waiting s caller event outcome other → one ≡ other
from_once (InFlight made) s caller (Settle is_kept) outcomes.Done one other once a b = a ∙ sym b
from_once (InFlight made) s caller (CommandOf command) outcomes.Fault one other once a b = a ∙ sym b
from_once (InFlight made) s caller (Settle is_kept) outcomes.Fault one other once a b = absurd a
from_once (InFlight made) s caller (CommandOf command) outcomes.Done one other once a b = absurd a
from_once (InFlight made) s caller Revert outcome one other once a b = absurd a
from_once (InFlight made) s caller Carry outcome one other once a b = absurd a
from_once Missed s caller Revert outcome one other once a b = ends_once outcome s (reverted s) one other a b
from_once Missed s caller (Settle is_kept) outcome one other once a b = absurd a
from_once Missed s caller (CommandOf command) outcome one other once a b = absurd a
from_once Missed s caller Carry outcome one other once a b = absurd a
from_once (Ready w) s caller Carry outcome one other once a b =
    ends_once outcome s (carried s w b.same) one other
    (subst (λ (same : Bool). Ends outcome s (carried s w same) one) (same_from_decides a.same b.same a.told b.told) a.ends) b.ends
from_once (Ready w) s caller (Settle is_kept) outcome one other once a b = absurd a
from_once (Ready w) s caller Revert outcome one other once a b = absurd a
from_once (Ready w) s caller (CommandOf command) outcome one other once a b = absurd a
from_once Free s caller (CommandOf command) outcome one other once a b =
    ends_once outcome s b.done one other (subst (λ (done : Turned). Ends outcome s done one) (once command a.done b.done a.serves b.serves) a.ends) b.ends
from_once Free s caller (Settle is_kept) outcome one other once a b = absurd a
from_once Free s caller Revert outcome one other once a b = absurd a
from_once Free s caller Carry outcome one other once a b = absurd a

-- an event has one outcome
pub steps_once :
    ((level : List Step) (asked : List (List ℕ)) (one other : Result Target WordsFault) → IsLevelPath level → ResolvesTo level asked one
    → ResolvesTo level asked other → one ≢ misnamed words.NoMemory → other ≢ misnamed words.NoMemory → one ≡ other)
    → ((m : Statements) (full other : Expansion) → IsExpansion m full → IsExpansion m other → full ≡ other)
    → ((m : Statements) (number other : ℕ) (path again : List Step) → IsFirst m number path → IsFirst m other again
    → (number ≡ other) × (path ≡ again))
    → ((m : Statements) (number : ℕ) (path : List Step) → Accepts m → IsFirst m number path → ⊥)
    → ((m : Statements) (level : List Step) (op : Op) (one other : EditFault) → IsLevelPath level → IsEditFault m level op one
    → IsEditFault m level op other → one ≢ edit.NoMemory → other ≢ edit.NoMemory → one ≡ other)
    → ((m n : Statements) (level : List Step) (op : Op) (told : Bool) (fault : EditFault) → IsLevelPath level → IsChange m n level op told
    → IsEditFault m level op fault → fault ≡ edit.NoMemory)
    → ((way : LoadWay) (old one other : Statements) (text : List ℕ) (told again : Bool) → IsLoad way old text one told
    → IsLoad way old text other again → (one ≡ other) × (told ≡ again))
    → ((way : LoadWay) (old : Statements) (text : List ℕ) (one other : LoadFault) → IsLoadFault way old text one
    → IsLoadFault way old text other → one ≢ load.NoMemory → other ≢ load.NoMemory → one ≡ other)
    → ((way : LoadWay) (old new : Statements) (text : List ℕ) (told : Bool) (fault : LoadFault) → IsLoad way old text new told
    → IsLoadFault way old text fault → fault ≡ load.NoMemory)
    → ((kept : Kept) (one other : List ℕ) → IsListing kept one → IsListing kept other → one ≡ other)
    → ((base active mine one other : Statements) → IsMerge base active mine one → IsMerge base active mine other → one ≡ other)
    → ((base active mine : Statements) (one other : MergeFault) → IsMergeFault base active mine one
    → IsMergeFault base active mine other → one ≢ merge.NoMemory → other ≢ merge.NoMemory → one ≡ other)
    → ((base active mine merged : Statements) (fault : MergeFault) → IsMerge base active mine merged
    → IsMergeFault base active mine fault → fault ≡ merge.NoMemory)
    → ((old one other : CandidateView) (made : Statements) → IsEdited old one made → IsEdited old other made → one ≡ other)
    → ((old one other : CandidateView) (level : List Step) (op : Op) → IsLevelPath level → IsCandidateChange old one level op
    → IsCandidateChange old other level op → one ≡ other)
    → (s : State) (caller moment : ℕ) (event : Event) (outcome : Outcome) (one other : Turned) → IsLevelPath (level_of s caller)
    → Steps s caller moment event outcome one → Steps s caller moment event outcome other → one ≡ other
steps_once words_once full_once first_once accepted_or_first fault_once map_or_fault load_once load_fault_once load_or_fault listing_once merge_once unmerged_once
    merge_or_fault edit_once change_once s caller moment event outcome one other is_level =
    from_once (waiting_of s moment) (later s moment) caller event outcome one other
    (λ command done again. serves_once (later s moment) caller words_once full_once first_once accepted_or_first load_once load_fault_once load_or_fault listing_once
    merge_once unmerged_once merge_or_fault edit_once is_level
    (λ op m n. change_once (candidate_of s caller) m n (level_of s caller) op is_level)
    (λ op f g. fault_once (candidate_of s caller).map (level_of s caller) op f g is_level)
    (λ op n fault change. map_or_fault (candidate_of s caller).map n.map (level_of s caller) op change.told fault is_level change.change)
    done again command)
