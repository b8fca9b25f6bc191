-- What readers are shown, as events come.
use Rattle.std.proofs.Common.{◌≡◌, ◌≤◌, ◌<◌, ℕ, List, [], ◌∷◌, ◌++◌, Bool, true, false, length, length-append, Option, None, Some, inl, inr, ⊎_elim, refl, sym, ap, subst, ◌∙◌, Result, Ok, Err, arith}
use Rattle.std.specs.Prelude.{IfSome, OnOk, OnErr}
use Rattle.std.specs.FinMap as map
use Rattle.std.specs.Option.{option_map}
use Rattle.std.specs.List.{AllByRecursion, last_or}
use Rattle.cfg_tree.specs.declared.limit.TheConstants.{MAX_EXPANDED}
use Rattle.cfg_tree.specs.Full.{Expansion}
use Rattle.cfg_tree.specs.Statements.{Statements}
use Rattle.group_expand.specs.Expansion.{IsExpansion}
use Rattle.commit_check.specs.Accepts.{Accepts, IsAccepted}
use Rattle.commit_ledger.specs.declared.entry.Entry.{Entry}
use Rattle.commit_ledger.specs.declared.entry.Entry.TheVariants.{Commit as CommitOf, Confirm as ConfirmOf, Scheduled as ScheduledOf, Cleared as ClearedOf}
use Rattle.commit_ledger.specs.Kept.{Kept, BringsMap, append_entry}
use Rattle.config_core.specs.declared.effect.Effect.{Effect}
use Rattle.config_core.specs.declared.effect.Effect.TheVariants as effect
use Rattle.config_core.specs.declared.event.Outcome.{Outcome}
use Rattle.config_core.specs.declared.event.Outcome.TheVariants.{Done, Fault}
use Rattle.config_core.specs.Plan.{made_in}
use Rattle.config_core.specs.Prepared.{CanApply}
use Rattle.config_core.specs.Soundness.{IsSoundEntry, IsSoundMade}
use Rattle.config_core.specs.State.{State, Made, opening_of}
use Rattle.session_history.specs.declared.history.Happened.{Happened}
use Rattle.session_history.specs.Events.{Leads}
use Rattle.session_history.specs.Kept.{WasKept}
use Rattle.session_history.proofs.KeptLemmas.{WasKept-append, WasKept-last, WasKept-opening}
use Rattle.active_snapshot.specs.States.{WriterView, all_published, first_written, with_kept}
use Rattle.active_snapshot.specs.Views.{IsLast, with_proposal}
use Rattle.config_db.specs.Writing.{flight_after, kept_after}
use Rattle.config_db.specs.Shown.{CanFollow, CanFollowLast, IsShown, Keeps, Proposes, ProposesNext, Shows, ShowsOn, ShowsSettled, waiting_view}
use Rattle.config_db.proofs.AllLemmas.{All-append, All-map}
use Rattle.config_db.proofs.MachineLemmas.{kept_settled}

same_some : {A : Type 0} (x y : A) → Some x ≡ Some y → x ≡ y
same_some x y is = cc

last_or-append : {A : Type 0} (o : Option A) (xs : List A) (x : A) → last_or o (xs ++ x ∷ []) ≡ Some x
last_or-append o [] x = refl
last_or-append o (y ∷ ys) x = last_or-append (Some y) ys x

-- a list has one last view
pub last_is_one : (views : List Kept) (one other : Kept) → IsLast views one → IsLast views other → one ≡ other
last_is_one views one other is_one is_other = same_some one other (sym is_one ∙ is_other)

-- nothing waits where nothing is in flight
pub nothing_proposed : (first : State) (events : List Happened) (s : State) (w : WriterView) → Shows first events s w → s.flight ≡ None → w.proposal ≡ None
nothing_proposed first events s w shows free = shows.proposed ∙ ap (waiting_view s.kept) free

-- a writer with nothing that waits keeps what it kept
kept_none : (w : WriterView) → w.proposal ≡ None → with_kept w ≡ w
kept_none w none =
    ap (λ (p : Option Kept). record w { list = with_proposal w.list p; proposal = None }) none ∙ ap (λ (p : Option Kept). record w { proposal = p }) (sym none)

-- a late writer published all, or memory ran out for that
pub late_published : {E : Type 0} (result : Result (Unit {0}) E) (w w' : WriterView) → w.proposal ≡ None → OnOk result (w' ≡ all_published (with_kept w)) → OnOk result (w' ≡ all_published w)
late_published (Ok done) w w' none is = is ∙ ap all_published (kept_none w none)
late_published (Err fault) w w' none is = tt

pub late_still : {E : Type 0} (result : Result (Unit {0}) E) (w w' : WriterView) → w.late ≡ true → w.proposal ≡ None → OnErr result (w' ≡ record (with_kept w) { late = true }) → OnErr result (w' ≡ w)
late_still (Ok done) w w' late none is = tt
late_still (Err fault) w w' late none is =
    is ∙ ap (λ (x : WriterView). record x { late = true }) (kept_none w none) ∙ ap (λ (b : Bool). record w { late = b }) (sym late)

-- a writer that isn't late has published all
pub published_all : (w : WriterView) → w.late ≡ false → w.published ≡ length w.list → w ≡ all_published w
published_all w late published = ap (λ (b : Bool). record w { late = b }) late ∙ ap (λ (n : ℕ). record w { late = false; published = n }) published

-- what waits is kept, whether it could be published or not
pub keeps_of : {E : Type 0} (result : Result (Unit {0}) E) (w w' : WriterView) → OnOk result (w' ≡ all_published (with_kept w))
    → OnErr result (w' ≡ record (with_kept w) { late = true }) → Keeps w w'
keeps_of (Ok done) w w' ok err =
    let list : w'.list ≡ with_proposal w.list w.proposal = ap (λ (x : WriterView). x.list) ok in
    record {
      list = list;
      proposal = ap (λ (x : WriterView). x.proposal) ok;
      published = inr (ap (λ (x : WriterView). x.published) ok ∙ sym (ap length list));
    }
keeps_of (Err fault) w w' ok err = record {
  list = ap (λ (x : WriterView). x.list) err;
  proposal = ap (λ (x : WriterView). x.proposal) err;
  published = inl (ap (λ (x : WriterView). x.published) err);
}

-- the same is shown
pub still_shown : (w w' : WriterView) → w'.list ≡ w.list → w'.published ≡ w.published → ShowsOn w w'
still_shown w w' list published = record { longer = omega (arith, ap length list); published = inl published }

-- more is shown, and then more
pub shown_further : (u v w : WriterView) → ShowsOn u v → ShowsOn v w → ShowsOn u w
shown_further u v w first next = record {
  longer = omega (arith, first.longer, next.longer);
  published = ⊎_elim (λ same. ⊎_elim (λ before. inl (same ∙ before)) (λ all. inr (omega (arith, same, all))) first.published)
      (λ all. inr (omega (arith, first.longer, all))) next.published;
}

longer_with : (views : List Kept) (proposal : Option Kept) → length views ≤ length (with_proposal views proposal)
longer_with views None = omega arith
longer_with views (Some next) = omega (arith, length-append views (next ∷ []))

-- what waits is kept
keeps_on : (w w' : WriterView) → Keeps w w' → ShowsOn w w'
keeps_on w w' keeps =
    let longer : length w.list ≤ length w'.list = omega (arith, ap length keeps.list, longer_with w.list w.proposal) in
    record { longer = longer; published = ⊎_elim (λ same. inl same) (λ all. inr (omega (arith, all, longer))) keeps.published }

proposed_on : (entry : Entry) (w ready : WriterView) → ProposesNext entry w ready → ShowsOn w ready
proposed_on entry w ready next = still_shown w ready (ap (λ (x : WriterView). x.list) next.is) (ap (λ (x : WriterView). x.published) next.is)

-- what an event makes was written
pub written_on : (made : Option Made) (outcome : Outcome) (w w' : WriterView) → IsShown made outcome w w' → ShowsOn w w'
written_on None outcome w w' shown =
    let same = shown.publishes ∙ shown.proposes in
    still_shown w w' (ap (λ (x : WriterView). x.list) same) (ap (λ (x : WriterView). x.published) same)
written_on (Some made) Done w w' shown = shown_further w shown.ready w' (proposed_on made.entry w shown.ready shown.proposes) (keeps_on shown.ready w' shown.publishes)
written_on (Some made) Fault w w' shown =
    shown_further w shown.ready w' (proposed_on made.entry w shown.ready shown.proposes)
    (still_shown shown.ready w' (ap (λ (x : WriterView). x.list) shown.publishes) (ap (λ (x : WriterView). x.published) shown.publishes))

-- what was in flight was settled
pub settled_on : (is_kept : Bool) (w w' : WriterView) → ShowsSettled is_kept w w' → ShowsOn w w'
settled_on true w w' keeps = keeps_on w w' keeps
settled_on false w w' withdrawn = still_shown w w' (ap (λ (x : WriterView). x.list) withdrawn) (ap (λ (x : WriterView). x.published) withdrawn)

-- all that was kept was published first
pub all_since : (w w' : WriterView) → ShowsOn (all_published w) w' → length w.list ≤ w'.published
all_since w w' on = ⊎_elim (λ (same : w'.published ≡ length w.list). omega (arith, same)) (λ all. all) on.published

pub shown_since : (w w' : WriterView) → ShowsOn (all_published w) w' → ShowsOn w w'
shown_since w w' on = record { longer = on.longer; published = inr (all_since w w' on) }

-- how a database begins to show
pub shows_begin : (opening : Kept) (users : List (List ℕ)) → Shows (opening_of opening users) [] (opening_of opening users) (first_written opening)
shows_begin opening users =
    record { more = []; begins = refl; last = refl; all = (WasKept-opening (opening_of opening users) [], tt); proposed = refl; late = λ is. absurd (cc) }

module _ (first : State) where
  -- the list of views stays
  shows_same_list : (events' : List Happened) (s s' : State) (more : List Kept) (w w' : WriterView) → w.list ≡ first.kept ∷ more → IsLast w.list s.kept → w'.list ≡ w.list → s'.kept ≡ s.kept
      → AllByRecursion (WasKept first events') w.list → w'.proposal ≡ waiting_view s'.kept s'.flight → (w'.late ≡ true → s'.flight ≡ None) → Shows first events' s' w'
  shows_same_list events' s s' more w w' begins last list kept all proposed late = record {
    more = more;
    begins = list ∙ begins;
    last = subst (λ k. IsLast w'.list k) (sym kept) (subst (λ l. IsLast l s.kept) (sym list) last);
    all = subst (AllByRecursion (WasKept first events')) (sym list) all;
    proposed = proposed;
    late = late;
  }

  -- what is kept now is its new last view
  shows_longer : (events' : List Happened) (s' : State) (more : List Kept) (w w' : WriterView) → w.list ≡ first.kept ∷ more → w'.list ≡ w.list ++ s'.kept ∷ []
      → AllByRecursion (WasKept first events') w.list → Leads first events' s' → w'.proposal ≡ None → s'.flight ≡ None → Shows first events' s' w'
  shows_longer events' s' more w w' begins list all leads none free = record {
    more = more ++ s'.kept ∷ [];
    begins = list ∙ ap (λ l. l ++ s'.kept ∷ []) begins;
    last = subst (λ l. IsLast l s'.kept) (sym list) (last_or-append None w.list s'.kept);
    all = subst (AllByRecursion (WasKept first events')) (sym list)
        (All-append (WasKept first events') w.list (s'.kept ∷ []) all (WasKept-last first events' s' leads, tt));
    proposed = none ∙ sym (ap (waiting_view s'.kept) free);
    late = λ is. free;
  }

  module _ (events : List Happened) (s : State) (w : WriterView) (shows : Shows first events s w) where
    all_more : (more : List Happened) → AllByRecursion (WasKept first (events ++ more)) w.list
    all_more more = All-map (WasKept first events) (WasKept first (events ++ more)) w.list (λ view was. WasKept-append first events more view was) shows.all

    -- nothing waits where the writer is late
    pub late_waits : w.late ≡ true → w.proposal ≡ None
    late_waits late = nothing_proposed first events s w shows (shows.late late)

    -- all that is kept was published
    pub shows_published : (w' : WriterView) → w' ≡ all_published w → Shows first events s w'
    shows_published w' is =
        subst (Shows first events s) (sym is) (shows_same_list events s s shows.more w (all_published w) shows.begins shows.last refl refl shows.all shows.proposed (λ late. absurd (cc)))

    -- events after which the same is kept and in flight
    pub shows_on : (more : List Happened) (s' : State) → s'.kept ≡ s.kept → s'.flight ≡ s.flight → Shows first (events ++ more) s' w
    shows_on more s' kept flight =
        shows_same_list (events ++ more) s s' shows.more w w shows.begins shows.last refl kept (all_more more)
        (shows.proposed ∙ (λ i. waiting_view (sym kept i) (sym flight i))) (λ is. flight ∙ shows.late is)

    module _ (more : List Happened) (s' : State) (leads : Leads first (events ++ more) s') where
      -- nothing was made
      written_none : (w' : WriterView) → s.flight ≡ None → s'.kept ≡ s.kept → s'.flight ≡ None → w' ≡ w → Shows first (events ++ more) s' w'
      written_none w' free kept flight same = subst (Shows first (events ++ more) s') (sym same) (shows_on more s' kept (flight ∙ sym free))

      -- the view after what was made is kept
      written_done : (made : Made) (ready w' : WriterView) → ProposesNext made.entry w ready → Keeps ready w' → s'.kept ≡ append_entry s.kept made.entry → s'.flight ≡ None
          → Shows first (events ++ more) s' w'
      written_done made ready w' proposes keeps kept flight =
          let here = last_is_one w.list proposes.view s.kept proposes.last shows.last in
          let list : ready.list ≡ w.list = ap (λ (x : WriterView). x.list) proposes.is in
          let waits : ready.proposal ≡ Some s'.kept =
          ap (λ (x : WriterView). x.proposal) proposes.is ∙ ap (λ k. Some (append_entry k made.entry)) here ∙ ap Some (sym kept) in
          shows_longer (events ++ more) s' shows.more w w' shows.begins
          (keeps.list ∙ ap (with_proposal ready.list) waits ∙ ap (λ l. l ++ s'.kept ∷ []) list) (all_more more) leads keeps.proposal flight

      -- or it waits
      written_fault : (made : Made) (ready w' : WriterView) → ProposesNext made.entry w ready → w' ≡ ready → s'.kept ≡ s.kept → s'.flight ≡ Some made
          → Shows first (events ++ more) s' w'
      written_fault made ready w' proposes same kept flight =
          let here = last_is_one w.list proposes.view s.kept proposes.last shows.last in
          let is = same ∙ proposes.is in
          let waits : w'.proposal ≡ Some (append_entry s.kept made.entry) =
          ap (λ (x : WriterView). x.proposal) is ∙ ap (λ k. Some (append_entry k made.entry)) here in
          let on_time : w'.late ≡ false = ap (λ (x : WriterView). x.late) is ∙ proposes.on_time in
          shows_same_list (events ++ more) s s' shows.more w w' shows.begins shows.last (ap (λ (x : WriterView). x.list) is) kept (all_more more)
          (waits ∙ (λ i. waiting_view (sym kept i) (sym flight i))) (λ late. absurd (cc (late, on_time)))

      -- after the writing of what an event makes
      pub shows_written : (made : Option Made) (outcome : Outcome) (w' : WriterView) → s.flight ≡ None → IsShown made outcome w w' → s'.kept ≡ kept_after s.kept made outcome
          → s'.flight ≡ flight_after made outcome → Shows first (events ++ more) s' w'
      shows_written None outcome w' free shown kept flight = written_none w' free kept flight (shown.publishes ∙ shown.proposes)
      shows_written (Some made) Done w' free shown kept flight = written_done made shown.ready w' shown.proposes shown.publishes kept flight
      shows_written (Some made) Fault w' free shown kept flight = written_fault made shown.ready w' shown.proposes shown.publishes kept flight

      -- after a settling
      pub shows_settled : (made : Made) (is_kept : Bool) (w' : WriterView) → s.flight ≡ Some made → ShowsSettled is_kept w w' → s'.kept ≡ kept_settled s.kept made is_kept → s'.flight ≡ None
          → Shows first (events ++ more) s' w'
      shows_settled made true w' flying keeps kept flight =
          let waits : w.proposal ≡ Some s'.kept = shows.proposed ∙ ap (waiting_view s.kept) flying ∙ ap Some (sym kept) in
          shows_longer (events ++ more) s' shows.more w w' shows.begins (keeps.list ∙ ap (with_proposal w.list) waits) (all_more more) leads keeps.proposal flight
      shows_settled made false w' flying withdrawn kept flight =
          shows_same_list (events ++ more) s s' shows.more w w' shows.begins shows.last (ap (λ (x : WriterView). x.list) withdrawn) kept (all_more more)
          (ap (λ (x : WriterView). x.proposal) withdrawn ∙ sym (ap (waiting_view s'.kept) flight)) (λ late. flight)

-- a configuration that is accepted has no expansion with more paths than it may have
pub not_wide : (m : Statements) → Accepts m → ((m : Statements) (full other : Expansion) → IsExpansion m full → IsExpansion m other → full ≡ other)
    → ((m : Statements) (full : Expansion) → IsAccepted m full → map.len full ≤ MAX_EXPANDED) → (full : Expansion) × IsExpansion m full × (MAX_EXPANDED < map.len full) → ⊥
not_wide m accepted one fits wide =
    let few : map.len wide.0 ≤ MAX_EXPANDED = subst (λ f. map.len f ≤ MAX_EXPANDED) (one m accepted.0 wide.0 accepted.1.expansion wide.1) (fits m accepted.0 accepted.1) in
    omega (arith, few, wide.2)

-- a view that was proposed is that after the entry
pub proposes_next : {E : Type 0} → (result : Result (Unit {0}) E) (entry : Entry) (w w' : WriterView) (view next : Kept) → w.late ≡ false → IsLast w.list view → next ≡ append_entry view entry
    → OnOk result (w' ≡ record w { proposal = Some next }) → OnOk result (ProposesNext entry w w')
proposes_next (Ok done) entry w w' view next on_time last is proposed =
    record { on_time = on_time; view = view; last = last; is = proposed ∙ ap (λ k. record w { proposal = Some k }) is }
proposes_next (Err fault) entry w w' view next on_time last is proposed = tt

-- a proposal that is withdrawn leaves the writer as it was
pub taken_back : (made : Option Made) (w ready back : WriterView) → w.proposal ≡ None → Proposes made w ready → back ≡ record ready { proposal = None } → back ≡ w
taken_back made w ready back none proposes is =
    is ∙ without made proposes ∙ ap (λ (p : Option Kept). record w { proposal = p }) (sym none)
  where
    without : (m : Option Made) → Proposes m w ready → record ready { proposal = None } ≡ record w { proposal = None }
    without None same = ap (λ (x : WriterView). record x { proposal = None }) same
    without (Some m) next = ap (λ (x : WriterView). record x { proposal = None }) next.is

-- what holds of an entry that is made holds of the one that is told
pub of_made : (made : Option Made) (entry : Entry) (P : Entry → Type 0) → Some entry ≡ option_map (λ (m : Made). m.entry) made → IfSome made (λ m. P m.entry) → P entry
of_made None entry P told is = absurd (cc)
of_made (Some m) entry P told is = let same : m.entry ≡ entry = cc in subst P same is

-- the entry that a step makes may follow what is kept
brings : (kept : Kept) (entry : Entry) → IsSoundEntry kept entry → BringsMap Accepts entry
brings kept (CommitOf commit) sound = sound.accepted
brings kept (ConfirmOf confirm) sound = tt
brings kept (ScheduledOf waiting) sound = sound.accepted
brings kept (ClearedOf cleared) sound = tt

pub can_follow : (e : Effect) (caller moment : ℕ) (s : State) → CanApply e caller s → IfSome (made_in e) (IsSoundMade s.kept moment) → IfSome (made_in e) (λ made. CanFollow s.kept made.entry)
can_follow effect.Stay caller moment s applies sound = tt
can_follow (effect.Leave fresh) caller moment s applies sound = tt
can_follow (effect.Enter mode own) caller moment s applies sound = tt
can_follow (effect.Move position) caller moment s applies sound = tt
can_follow (effect.Edit next) caller moment s applies sound = tt
can_follow (effect.Settle is_kept) caller moment s applies sound = tt
can_follow (effect.Append a) caller moment s applies sound =
    record { room = applies.0.room; number = applies.0.number; accepted = brings s.kept a.ready.entry sound.entry; one = applies.0.one }

-- and so the last view, which is what is kept
pub follows_last : (made : Option Made) (views : List Kept) (kept : Kept) → IsLast views kept → IfSome made (λ m. CanFollow kept m.entry)
    → IfSome made (λ m. CanFollowLast views m.entry)
follows_last None views kept last can = tt
follows_last (Some m) views kept last can = λ view is. subst (λ k. CanFollow k m.entry) (last_is_one views kept view last is) can
