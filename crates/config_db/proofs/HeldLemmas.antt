-- The entries that events of the database add, and those that are held.
use Rattle.std.proofs.Common.{◌≡◌, ◌≤◌, ℕ, length, Bool, true, false, List, [], ◌∷◌, ◌++◌, refl, sym, ap, subst, ◌∙◌, Option, None, Some, append_assoc}
use Rattle.std.specs.Prelude.{IfSome, IsSome}
use Rattle.std.specs.Option.{option_map}
use Rattle.std.proofs.lemmas.List.{append-nil}
use Rattle.commit_ledger.specs.declared.entry.Entry.{Entry}
use Rattle.commit_ledger.specs.Kept.{Kept}
use Rattle.config_core.specs.declared.event.Event.{Event}
use Rattle.config_core.specs.declared.event.Event.TheVariants.{Settle, Revert, Carry, Command as CommandOf}
use Rattle.config_core.specs.declared.event.Outcome.{Outcome}
use Rattle.config_core.specs.declared.event.Outcome.TheVariants.{Done, Fault}
use Rattle.config_core.specs.declared.reply.Reply.{Reply}
use Rattle.config_core.specs.State.{State, Made}
use Rattle.session_history.specs.declared.history.Happened.{Happened}
use Rattle.session_history.specs.Events.{is_command}
use Rattle.stored_ledger.specs.Stored.{IsNext}
use Rattle.config_db.specs.View.{DatabaseView, opened}
use Rattle.config_db.specs.Numbers.{calls_of}
use Rattle.config_db.specs.Writing.{entry_in, flight_after, kept_after}
use Rattle.config_db.specs.Added.{Adds, AddsAt, AddsOne, AddsSome, added_by, entries_in}
use Rattle.config_db.specs.declared.holding.TheConstants.{MOST_HELD}
use Rattle.config_db.specs.Appended.{AreAppended, HeldView, HoldsAdded, HoldsMade, HoldsSettled, IsPut, IsRest}
use Rattle.config_db.specs.Moves.{Happens, noted}
use Rattle.config_db.proofs.AddedLemmas.{Adds-append, adds_at, adds_count}
use Rattle.config_db.proofs.BookLemmas.{same_opened}
use Rattle.config_db.proofs.MachineLemmas.{kept_settled}

pub some_more : (s : State) (events more : List Happened) (mid last : State) → AddsSome s events mid → AddsSome mid more last → AddsSome s (events ++ more) last
some_more s events more mid last front back = (front.0 ++ back.0, Adds-append s events more mid last front.0 back.0 front.1 back.1)

-- the entry that a step with nothing in flight adds
pub adds_made : (kept : Kept) (event : Event) (outcome : Outcome) (made : Option Made) → IfSome made (λ m. IsNext kept m.entry)
    → AddsOne kept (added_by None event outcome made) (kept_after kept made outcome)
adds_made kept event Done None next = refl
adds_made kept event Fault None next = refl
adds_made kept event Done (Some m) next = (next, refl)
adds_made kept event Fault (Some m) next = refl

-- and a settling
abbrev pub entry_settled : Option Made → Bool → Option Entry
entry_settled flight true = entry_in flight
entry_settled flight false = None

pub entry_is_settled : (flight : Option Made) (made : Made) (is_kept : Bool) (other : Option Made) → flight ≡ Some made → added_by flight (Settle is_kept) Done other ≡ entry_settled flight is_kept
entry_is_settled None made is_kept other is = absurd (cc)
entry_is_settled (Some m) made true other is = refl
entry_is_settled (Some m) made false other is = refl

pub adds_settled : (kept : Kept) (made : Made) (is_kept : Bool) → IsNext kept made.entry → AddsOne kept (entry_settled (Some made) is_kept) (kept_settled kept made is_kept)
adds_settled kept made true next = (next, refl)
adds_settled kept made false next = refl

-- a command that is put off adds none
pub none_put_off : (flight : Option Made) (made : Made) (event : Event) (other : Option Made) → is_command event ≡ true → flight ≡ Some made → added_by flight event Fault other ≡ None
none_put_off None made event other asks is = absurd (cc)
none_put_off (Some m) made (Settle is_kept) other asks is = absurd (cc)
none_put_off (Some m) made Revert other asks is = absurd (cc)
none_put_off (Some m) made Carry other asks is = absurd (cc)
none_put_off (Some m) made (CommandOf command) other asks is = refl

-- a rest of a list, with more behind it
rest_further : (all held more held' : List Entry) → IsRest all held → IsRest (held ++ more) held' → IsRest (all ++ more) held'
rest_further all held more held' (front, is) (cut, then_is) =
    (front ++ cut, ap (λ l. l ++ more) is ∙ append_assoc front held more ∙ ap (λ l. front ++ l) then_is ∙ sym (append_assoc front cut held'))

pub same_rest : (held held' : List Entry) → held' ≡ held → IsRest (held ++ []) held'
same_rest held held' same = ([], append-nil held ∙ sym same)

pub none_rests : (all rest : List Entry) → rest ≡ [] → IsRest all rest
none_rests all rest is = (all, sym (append-nil all) ∙ ap (λ l. all ++ l) (sym is))

-- an entry that was written is put behind those that are held
pub holds_done : (made : Option Made) (entry : Entry) (outcome : Outcome) (copy : Option Entry) (h h' : HeldView) → Some entry ≡ option_map (λ (m : Made). m.entry) made → outcome ≡ Done
    → IfSome copy (λ one. one ≡ entry) → IsPut copy h.entries h'.entries → h'.waits ≡ h.waits → HoldsMade made outcome h h'
holds_done None entry outcome copy h h' told done is put waits = absurd (cc)
holds_done (Some m) entry Fault copy h h' told done is put waits = absurd (cc)
holds_done (Some m) entry Done copy h h' told done is put waits =
    let same : entry ≡ m.entry = cc in
    (put m.entry (subst (λ e. IfSome copy (λ one. one ≡ e)) same is), waits)

-- a copy of what is in flight
of_copy : (waits : Option Entry) (entry : Entry) → IfSome waits (λ copy. copy ≡ entry) → IfSome waits (λ copy. Some entry ≡ Some copy)
of_copy None entry is = tt
of_copy (Some copy) entry is = ap Some (sym is)

copy_of : (waits : Option Entry) (entry : Entry) → IfSome waits (λ copy. Some entry ≡ Some copy) → IfSome waits (λ copy. copy ≡ entry)
copy_of None entry is = tt
copy_of (Some copy) entry is = cc

pub still_waits : (h h' : HeldView) (flight after : Option Made) → h'.waits ≡ h.waits → after ≡ flight → IfSome h.waits (λ copy. entry_in flight ≡ Some copy)
    → IfSome h'.waits (λ copy. entry_in after ≡ Some copy)
still_waits h h' flight after same is waits =
    subst (λ f. IfSome h'.waits (λ copy. entry_in f ≡ Some copy)) (sym is) (subst (λ w. IfSome w (λ copy. entry_in flight ≡ Some copy)) (sym same) waits)

module _ (caller moment : ℕ) (event : Event) (outcome : Outcome) (reply : Reply) (v w : DatabaseView) (happens : Happens caller moment event outcome reply v w) where
  happens_at : AddsAt v.state (noted caller moment event outcome (calls_of w.journal)) w.state (entries_in (added_by v.state.flight event outcome happens.turns.turned.made))
  happens_at =
      record { fits = happens.turns.fits; turned = happens.turns.turned; steps = happens.turns.steps; state = happens.turns.state; one = happens.adds; own_is = refl }

  -- one event adds one entry or none
  pub happens_add : AddsSome v.state (noted caller moment event outcome (calls_of w.journal) ∷ []) w.state
  happens_add = (_, adds_at v.state (noted caller moment event outcome (calls_of w.journal)) w.state _ happens_at)

  -- what is held after one event more, of which it is known which entry it adds
  pub held_after : (entry : Option Entry) (h h' : HeldView) → added_by v.state.flight event outcome happens.turns.turned.made ≡ entry
      → HoldsAdded (opened v) v.events v.state h → IsRest (h.entries ++ entries_in entry) h'.entries → IfSome h'.waits (λ copy. entry_in w.state.flight ≡ Some copy)
      → HoldsAdded (opened w) w.events w.state h'
  held_after entry h h' is held rest waits =
      let own = entries_in (added_by v.state.flight event outcome happens.turns.turned.made) in
      let adds = Adds-append (opened v) v.events (noted caller moment event outcome (calls_of w.journal) ∷ []) v.state w.state held.added own held.adds
      (adds_at v.state (noted caller moment event outcome (calls_of w.journal)) w.state own happens_at) in
      let longer : IsRest (held.added ++ entries_in entry) h'.entries = rest_further held.added h.entries (entries_in entry) h'.entries held.rest rest in
      record {
        added = held.added ++ own;
        adds = subst (λ s. Adds s w.events w.state (held.added ++ own)) (sym (same_opened v w happens.same))
            (subst (λ es. Adds (opened v) es w.state (held.added ++ own)) (sym happens.grown) adds);
        rest = subst (λ o. IsRest (held.added ++ entries_in o) h'.entries) (sym is) longer;
        waits = waits;
      }

-- nothing was added yet
pub held_begins : (s : State) (events : List Happened) (last : State) → last ≡ s → events ≡ [] → HoldsAdded s events last (record { entries = []; waits = None })
held_begins s events last is none =
    record { added = []; adds = subst (λ es. Adds s es last []) (sym none) (is, refl); rest = ([], refl); waits = tt }

-- after the writing of what an event makes, with nothing in flight before it
pub rest_made : (event : Event) (made : Option Made) (outcome : Outcome) (h h' : HeldView) → HoldsMade made outcome h h' → IsRest (h.entries ++ entries_in (added_by None event outcome made)) h'.entries
rest_made event None Done h h' holds = same_rest h.entries h'.entries (ap (λ (x : HeldView). x.entries) holds)
rest_made event None Fault h h' holds = same_rest h.entries h'.entries (ap (λ (x : HeldView). x.entries) holds)
rest_made event (Some m) Done h h' holds = holds.0
rest_made event (Some m) Fault h h' holds = same_rest h.entries h'.entries holds.0

pub waits_made : (made : Option Made) (outcome : Outcome) (flight after : Option Made) (h h' : HeldView) → HoldsMade made outcome h h' → IfSome h.waits (λ copy. entry_in flight ≡ Some copy) → flight ≡ None
    → after ≡ flight_after made outcome → IfSome h'.waits (λ copy. entry_in after ≡ Some copy)
waits_made None outcome flight after h h' holds waits free is = still_waits h h' flight after (ap (λ (x : HeldView). x.waits) holds) (is ∙ sym free) waits
waits_made (Some m) Done flight after h h' holds waits free is = still_waits h h' flight after holds.1 (is ∙ sym free) waits
waits_made (Some m) Fault flight after h h' holds waits free is =
    subst (λ f. IfSome h'.waits (λ copy. entry_in f ≡ Some copy)) (sym is) (of_copy h'.waits m.entry holds.1)

-- after a settling
pub rest_settled : (flight : Option Made) (is_kept : Bool) (h h' : HeldView) → IsSome flight → HoldsSettled is_kept h h' → IfSome h.waits (λ copy. entry_in flight ≡ Some copy)
    → IsRest (h.entries ++ entries_in (entry_settled flight is_kept)) h'.entries
rest_settled None is_kept h h' some holds waits = absurd (cc)
rest_settled (Some m) true h h' some holds waits = holds.kept refl m.entry (copy_of h.waits m.entry waits)
rest_settled (Some m) false h h' some holds waits = same_rest h.entries h'.entries (holds.lost refl)

pub waits_settled : (is_kept : Bool) (flight : Option Made) (h h' : HeldView) → HoldsSettled is_kept h h' → IfSome h'.waits (λ copy. entry_in flight ≡ Some copy)
waits_settled is_kept flight h h' holds = subst (λ w. IfSome w (λ copy. entry_in flight ≡ Some copy)) (sym holds.waits) tt

-- what is held, as it is handed out
pub are_appended : (v : DatabaseView) (h : HeldView) (list : List Entry) → HoldsAdded (opened v) v.events v.state h → list ≡ h.entries → length list ≤ MOST_HELD → AreAppended v list
are_appended v h list held is few = record {
  added = held.added;
  adds = held.adds;
  counted = adds_count (opened v) v.events v.state held.added held.adds;
  rest = subst (IsRest held.added) (sym is) held.rest;
  few = few;
}
