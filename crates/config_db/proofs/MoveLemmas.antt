-- Events of one caller at one moment, one after another.
use Rattle.std.proofs.Common.{◌≡◌, ℕ, List, [], ◌∷◌, ◌++◌, refl, sym, ap, ◌∙◌, append_assoc, arith}
use Rattle.session_history.specs.Events.{IsEventOf}
use Rattle.commit_journal.specs.Journal.{disks_of}
use Rattle.disk_model.specs.Pair.{FaultOnEither}
use Rattle.std.specs.List.{AllByRecursion}
use Rattle.std.proofs.lemmas.List.{append-nil}
use Rattle.config_core.specs.declared.event.Event.{Event}
use Rattle.config_core.specs.declared.event.Outcome.{Outcome}
use Rattle.config_core.specs.declared.event.Outcome.TheVariants.{Fault}
use Rattle.config_core.specs.declared.reply.Reply.{Reply}
use Rattle.session_history.specs.declared.history.Happened.{Happened}
use Rattle.session_history.proofs.EventLemmas.{Leads-append}
use Rattle.active_snapshot.specs.States.{WriterView}
use Rattle.config_db.specs.View.{DatabaseView, IsSameRun}
use Rattle.config_db.specs.Numbers.{calls_of}
use Rattle.config_db.specs.Disks.{GoesOn}
use Rattle.config_db.specs.Faults.{FaultsAreCounted}
use Rattle.config_db.specs.Moves.{Extends, Happens, HasCause, IsUnsettled, noted}
use Rattle.config_db.proofs.AllLemmas.{All-append, All-map}
use Rattle.config_db.proofs.HeldLemmas.{happens_add, some_more}
use Rattle.config_db.proofs.CalledLemmas.{called_none, called_then}
use Rattle.config_db.proofs.DiskLemmas.{goes_further, goes_nowhere, rose_first, rose_last, tell_on}
use Rattle.config_db.proofs.BookLemmas.{turn_leads}
use Rattle.config_db.proofs.FaultLemmas.{counted_more, counted_none, counted_one}
use Rattle.config_db.proofs.ShownLemmas.{shown_further, still_shown}

module _ (caller moment : ℕ) where
  same_run : (u v w : DatabaseView) → IsSameRun u v → IsSameRun v w → IsSameRun u w
  same_run u v w first next = record { opening = next.opening ∙ first.opening; users = next.users ∙ first.users }

  -- nothing happened
  pub extends_none : (v : DatabaseView) → Extends caller moment [] v v
  extends_none v = record {
    leads = refl;
    grown = sym (append-nil v.events);
    added = ([], (refl, refl));
    made = tt;
    causes = tt;
    counted = counted_none (disks_of v.journal) (disks_of v.journal) (omega arith) (omega arith);
    same = record { opening = refl; users = refl };
    goes = goes_nowhere v.journal;
    called = λ t. called_none v.journal;
    shown = still_shown v.shown v.shown refl refl;
  }

  -- a settling failed
  pub extends_unsettled : (v v' : DatabaseView) → IsUnsettled v v' → Extends caller moment [] v v'
  extends_unsettled v v' un = record {
    leads = un.state;
    grown = un.events ∙ sym (append-nil v.events);
    added = ([], (un.state, refl));
    made = tt;
    causes = tt;
    counted = counted_none (disks_of v.journal) (disks_of v'.journal) un.goes.faults_a un.goes.faults_b;
    same = un.same;
    goes = un.goes;
    called = un.called;
    shown = still_shown v.shown v'.shown (ap (λ (w : WriterView). w.list) un.shown) (ap (λ (w : WriterView). w.published) un.shown);
  }

  causes_first : (u v w : DatabaseView) (own : List Happened) → AllByRecursion (HasCause u.journal v.journal) own → GoesOn v.journal w.journal
      → AllByRecursion (HasCause u.journal w.journal) own
  causes_first u v w own causes on =
      All-map (HasCause u.journal v.journal) (HasCause u.journal w.journal) own (λ e cause is. rose_first u.journal v.journal w.journal (cause is) on) causes

  causes_last : (u v w : DatabaseView) (own : List Happened) → GoesOn u.journal v.journal → GoesOn v.journal w.journal → AllByRecursion (HasCause v.journal w.journal) own
      → AllByRecursion (HasCause u.journal w.journal) own
  causes_last u v w own on more causes =
      All-map (HasCause v.journal w.journal) (HasCause u.journal w.journal) own (λ e cause is. rose_last u.journal v.journal w.journal on more (cause is)) causes

  -- one event more
  pub extends_event : (u v w : DatabaseView) (own : List Happened) (event : Event) (outcome : Outcome) (reply : Reply) → Extends caller moment own u v
      → Happens caller moment event outcome reply v w → (outcome ≡ Fault → FaultOnEither (disks_of u.journal) (disks_of w.journal))
      → FaultsAreCounted (own ++ noted caller moment event outcome (calls_of w.journal) ∷ []) (disks_of u.journal) (disks_of w.journal)
      → Extends caller moment (own ++ noted caller moment event outcome (calls_of w.journal) ∷ []) u w
  extends_event u v w own event outcome reply before happens cause counted =
      let e : Happened = noted caller moment event outcome (calls_of w.journal) in
      record {
        leads = Leads-append u.state own (e ∷ []) v.state w.state before.leads (turn_leads v.state w.state caller moment event outcome reply (calls_of w.journal) happens.turns);
        grown = happens.grown ∙ ap (λ l. l ++ e ∷ []) before.grown ∙ append_assoc u.events own (e ∷ []);
        added = some_more u.state own (e ∷ []) v.state w.state before.added (happens_add caller moment event outcome reply v w happens);
        made = All-append (IsEventOf caller moment) own (e ∷ []) before.made ((refl, refl), tt);
        causes = All-append (HasCause u.journal w.journal) own (e ∷ []) (causes_first u v w own before.causes happens.goes) (cause, tt);
        counted = counted;
        same = same_run u v w before.same happens.same;
        goes = goes_further u.journal v.journal w.journal before.goes happens.goes;
        called = λ t. called_then u.journal v.journal w.journal (before.called t) (happens.called (tell_on u.journal v.journal before.goes t));
        shown = shown_further u.shown v.shown w.shown before.shown happens.shown;
      }

  pub extends_one : (v w : DatabaseView) (event : Event) (outcome : Outcome) (reply : Reply) → Happens caller moment event outcome reply v w
      → (outcome ≡ Fault → FaultOnEither (disks_of v.journal) (disks_of w.journal)) → Extends caller moment (noted caller moment event outcome (calls_of w.journal) ∷ []) v w
  extends_one v w event outcome reply happens cause =
      extends_event v v w [] event outcome reply (extends_none v) happens cause
      (counted_one v.journal w.journal (noted caller moment event outcome (calls_of w.journal)) happens.goes cause)

  -- events, and then more
  pub extends_more : (u v w : DatabaseView) (own more : List Happened) → Extends caller moment own u v → Extends caller moment more v w
      → Extends caller moment (own ++ more) u w
  extends_more u v w own more first next = record {
    leads = Leads-append u.state own more v.state w.state first.leads next.leads;
    grown = next.grown ∙ ap (λ l. l ++ more) first.grown ∙ append_assoc u.events own more;
    added = some_more u.state own more v.state w.state first.added next.added;
    made = All-append (IsEventOf caller moment) own more first.made next.made;
    causes = All-append (HasCause u.journal w.journal) own more (causes_first u v w own first.causes next.goes) (causes_last u v w more first.goes next.goes next.causes);
    counted = counted_more own more (disks_of u.journal) (disks_of v.journal) (disks_of w.journal) next.goes.faults_a next.goes.faults_b first.counted next.counted;
    same = same_run u v w first.same next.same;
    goes = goes_further u.journal v.journal w.journal first.goes next.goes;
    called = λ t. called_then u.journal v.journal w.journal (first.called t) (next.called (tell_on u.journal v.journal first.goes t));
    shown = shown_further u.shown v.shown w.shown first.shown next.shown;
  }
