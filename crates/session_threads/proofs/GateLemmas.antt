-- What one ask makes of a pass and its reader.
use Rattle.std.proofs.Common.{◌≡◌, ◌⊎◌, ◌≤◌, ◌+◌, ◌++◌, ℕ, true, false, List, [], length, Option, Some, None, IfSome, arith}
use Rattle.std.proofs.Common.{inl, inr, refl, sym, ap, subst, ◌∙◌}
use mathlib.Core.List.{IsPrefix}
use Rattle.std.proofs.lemmas.List.{length-append}
use Rattle.active_snapshot.specs.States.{ReaderView}
use Rattle.active_snapshot.specs.Views.{IsLast}
use Rattle.atomic_table.specs.Seated.{TableId}
use Rattle.commands.specs.declared.command.Command.{Command}
use Rattle.commit_ledger.specs.Kept.{Kept, is_revert_due}
use Rattle.config_db.specs.declared.answer.Answered.TheVariants.{NoMemory as Wanting}
use Rattle.config_db.specs.View.{DatabaseView, opened}
use Rattle.session_history.specs.declared.history.Happened.{Happened}
use Rattle.session_history.specs.Events.{IsLegal}
use Rattle.session_shell.specs.declared.door.Given0.{Given0}
use Rattle.session_shell.specs.declared.door.Given0.TheVariants.{Kept as KeptAt, Seen, Denied, Unready, NoMemory}
use Rattle.session_shell.specs.Shows.{IsActiveShow, PrintsWhole}
use Rattle.turn_lock.specs.Passes.{TookTurn}
use Rattle.session_threads.specs.declared.noted.Noted.{Noted}
use Rattle.session_threads.specs.Access.{Asker, IsJudged}
use Rattle.session_threads.specs.Adding.{answered_of}
use Rattle.session_threads.specs.Asking.{asker_at}
use Rattle.session_threads.specs.Gates.{FollowsIn, GateView, GivesShow, GivesView, Held, IsOfTurn, IsRefusal, KnowsNoMore}
use Rattle.session_threads.specs.Gates.{Learns, LearnsOf, LooksAt, LooksIn, ReadsLast, ReadsOn, ReadsShow, TellsKept, TookIn, TurnedIn, TurnsIn}
use Rattle.session_threads.specs.Gates.{asker_in}
use Rattle.session_threads.specs.History.{FollowsTurn}
use Rattle.session_threads.specs.Naming.{IsPrefix-same, IsPrefix-then}
use Rattle.session_threads.specs.Noted.{GoesOnBy, caller_in, notes_of}
use Rattle.session_threads.specs.Passes.{CallerPass, CountsNotes, FollowsAlone, IsReady, KnowsOwn, WentOn, events_seen, notes_given}
use Rattle.session_threads.proofs.ListLemmas.{some_is}
use Rattle.session_threads.proofs.PassLemmas.{FollowsTurn-none, FollowsTurn-took, IsReady-then, WentOn-same}
use Rattle.session_threads.proofs.TraceLemmas.{ReadsOn-then}

-- what a read leaves of a reader
pub ReadsOn-read : (old new : ReaderView) → IsPrefix old.list new.list → new.told ≡ old.told → ReadsOn old new
ReadsOn-read old new later same = record {
  later = later;
  told = subst (λ l. IsPrefix old.told l) (sym same) (IsPrefix-same old.told);
}

-- what is given for the view that was read answers a show
gives_read : (asks : Option (List ℕ)) (command : Command) (answer : ℕ) (given : Given0) (reader : ReaderView)
    → (read : ReadsLast answer false reader) → GivesView asks command read.view.count read.view given
    → GivesShow asks command answer (Some given) reader
gives_read asks command answer (KeptAt place reply) reader read gives = absurd gives
gives_read asks command answer (Seen number reply) reader read gives = record { read = read; gives = gives }
gives_read asks command answer (Denied number right) reader read gives = record { read = read; gives = gives }
gives_read asks command answer (Unready number) reader read gives = absurd gives
gives_read asks command answer NoMemory reader read gives = tt

module _ (asks : Option (List ℕ)) (command : Command) (answer : ℕ) (old new : ReaderView) (later : IsPrefix old.list new.list)
    (same : new.told ≡ old.told) where
  -- a reader has no answer to a show where a deadline has come
  pub ReadsShow-due : (view : Kept) → IsPrefix new.told new.list → IsLast new.list view → is_revert_due view answer ≡ true
      → ReadsShow asks command answer None old new
  ReadsShow-due view reached is_last due = record {
    reads = ReadsOn-read old new later same;
    gives = record { view = view; reached = reached; is_last = is_last; due = due };
    prints = tt;
  }

  -- a reader answers a show from the last view that it has
  pub ReadsShow-at : (front : ℕ) (view shown : Kept) (given : Given0) → IsPrefix new.told new.list → IsLast new.list view
      → front ≡ view.count → is_revert_due view answer ≡ false → shown ≡ view → GivesView asks command front shown given
      → PrintsWhole command given → ReadsShow asks command answer (Some given) old new
  ReadsShow-at front view shown given reached is_last count due is gives prints = record {
    reads = ReadsOn-read old new later same;
    gives = gives_read asks command answer given new (record { view = view; reached = reached; is_last = is_last; due = due })
        (subst (λ n. GivesView asks command n view given) count (subst (λ k. GivesView asks command front k given) is gives));
    prints = prints;
  }

looks_at : (d : GateView) (command : Command) (answer : ℕ) (given : Option Given0) (reader : ReaderView) → KnowsOwn d.pass
    → ((first : DatabaseView) → d.pass.fixed ≡ Some first → IsLegal (opened first) (events_seen d.pass)) → IsActiveShow command
    → GivesShow d.asks command answer given reader → IfSome given (PrintsWhole command) → LooksAt d command answer given reader
looks_at d command answer None reader own legal is gives prints = λ _. gives
looks_at d command answer (Some given) reader own legal is gives prints =
    record { is_show = is; gives = gives; prints = prints; own = own; legal = legal }

-- a reader was asked for a show
pub LooksIn-read : (lock : TableId) (pass : CallerPass) (old new : ReaderView) (asks : Option (List ℕ)) (command : Command)
    (answer : ℕ) (given : Option Given0) → ((first : DatabaseView) × IsReady lock first pass) → IsActiveShow command
    → ReadsShow asks command answer given old new
    → LooksIn (record { pass = pass; reader = old; asks = asks }) command answer given
    (record { pass = pass; reader = new; asks = asks })
LooksIn-read lock pass old new asks command answer given ready is read = record {
  same = refl;
  same_asks = refl;
  reads = read.reads;
  looks = looks_at (record { pass = pass; reader = old; asks = asks }) command answer given new ready.1.own
      (λ first fixed. subst (λ (f : DatabaseView). IsLegal (opened f) (events_seen pass)) (some_is (sym ready.1.fixed ∙ fixed))
      ready.1.legal)
      is read.gives read.prints;
}

-- a pass that took no turn has no note more
counts_none : (old new : CallerPass) (given : Given0) → new ≡ old → notes_given old.caller given ≡ [] → CountsNotes given old new
counts_none old new given same none = omega (
  arith,
  ap (λ (p : CallerPass). length (notes_of p.own)) same,
  ap length none,
)

-- a show was answered without a turn
pub FollowsIn-looked : (d e : GateView) (command : Command) (answer : ℕ) (given : Given0) → LooksIn d command answer (Some given) e
    → FollowsIn d command answer given e
FollowsIn-looked d e command answer (KeptAt place reply) looked = absurd looked.looks.gives.gives
FollowsIn-looked d e command answer (Seen front reply) looked = record {
  goes = subst (WentOn d.pass) (sym looked.same) (WentOn-same d.pass looked.looks.own);
  same_asks = looked.same_asks;
  reads = looked.reads;
  comes = record { same = looked.same; is_show = looked.looks.is_show; answers = looked.looks.gives };
  noted = counts_none d.pass e.pass (Seen front reply) looked.same refl;
  prints = looked.looks.prints;
}
FollowsIn-looked d e command answer (Denied front right) looked = record {
  goes = subst (WentOn d.pass) (sym looked.same) (WentOn-same d.pass looked.looks.own);
  same_asks = looked.same_asks;
  reads = looked.reads;
  comes = inr (record { same = looked.same; is_show = looked.looks.is_show; answers = looked.looks.gives });
  noted = counts_none d.pass e.pass (Denied front right) looked.same refl;
  prints = looked.looks.prints;
}
FollowsIn-looked d e command answer (Unready front) looked = absurd looked.looks.gives.gives
FollowsIn-looked d e command answer NoMemory looked = record {
  goes = subst (WentOn d.pass) (sym looked.same) (WentOn-same d.pass looked.looks.own);
  same_asks = looked.same_asks;
  reads = looked.reads;
  comes = λ first fixed.
      subst (λ (p : CallerPass). FollowsTurn (opened first) d.pass.caller (events_seen d.pass) command answer Wanting (events_seen p))
      (sym looked.same)
      (FollowsTurn-none (opened first) d.pass.caller answer (events_seen d.pass) command (looked.looks.legal first fixed));
  noted = counts_none d.pass e.pass NoMemory looked.same refl;
  prints = looked.looks.prints;
}

-- a reader that knows no more knew no more before
knew_no_more : (list : List Kept) (old new : ReaderView) → ReadsOn old new → KnowsNoMore list new → KnowsNoMore list old
knew_no_more list old new on no_more =
    (IsPrefix-then old.list new.list list on.later no_more.0, IsPrefix-then old.told new.told list on.told no_more.1)

learns_from : (given : Given0) (list : List Kept) (old mid new : ReaderView) → ReadsOn old mid → LearnsOf given list mid new
    → LearnsOf given list old new
learns_from (KeptAt place reply) list old mid new on told = told
learns_from (Seen front reply) list old mid new on told = tt
learns_from (Denied front right) list old mid new on told = (told.0, knew_no_more list old mid on told.1)
learns_from (Unready front) list old mid new on told = (told.0, knew_no_more list old mid on told.1)
learns_from NoMemory list old mid new on told = tt

module _ (d mid e : GateView) (command : Command) (answer : ℕ) (looked : LooksIn d command answer None mid) where
  -- a turn is one of the caller before the look
  turns_from : (given : Given0) → TookIn mid command answer given e → (first : DatabaseView) → d.pass.fixed ≡ Some first
      → TurnsIn first d command answer given e
  turns_from given took first fixed =
      let turns = took.turns first (ap (λ (p : CallerPass). p.fixed) looked.same ∙ fixed) in
      let asker : asker_in first mid ≡ asker_in first d =
      ap (λ (p : CallerPass). asker_at first p.caller mid.asks) looked.same ∙ ap (asker_at first d.pass.caller) looked.same_asks in
      record {
        turn = subst
            (λ (p : CallerPass). FollowsTurn (opened first) p.caller (events_seen p) command answer (answered_of given)
            (events_seen e.pass)) looked.same turns.turn;
        list = turns.list;
        tells = turns.tells;
        told = learns_from given turns.list d.reader mid.reader e.reader looked.reads turns.told;
        judged = subst (λ (a : Asker). IsJudged a (events_seen e.pass) command given) asker turns.judged;
      }

  goes_from : (given : Given0) → TookIn mid command answer given e → WentOn d.pass e.pass
  goes_from given took = subst (λ p. WentOn p e.pass) looked.same took.goes

  reads_from : (given : Given0) → TookIn mid command answer given e → ReadsOn d.reader e.reader
  reads_from given took = ReadsOn-then d.reader mid.reader e.reader looked.reads took.reads

  counts_from : (given : Given0) → TookIn mid command answer given e → CountsNotes given d.pass e.pass
  counts_from given took = subst (λ p. CountsNotes given p e.pass) looked.same took.noted

  turned_from : (given : Given0) → TookIn mid command answer given e → TurnedIn d command answer given e
  turned_from given took = record {
    turns = turns_from given took;
    missed = λ is. record { mid = mid.reader; before = looked.reads; missed = looked.looks is; behind = took.reads };
  }

  -- a command took its turn
  pub FollowsIn-took : (given : Given0) → TookIn mid command answer given e → FollowsIn d command answer given e
  FollowsIn-took (KeptAt place reply) took = record {
    goes = goes_from (KeptAt place reply) took;
    same_asks = took.same_asks ∙ looked.same_asks;
    reads = reads_from (KeptAt place reply) took;
    comes = turned_from (KeptAt place reply) took;
    noted = counts_from (KeptAt place reply) took;
    prints = took.prints;
  }
  FollowsIn-took (Seen front reply) took = absurd took.of_turn
  FollowsIn-took (Denied front right) took = record {
    goes = goes_from (Denied front right) took;
    same_asks = took.same_asks ∙ looked.same_asks;
    reads = reads_from (Denied front right) took;
    comes = inl (turned_from (Denied front right) took);
    noted = counts_from (Denied front right) took;
    prints = took.prints;
  }
  FollowsIn-took (Unready front) took = record {
    goes = goes_from (Unready front) took;
    same_asks = took.same_asks ∙ looked.same_asks;
    reads = reads_from (Unready front) took;
    comes = turned_from (Unready front) took;
    noted = counts_from (Unready front) took;
    prints = took.prints;
  }
  FollowsIn-took NoMemory took = record {
    goes = goes_from NoMemory took;
    same_asks = took.same_asks ∙ looked.same_asks;
    reads = reads_from NoMemory took;
    comes = λ first fixed. (turns_from NoMemory took first fixed).turn;
    noted = counts_from NoMemory took;
    prints = took.prints;
  }

refusal_unanswered : (given : Given0) → IsRefusal given → answered_of given ≡ Wanting
refusal_unanswered (KeptAt place reply) refusal = absurd refusal
refusal_unanswered (Seen front reply) refusal = absurd refusal
refusal_unanswered (Denied front right) refusal = refl
refusal_unanswered (Unready front) refusal = refl
refusal_unanswered NoMemory refusal = absurd refusal

-- what holds of what a turn gave, and of want of memory, holds of what is told of it
told_of : (P : Given0 → Type 0) (given told : Given0) → (told ≡ given) ⊎ (IsRefusal given × (told ≡ NoMemory)) → P given → P NoMemory
    → P told
told_of P given told (inl same) here none = subst P (sym same) here
told_of P given told (inr refused) here none = subst P (sym refused.1) none

answered_told : (given told : Given0) → (told ≡ given) ⊎ (IsRefusal given × (told ≡ NoMemory)) → answered_of told ≡ answered_of given
answered_told given told (inl same) = ap answered_of same
answered_told given told (inr refused) = ap answered_of refused.1 ∙ sym (refusal_unanswered given refused.0)

of_turn : (asker : Asker) (events : List Happened) (command : Command) (given : Given0) → IsJudged asker events command given
    → IsOfTurn given
of_turn asker events command (KeptAt place reply) judged = tt
of_turn asker events command (Seen front reply) judged = absurd judged
of_turn asker events command (Denied front right) judged = tt
of_turn asker events command (Unready front) judged = tt
of_turn asker events command NoMemory judged = tt

-- what is said of the turn of a command, what it gave, and the lists that it reported
abbrev AskSays : ℕ → Option (List ℕ) → Command → ℕ → Given0 → List Kept → Type 0 → DatabaseView → List Noted → List Noted → Type 0
AskSays caller asks command answer given list Shows first before after =
    GoesOnBy (λ were are. FollowsAlone first caller were command answer (answered_of given) are
    × (IsJudged (asker_at first caller asks) are command given
    × (TellsKept (opened first) are list × (Shows × PrintsWhole command given)))) (notes_given caller given) before after

module _ (old new : CallerPass) (asks : Option (List ℕ)) (command : Command) (answer : ℕ) (given : Given0) (list : List Kept)
    (Shows : Type 0) (own : KnowsOwn old)
    (took : TookTurn caller_in (AskSays old.caller asks command answer given list Shows) old new) where
  abbrev More : DatabaseView → List Happened → Type 0
  More first events = IsJudged (asker_at first old.caller asks) events command given
      × (TellsKept (opened first) events list × (Shows × PrintsWhole command given))

  turned : WentOn old new × (notes_of new.own ≡ notes_of old.own ++ notes_given old.caller given)
      × ((first : DatabaseView) → old.fixed ≡ Some first
      → FollowsTurn (opened first) old.caller (events_seen old) command answer (answered_of given) (events_seen new)
      × More first (events_seen new))
  turned = FollowsTurn-took old new command answer (answered_of given) (notes_given old.caller given) More own took

  -- the pass went on, and the events that it has seen are a legal history
  pub IsReady-turn : (lock : TableId) (first : DatabaseView) → IsReady lock first old → IsReady lock first new
  IsReady-turn lock first ready =
      let tells = (turned.2 first ready.fixed).1.1.0 in IsReady-then lock first old new ready turned.0 (tells.after, tells.leads)

  -- what was said of the view that was handed out
  pub shows_turn : (first : DatabaseView) → old.fixed ≡ Some first → Shows
  shows_turn first fixed = (turned.2 first fixed).1.1.1.0

  -- what is told of the turn, and what its reader learns
  pub TookIn-turn : (reader reader' : ReaderView) (told : Given0) (first : DatabaseView) → old.fixed ≡ Some first
      → Held given list reader told → Learns told list reader reader'
      → TookIn (record { pass = old; reader = reader; asks = asks }) command answer told
      (record { pass = new; reader = reader'; asks = asks })
  TookIn-turn reader reader' told first fixed held learns =
      let here = (turned.2 first fixed).1 in
      let counts : length (notes_of old.own) + length (notes_given old.caller given) ≤ length (notes_of new.own) =
      omega (arith, ap length turned.1, length-append (notes_of old.own) (notes_given old.caller given)) in
      let counts_none : length (notes_of old.own) + 0 ≤ length (notes_of new.own) =
      omega (arith, counts) in
      record {
        goes = turned.0;
        same_asks = refl;
        reads = learns.reads;
        of_turn = told_of IsOfTurn given told held.is
            (of_turn (asker_at first old.caller asks) (events_seen new) command given here.0) tt;
        turns = λ s is.
            let there = turned.2 s is in
            record {
              turn = subst
                  (λ a. FollowsTurn (opened s) old.caller (events_seen old) command answer a (events_seen new))
                  (sym (answered_told given told held.is)) there.0;
              list = list;
              tells = there.1.1.0;
              told = learns.told;
              judged = told_of (IsJudged (asker_at s old.caller asks) (events_seen new) command) given told held.is there.1.0 tt;
            };
        noted = told_of (λ g. CountsNotes g old new) given told held.is counts counts_none;
        prints = told_of (PrintsWhole command) given told held.is here.1.1.1 (λ _. tt);
      }
