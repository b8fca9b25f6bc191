-- A backup behind a message.
use Rattle.std.proofs.Common.{◌≡◌, ◌≤◌, ◌==◌, nat_lt, inl, inr, ⊎_elim, ℕ, Bool, true, false, Option, None, Some, Result, Ok, Err, IfSome, refl, sym, ◌∙◌, ap, subst, arith}
use Rattle.disk_model.specs.Pair.{FaultOnEither}
use Rattle.disk_model.specs.declared.disk.DiskDone.{DiskDone}
use Rattle.disk_model.specs.declared.disk.DiskDone.TheVariants.{Done, Failed}
use Rattle.commit_journal.specs.Journal.{disks_of}
use Rattle.commit_journal.proofs.HeldLemmas.{goes_nowhere, rose_last, goes_further as files_further}
use Rattle.commit_ledger.specs.declared.entry.Entry.{Entry}
use Rattle.commit_ledger.specs.Kept.{Kept, append_entry}
use Rattle.stored_ledger.specs.declared.change.Change.{Change}
use Rattle.sync_link.specs.declared.message.Ack.{Ack}
use Rattle.sync_link.specs.declared.message.Message.{Message}
use Rattle.sync_link.specs.declared.message.Message.TheVariants.{Offer, Whole}
use Rattle.sync_link.specs.declared.fault.TakeFault.{TakeFault}
use Rattle.sync_link.specs.declared.fault.TakeFault.TheVariants.{DiskFault, NoMemory}
use Rattle.sync_link.specs.Lines.{IsLine, IsNow, Line, MayHave}
use Rattle.sync_link.specs.Takes.{Answers, Fits, FitsIn, Goes, IsOf, IsOneOf, IsWanting, Makes, Reaches, Takes, TellsOf, taken}
use Rattle.sync_link.specs.Views.{BackupView, IsBacked, Making, Moved, Moves, SettlesIn}
use Rattle.sync_link.proofs.ValueLemmas.{fits_line, offer_next, offer_other, taken_may, taken_reaches, whole_longer, whole_other}
use Rattle.sync_link.proofs.BackedLemmas.{more_entries, moved}

pub goes_same : (v : BackupView) → Goes v v
goes_same v = record { files = goes_nowhere v.files; events_are = refl; no_fewer = omega arith }

pub goes_further : (u v w : BackupView) → Goes u v → Goes v w → Goes u w
goes_further u v w one two = record {
  files = files_further u.files v.files w.files one.files two.files;
  events_are = two.events_are ∙ one.events_are;
  no_fewer = omega (arith, one.no_fewer, two.no_fewer);
}

goes_moved : (change : Change) (answer : Option Bool) (other : Kept) (v v' : BackupView) → Moves change answer other v v' → Goes v v'
goes_moved change answer other v v' m = record {
  files = m.makes.goes;
  events_are = m.events_are;
  no_fewer = subst (λ (k : Kept). v.kept.count ≤ k.count) (sym m.kept_is) (more_entries answer v.kept other m.no_fewer);
}

-- room for marks is nothing that counts
goes_roomy : (v w : BackupView) (room : ℕ) → w ≡ record v { room = room } → Goes v w
goes_roomy v w room is = subst (λ x. Goes v x) (sym is) (record { files = goes_nowhere v.files; events_are = refl; no_fewer = omega arith })

backed_roomy : (line : Line) (v w : BackupView) (room : ℕ) → w ≡ record v { room = room } → IsBacked line v → IsBacked line w
backed_roomy line v w room is b =
    subst (λ x. IsBacked line x) (sym is) (record { value = b.value; flight = b.flight; counted = b.counted; rises = b.rises; said = b.said; safe = b.safe })

one_of_roomy : (v w : BackupView) (room : ℕ) (kept : Kept) → w ≡ record v { room = room } → IsOneOf w kept → IsOneOf v kept
one_of_roomy v w room kept is one = subst (λ (x : BackupView). IsOneOf x kept) is one

-- behind a settling
settled_goes : (fl : Option Making) (d : DiskDone) (v w : BackupView) → SettlesIn fl d v w → Goes v w
settled_goes None d v w s = subst (λ x. Goes v x) (sym s.0) (goes_same v)
settled_goes (Some making) d v w s = goes_moved making.change s.0 making.list v w s.2

settled_one : (fl : Option Making) (v w : BackupView) → v.flight ≡ fl → SettlesIn fl Done v w → IsOneOf v w.kept × (w.flight ≡ None)
settled_one None v w is s = (inl (ap (λ (x : BackupView). x.kept) s.0), ap (λ (x : BackupView). x.flight) s.0 ∙ is)
settled_one (Some making) v w is (None, d, m) = absurd (let no : Done ≡ Failed = d in cc)
settled_one (Some making) v w is (Some true, d, m) =
    (inr (making.change, is ∙ ap (λ (k : Kept). Some (record { change = making.change; list = k })) (sym m.kept_is)), m.flight_is)
settled_one (Some making) v w is (Some false, d, m) = (inl m.kept_is, m.flight_is)

settled_rose : (fl : Option Making) (v w : BackupView) → SettlesIn fl Failed v w → FaultOnEither (disks_of v.files) (disks_of w.files)
settled_rose None v w s = absurd (let no : Failed ≡ Done = s.1 in cc)
settled_rose (Some making) v w (None, d, m) = m.makes.cause refl
settled_rose (Some making) v w (Some is_made, d, m) = absurd (let no : Failed ≡ Done = d in cc)

settled_backed : (line : Line) (fl : Option Making) (d : DiskDone) (v w : BackupView) → v.flight ≡ fl → SettlesIn fl d v w → IsNow line v.events → IsBacked line v → IsBacked line w
settled_backed line None d v w is s now b = subst (λ x. IsBacked line x) (sym s.0) b
settled_backed line (Some making) d v w is s now b =
    moved line making.change s.0 making.list v w now (subst (λ f. IfSome f (λ (k : Making). MayHave line line.entries k.list)) is b.flight) b s.2

-- a message with nothing in flight
answered_goes : (message : Message) (told : Result Ack TakeFault) (v w : BackupView) → Answers message told v w → Goes v w
answered_goes message (Ok ack) v w a = ⊎_elim (λ s. subst (λ x. Goes v x) (sym s.0) (goes_same v)) (λ m. goes_moved m.change (Some true) (taken v.kept message) v w m.moves) a.2
answered_goes message (Err DiskFault) v w a = goes_moved a.change None (taken v.kept message) v w a.moves
answered_goes message (Err NoMemory) v w a = subst (λ x. Goes v x) (sym a) (goes_same v)

answered_backed : (line : Line) (message : Message) (told : Result Ack TakeFault) (v w : BackupView) → Answers message told v w → IsNow line v.events → IsOf line message
    → IsBacked line v → IsBacked line w
answered_backed line message (Ok ack) v w a now of b =
    ⊎_elim (λ s. subst (λ x. IsBacked line x) (sym s.0) b)
    (λ m. moved line m.change (Some true) (taken v.kept message) v w now (taken_may line v.kept message of b.value) b m.moves) a.2
answered_backed line message (Err DiskFault) v w a now of b = moved line a.change None (taken v.kept message) v w now (taken_may line v.kept message of b.value) b a.moves
answered_backed line message (Err NoMemory) v w a now of b = subst (λ x. IsBacked line x) (sym a) b

made_is : (other : Kept) (v w : BackupView) → Makes other v w → w.kept ≡ other
made_is other v w (inl s) = ap (λ (x : BackupView). x.kept) s.0 ∙ sym s.1
made_is other v w (inr m) = m.moves.kept_is

answered_tells : (message : Message) (told : Result Ack TakeFault) (u v w : BackupView) → Goes u v → IsOneOf u v.kept → v.flight ≡ None → Answers message told v w → TellsOf message told u w
answered_tells message (Ok ack) u v w goes one idle a =
    let is = made_is (taken v.kept message) v w a.2 in
    record {
      found = v.kept;
      one_of = one;
      is = is;
      idle = a.1;
      told = a.0;
      no_fewer = goes.no_fewer;
      reaches = subst (λ (n : ℕ). Reaches message u.kept.count n) (sym (a.0 ∙ ap (λ (k : Kept). k.count) is)) (taken_reaches v.kept message u.kept.count goes.no_fewer);
    }
answered_tells message (Err DiskFault) u v w goes one idle a = rose_last u.files v.files w.files goes.files a.moves.makes.goes (a.moves.makes.cause refl)
answered_tells message (Err NoMemory) u v w goes one idle a =
    subst (λ x. IsWanting u x) (sym a) (record { one_of = one; settled = inr idle })

-- a message, from the room for its marks on
module _ (message : Message) (u v : BackupView) (room : ℕ) (is : v ≡ record u { room = room }) where
  events_v : v.events ≡ u.events
  events_v = ap (λ (x : BackupView). x.events) is

  pub takes_unsettled : (w : BackupView) → SettlesIn v.flight Failed v w → Takes message (Err DiskFault) u w
  takes_unsettled w s = record {
    goes = goes_further u v w (goes_roomy u v room is) (settled_goes v.flight Failed v w s);
    tells = rose_last u.files v.files w.files (goes_roomy u v room is).files (settled_goes v.flight Failed v w s).files (settled_rose v.flight v w s);
    backed = λ line now of b. settled_backed line v.flight Failed v w refl s (subst (λ (n : ℕ). IsNow line n) (sym events_v) now) (backed_roomy line u v room is b);
  }

  pub found_one : (w : BackupView) → SettlesIn v.flight Done v w → IsOneOf u w.kept × (w.flight ≡ None)
  found_one w s = let o = settled_one v.flight v w refl s in (one_of_roomy u v room w.kept is o.0, o.1)

  pub takes_settled : (told : Result Ack TakeFault) (w x : BackupView) → SettlesIn v.flight Done v w → Answers message told w x → Takes message told u x
  takes_settled told w x s a = record {
    goes = goes_further u w x to_w (answered_goes message told w x a);
    tells = answered_tells message told u w x to_w (found_one w s).0 (found_one w s).1 a;
    backed = λ line now of b. answered_backed line message told w x a (subst (λ (n : ℕ). IsNow line n) (sym to_w.events_are) now) of
        (settled_backed line v.flight Done v w refl s (subst (λ (n : ℕ). IsNow line n) (sym events_v) now) (backed_roomy line u v room is b));
  }
    where
      to_w : Goes u w
      to_w = goes_further u v w (goes_roomy u v room is) (settled_goes v.flight Done v w s)

-- a message for which there was no memory
pub takes_none : (message : Message) (u : BackupView) → Takes message (Err NoMemory) u u
takes_none message u = record { goes = goes_same u; tells = record { one_of = inl refl; settled = inl refl }; backed = λ line now of b. b }

-- a message of the master's list can be taken by what is a front of it
pub fits_in : (line : Line) (v : BackupView) (message : Message) → IsLine line → IsOf line message → IsBacked line v → FitsIn v message
fits_in line v message is of b kept (inl same) = subst (λ k. Fits k message) (sym same) (fits_line line v.kept message is of b.value)
fits_in line v message is of b kept (inr flying) =
    fits_line line kept message is of (subst (λ f. IfSome f (λ (k : Making). MayHave line line.entries k.list)) flying.1 b.flight)

pub by_change : (change : Change) (answer : Option Bool) (other : Kept) (v w : BackupView) → Moves change answer other v w → Moved answer other v w
by_change change answer other v w m = record { change = change; moves = m }

-- the answers of one place
pub offer_passed : (place : ℕ) (entry : Entry) (ack : Ack) (v : BackupView) → (place == v.kept.count) ≡ false → ack.count ≡ v.kept.count → v.flight ≡ None → Answers (Offer place entry) (Ok ack) v v
offer_passed place entry ack v is told idle = (told, idle, inl (refl, offer_other v.kept place entry is))

pub offer_made : (place : ℕ) (entry : Entry) (ack : Ack) (v w : BackupView) → (place == v.kept.count) ≡ true → ack.count ≡ w.kept.count → Moved (Some true) (append_entry v.kept entry) v w
    → Answers (Offer place entry) (Ok ack) v w
offer_made place entry ack v w is told m = (told, m.moves.flight_is, inr (subst (λ k. Moved (Some true) k v w) (sym (offer_next v.kept place entry is)) m))

pub offer_failed : (place : ℕ) (entry : Entry) (v w : BackupView) → (place == v.kept.count) ≡ true → Moved None (append_entry v.kept entry) v w → Answers (Offer place entry) (Err DiskFault) v w
offer_failed place entry v w is m = subst (λ k. Moved None k v w) (sym (offer_next v.kept place entry is)) m

pub whole_passed : (whole : Kept) (ack : Ack) (v : BackupView) → nat_lt v.kept.count whole.count ≡ false → ack.count ≡ v.kept.count → v.flight ≡ None → Answers (Whole whole) (Ok ack) v v
whole_passed whole ack v is told idle = (told, idle, inl (refl, whole_other v.kept whole is))

pub whole_made : (whole : Kept) (ack : Ack) (v w : BackupView) → nat_lt v.kept.count whole.count ≡ true → ack.count ≡ w.kept.count → Moved (Some true) whole v w → Answers (Whole whole) (Ok ack) v w
whole_made whole ack v w is told m = (told, m.moves.flight_is, inr (subst (λ k. Moved (Some true) k v w) (sym (whole_longer v.kept whole is)) m))

pub whole_failed : (whole : Kept) (v w : BackupView) → nat_lt v.kept.count whole.count ≡ true → Moved None whole v w → Answers (Whole whole) (Err DiskFault) v w
whole_failed whole v w is m = subst (λ k. Moved None k v w) (sym (whole_longer v.kept whole is)) m
