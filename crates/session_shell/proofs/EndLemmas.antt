-- The end of a session.
use Rattle.std.proofs.Common.{◌≡◌, ℕ, ◌≤◌, List, [], ◌∷◌, ◌++◌, length, true, false, refl, sym, ap, subst, ◌∙◌, Option, None, Some, Result, Ok, Err, OnErr, inl, inr, arith}
use Rattle.std.specs.List.{flat_map}
use Rattle.std.proofs.lemmas.List.{append-nil}
use Rattle.std.proofs.lemmas.Bool.{false≢true}
use Rattle.std.proofs.lemmas.Option.{none-some}
use Rattle.commands.specs.declared.command.Command.TheVariants.{Logout}
use Rattle.cfg_base.specs.Counts.{Rose}
use Rattle.io_edge.specs.Ends.{held_after, onto}
use Rattle.io_edge.specs.Feed.{LinesView}
use Rattle.io_edge.specs.Line.{TellsBoth}
use Rattle.io_edge.specs.Wrote.{Wrote as WroteAs}
use Rattle.io_edge.specs.declared.lines.Line.{Line}
use Rattle.io_edge.proofs.EndLemmas.{behind-behind}
use Rattle.io_edge.proofs.RoseLemmas.{rose_later, rose_since}
use Rattle.session_shell.specs.declared.turn.How.{How}
use Rattle.session_shell.specs.declared.turn.How.TheVariants.{Clean, SourceFault, SinkFault, InputFull, NoMemory}
use Rattle.session_shell.specs.declared.reading.Item.TheVariants.{Ask}
use Rattle.session_shell.specs.declared.reading.Reading.{Reading}
use Rattle.session_shell.specs.declared.reading.Reading.TheVariants.{Operational, Configuring, Collecting, Spoilt, Out}
use Rattle.session_shell.specs.Exchange.{Exchange, item_asked, text_written}
use Rattle.session_shell.specs.Transcript.{Following, IsInput, IsTranscript, LogsOut, SessionView, Syncing, Texts, WroteTexts, side}
use Rattle.session_shell.specs.Steps.{Ends, Finishes, is_out, LastText, ServesItem, standing}
use Rattle.session_shell.proofs.TurnLemmas.{Turns-then, Turns-none}
use Rattle.session_shell.proofs.TakeLemmas.{out_is, behind-none}

pub logs_out : (reading : Reading) (logout : Exchange) → is_out reading ≡ false → item_asked logout ≡ Ask Logout → LogsOut reading (logout ∷ [])
logs_out Out logout going is = absurd (false≢true (sym going))
logs_out Operational logout going is = (logout, refl, is)
logs_out Configuring logout going is = (logout, refl, is)
logs_out (Collecting way json text) logout going is = (logout, refl, is)
logs_out (Spoilt fault) logout going is = (logout, refl, is)

wrote_one : {T E : Type 0} (put : Result T E) (text : List ℕ) (old new : SessionView) → WroteAs put text old.held new.held → OnErr put (Rose old.faults new.faults) → WroteTexts [] (text ++ []) old new
wrote_one (Ok done) text old new wrote cause = record { part = text ++ []; rest = []; is_second = sym (append-nil (text ++ [])); held = wrote ∙ ap (held_after old.held) (sym (append-nil text)); whole = inl refl }
wrote_one (Err failed) text old new wrote cause = record { part = wrote.part; rest = wrote.rest; is_second = append-nil text ∙ wrote.whole; held = wrote.behind_old; whole = inr cause }

text_heard : (how : How) (final : List Exchange) (old new : SessionView) → (how ≡ SinkFault → ⊥) → WroteTexts [] (flat_map text_written final) old new → LastText how final old new
text_heard Clean final old new heard wrote = wrote
text_heard SourceFault final old new heard wrote = wrote
text_heard SinkFault final old new heard wrote = absurd (heard refl)
text_heard InputFull final old new heard wrote = wrote
text_heard NoMemory final old new heard wrote = wrote

-- the last logout was asked, and its answer written or not
pub Finishes-heard : {D T E : Type 0} (follows : Following D) (syncs : Syncing D) (how : How) (put : Result T E) (d e : D) (reading reading' : Reading) (old new : SessionView) → (how ≡ SinkFault → ⊥) → is_out reading ≡ false →
    ServesItem follows syncs (Ask Logout) put (standing d reading old) (standing e reading' new) → OnErr put (Rose old.faults new.faults) → old.faults ≤ new.faults → Finishes follows syncs how d e reading old new
Finishes-heard follows syncs how put d e reading reading' old new heard going serves cause later = record {
  final = serves.exchange ∷ [];
  logs_out = logs_out reading serves.exchange going serves.is_item;
  turns = serves.turns;
  text = text_heard how (serves.exchange ∷ []) old new heard (wrote_one put (text_written serves.exchange) old new serves.wrote cause);
  later = later;
}

-- a session that is logged out already
pub Finishes-none : {D : Type 0} (follows : Following D) (syncs : Syncing D) (how : How) (d : D) (reading : Reading) (view : SessionView) → is_out reading ≡ true → Finishes follows syncs how d d reading view view
Finishes-none follows syncs how d reading view out = record {
  final = [];
  logs_out = subst (λ r. LogsOut r []) (sym (out_is reading out)) refl;
  turns = Turns-none follows syncs d view;
  text = by how;
  later = omega arith;
}
  where
    none : WroteTexts [] [] view view
    none = record { part = []; rest = []; is_second = refl; held = behind-none view.held; whole = inl refl }

    by : (how : How) → LastText how [] view view
    by Clean = none
    by SourceFault = none
    by SinkFault = refl
    by InputFull = none
    by NoMemory = none

-- texts written whole, and then the last one
both : (first second : List ℕ) (old mid new : SessionView) → WroteTexts first [] old mid → WroteTexts [] second mid new → old.faults ≤ mid.faults → mid.faults ≤ new.faults → WroteTexts first second old new
both first second old mid new front back later later' = record {
  part = back.part;
  rest = back.rest;
  is_second = back.is_second;
  held = back.held ∙ ap (λ h. held_after h back.part) (front.held ∙ ap (λ p. held_after old.held (first ++ p)) (nothing front.part front.rest front.is_second) ∙ ap (held_after old.held) (append-nil first)) ∙ behind-behind old.held first back.part;
  whole = elim back.whole [ inl all ↦ inl all | inr rose ↦ inr (rose_since old.faults mid.faults new.faults later later' rose) ];
}
  where
    nothing : (part rest : List ℕ) → [] ≡ part ++ rest → part ≡ []
    nothing [] rest is = refl
    nothing (b ∷ part) rest is = absurd (omega (arith, ap length is))

texts_of : (how : How) (asked final : List Exchange) (old mid new : SessionView) → Texts how asked [] old mid → LastText how final mid new → old.faults ≤ mid.faults → mid.faults ≤ new.faults → Texts how asked final old new
texts_of Clean asked final old mid new front back later later' = both (flat_map text_written asked) (flat_map text_written final) old mid new front back later later'
texts_of SourceFault asked final old mid new front back later later' = both (flat_map text_written asked) (flat_map text_written final) old mid new front back later later'
texts_of InputFull asked final old mid new front back later later' = both (flat_map text_written asked) (flat_map text_written final) old mid new front back later later'
texts_of NoMemory asked final old mid new front back later later' = both (flat_map text_written asked) (flat_map text_written final) old mid new front back later later'
texts_of SinkFault asked final old mid new front back later later' = (front.0, front.1, front.2, still front.3)
  where
    still : {first second : List ℕ} → WroteTexts first second old mid → WroteTexts first second old new
    still w = record { part = w.part; rest = w.rest; is_second = w.is_second; held = back ∙ w.held; whole = elim w.whole [ inl all ↦ inl all | inr rose ↦ inr (rose_later old.faults mid.faults new.faults rose later') ] }

some_is : {A : Type 0} {a b : A} → Some a ≡ Some b → a ≡ b
some_is {A} {a} {b} is = ap (λ o. elim o [ None ↦ a | Some x ↦ x ]) is

-- what was read ahead is gone with the reader
input_of : (lines : List Line) (reading : Reading) (how : How) (limit count : ℕ) (ahead : List ℕ) (source left source' : Option (List ℕ)) → length ahead ≡ count → left ≡ onto ahead source' →
    TellsBoth (λ before left. (ahead now : List ℕ) → left ≡ ahead ++ now → length ahead ≡ count → IsInput lines reading how limit before now) source left → TellsBoth (IsInput lines reading how limit) source source'
input_of lines reading how limit count ahead None None None so_many is input = tt
input_of lines reading how limit count ahead (Some before) (Some left) (Some now) so_many is input = input ahead now (some_is is) so_many
input_of lines reading how limit count ahead None (Some left) source' so_many is input = absurd input
input_of lines reading how limit count ahead (Some before) None source' so_many is input = absurd input
input_of lines reading how limit count ahead None None (Some now) so_many is input = absurd (none-some _ is)
input_of lines reading how limit count ahead (Some before) (Some left) None so_many is input = absurd (none-some _ (sym is))

-- a session, from all but its last logout and that
pub IsSession-of : {D : Type 0} (follows : Following D) (syncs : Syncing D) (limit : ℕ) (how : How) (source source' : Option (List ℕ)) (feed : LinesView) (ahead : List ℕ) (d m e : D) (reading : Reading) (old mid new : SessionView) →
    Ends follows syncs limit how source d old feed (standing m reading mid) → Finishes follows syncs how m e reading mid new → length ahead ≡ feed.ahead → feed.left ≡ onto ahead source' → old.faults ≤ mid.faults → IsTranscript follows syncs limit how (side source d old) (side source' e new)
IsSession-of follows syncs limit how source source' feed ahead d m e reading old mid new ends finishes so_many is later = record {
  lines = ends.lines;
  asked = ends.asked;
  final = finishes.final;
  reading = reading;
  reads = ends.reads;
  input = input_of ends.lines reading how limit feed.ahead ahead source feed.left source' so_many is ends.input;
  logs_out = finishes.logs_out;
  turns = Turns-then follows syncs ends.asked finishes.final d m e old mid new ends.turns finishes.turns;
  texts = texts_of how ends.asked finishes.final old mid new ends.texts finishes.text later finishes.later;
}

view_same : (a b : SessionView) → a.coming ≡ b.coming → a.held ≡ b.held → a.faults ≡ b.faults → a.turns ≡ b.turns → a ≡ b
view_same a b coming held faults turns =
    ap (λ x. record { coming = x; held = a.held; faults = a.faults; turns = a.turns }) coming ∙ ap (λ x. record { coming = b.coming; held = x; faults = a.faults; turns = a.turns }) held
    ∙ ap (λ x. record { coming = b.coming; held = b.held; faults = x; turns = a.turns }) faults ∙ ap (λ x. record { coming = b.coming; held = b.held; faults = b.faults; turns = x }) turns

-- the same session, of views that are the same
pub IsSession-same : {D : Type 0} (follows : Following D) (syncs : Syncing D) (limit limit' : ℕ) (how : How) (source given source' : Option (List ℕ)) (d e : D) (old old' new new' : SessionView) → limit ≡ limit' → source ≡ given →
    old.coming ≡ old'.coming → old.held ≡ old'.held → old.faults ≡ old'.faults → old.turns ≡ old'.turns → new.coming ≡ new'.coming → new.held ≡ new'.held → new.faults ≡ new'.faults → new.turns ≡ new'.turns →
    IsTranscript follows syncs limit how (side source d old) (side source' e new) → IsTranscript follows syncs limit' how (side given d old') (side source' e new')
IsSession-same follows syncs limit limit' how source given source' d e old old' new new' is is' a b c f a' b' c' f' session =
    subst (λ l. IsTranscript follows syncs l how (side given d old') (side source' e new')) is (subst (λ s. IsTranscript follows syncs limit how (side s d old') (side source' e new')) is'
    (subst (λ v. IsTranscript follows syncs limit how (side source d v) (side source' e new')) (view_same old old' a b c f) (subst (λ v. IsTranscript follows syncs limit how (side source d old) (side source' e v)) (view_same new new' a' b' c' f') session)))
