-- The steps of a session.
use Rattle.std.proofs.Common.{◌≡◌, ℕ, ◌+◌, ◌≤◌, ◌<◌, ◌↔◌, List, [], ◌∷◌, ◌++◌, length, true, false, refl, sym, ap, subst, ◌∙◌, append_assoc, Option, None, Some, inl, inr, ◌⊎◌, arith}
use Rattle.std.specs.List.{flat_map}
use Rattle.std.proofs.lemmas.List.{append-nil, length-append}
use Rattle.std.proofs.lemmas.Bool.{false≢true}
use Rattle.cfg_base.specs.Counts.{Rose}
use Rattle.io_edge.specs.Ends.{held_after}
use Rattle.io_edge.specs.Feed.{LinesView}
use Rattle.io_edge.specs.Line.{HasNoLf, TellsBoth, Gives, IsEndedLine, IsLastLine, IsFull, IsCutOff}
use Rattle.io_edge.specs.Wrote.{WrotePart}
use Rattle.io_edge.specs.declared.lines.Line.{Line}
use Rattle.io_edge.specs.declared.lines.Line.TheVariants.{Text, TooLong, End, Failed, InputFull as Full}
use Rattle.io_edge.proofs.EndLemmas.{behind-behind}
use Rattle.io_edge.proofs.RoseLemmas.{rose_since}
use Rattle.session_shell.specs.declared.turn.How.{How}
use Rattle.session_shell.specs.declared.turn.How.TheVariants.{Clean, SourceFault, SinkFault, InputFull, NoMemory}
use Rattle.session_shell.specs.declared.reading.Reading.{Reading}
use Rattle.session_shell.specs.declared.reading.Reading.TheVariants.{Operational, Out}
use Rattle.session_shell.specs.Exchange.{Exchange, text_written}
use Rattle.session_shell.specs.Items.{ReadsLine}
use Rattle.session_shell.specs.Cut.{lines_read, AreFirstLines}
use Rattle.session_shell.specs.Transcript.{EndsBy, Following, IsInput, SessionView, Syncing, Texts, WroteTexts}
use Rattle.session_shell.specs.Steps.{Ends, is_end, is_out, ServesLine, SoFar, standing, StepsOn, TakesLine}
use Rattle.session_shell.proofs.TurnLemmas.{Turns-then, Turns-none, ReadsAs-append, flat_map_over_append}
use Rattle.session_shell.proofs.CutLemmas.{SoMany, TellsBoth-then, push, at_end, is_full}
use Rattle.session_shell.proofs.TakeLemmas.{behind-none, not_failed, not_full, out_is}

-- what was taken of a source's bytes for a line, or for their end
abbrev pub Took : Line → ℕ → ℕ → List ℕ → List ℕ → Type 0
Took line room room' old left =
    ((is_end line ≡ false) × (IsEndedLine line old room left room' ⊎ IsLastLine line old room left room')) ⊎ ((line ≡ End) × (old ≡ []) × (left ≡ []) × (room' ≡ room))

took_of : (reading : Reading) (line : Line) (room room' : ℕ) (old left : List ℕ) → ReadsLine reading line → Gives line old room left room' → Took line room room' old left
took_of reading (Text text) room room' old left read gives = inl (refl, gives)
took_of reading TooLong room room' old left read gives = inl (refl, gives)
took_of reading End room room' old left read gives = inr (refl, gives.0, gives.1, gives.2)
took_of reading Failed room room' old left read gives = absurd (not_failed reading read)
took_of reading Full room room' old left read gives = absurd (not_full reading read)

tells_took : (reading : Reading) (line : Line) (room room' : ℕ) (a b : Option (List ℕ)) → ReadsLine reading line → TellsBoth (λ old left. Gives line old room left room') a b → TellsBoth (λ old left. Took line room room' old left) a b
tells_took reading line room room' None None read gives = tt
tells_took reading line room room' (Some old) (Some left) read gives = took_of reading line room room' old left read gives
tells_took reading line room room' None (Some left) read gives = absurd gives
tells_took reading line room room' (Some old) None read gives = absurd gives

-- the lines with one more
record Grown (lines : List Line) (line : Line) (limit : ℕ) (bytes : List ℕ) (room : ℕ) (left : List ℕ) : Type 0 where
  pub rest : List Line
  pub first : AreFirstLines (lines ++ line ∷ []) rest limit bytes room left
  pub which : (is_end line ≡ false) ⊎ (rest ≡ [])

grown : (lines : List Line) (line : Line) (limit : ℕ) (bytes old left : List ℕ) (room room' : ℕ) → Took line room room' old left → SoMany lines limit bytes room old → Grown lines line limit bytes room' left
grown lines line limit bytes old left room room' (inl (more, took)) first =
    record { rest = lines_read room' left; first = push lines line limit bytes old left room room' took first; which = inl more }
grown lines line limit bytes old left room room' (inr (is, none, none', same)) first = record {
  rest = [];
  first = subst (λ r. AreFirstLines (lines ++ line ∷ []) [] limit bytes r left) (sym same) (subst (λ l. AreFirstLines (lines ++ l ∷ []) [] limit bytes room left) (sym is) (subst (λ l. AreFirstLines (lines ++ End ∷ []) [] limit bytes room l) (sym none') (at_end lines limit bytes old room none first)));
  which = inr refl;
}

-- where a session stops that serves no further line: a part of what was left was taken
pub record Stopped (how : How) (reading : Reading) (room room' : ℕ) (before left : List ℕ) : Type 0 where
  pub part : List ℕ
  pub is : before ≡ part ++ left
  pub took : room ≡ length part + room'
  pub ends : EndsBy how reading (lines_read room before)
  pub cut : how ≡ SourceFault → HasNoLf part

-- a line that was taken and not served
skipped : (line : Line) (reading : Reading) (room room' : ℕ) (old left : List ℕ) → (reading ≡ Out → ⊥) → Took line room room' old left → Stopped NoMemory reading room room' old left
skipped line reading room room' old left within (inl (more, inl took)) =
    record { part = took.line ++ 10 ∷ []; is = took.bytes ∙ sym (append_assoc took.line (10 ∷ []) left); took = omega (arith, took.room, length-append took.line (10 ∷ [])); ends = within; cut = λ is. absurd (cc) }
skipped line reading room room' old left within (inl (more, inr took)) =
    record { part = took.line; is = took.bytes ∙ sym (append-nil took.line) ∙ ap (λ l. took.line ++ l) (sym took.used_up); took = took.room; ends = within; cut = λ is. absurd (cc) }
skipped line reading room room' old left within (inr (is, none, none', same)) = record { part = []; is = none ∙ sym none'; took = omega (arith, same); ends = within; cut = λ failed. absurd (cc) }

-- what was read of a line that a source cut off, where nothing more is held
cut_whole : (part ahead : List ℕ) → HasNoLf part → length ahead ≡ 0 → HasNoLf (part ++ ahead)
cut_whole part [] no_lf none = subst HasNoLf (sym (append-nil part)) no_lf
cut_whole part (byte ∷ ahead) no_lf none = absurd (omega (arith, none))

in_by : (reading : Reading) → is_out reading ≡ false → reading ≡ Out → ⊥
in_by reading going is = false≢true (sym going ∙ ap is_out is)

-- the input isn't full, and no more was read than may be
not_over : (how : How) (limit taken ahead room : ℕ) → (how ≡ InputFull → ⊥) → limit ≡ taken + room → ahead ≤ room → (how ≡ InputFull) ↔ (limit < taken + ahead)
not_over how limit taken ahead room other is within = (λ full. absurd (other full), λ over. absurd (omega (arith, over, is, within)))

module _ {D : Type 0} (follows : Following D) (syncs : Syncing D) (limit : ℕ) (source : Option (List ℕ)) (d : D) (old : SessionView) where
  -- texts written whole, and no other
  whole_text : (exchanges : List Exchange) (now : SessionView) → now.held ≡ held_after old.held (flat_map text_written exchanges) → WroteTexts (flat_map text_written exchanges) [] old now
  whole_text exchanges now held = record { part = []; rest = []; is_second = refl; held = held ∙ ap (held_after old.held) (sym (append-nil (flat_map text_written exchanges))); whole = inl refl }

  -- texts, and one after them
  longer : (exchanges more : List Exchange) (mid now : SessionView) → mid.held ≡ held_after old.held (flat_map text_written exchanges) → now.held ≡ held_after mid.held (flat_map text_written more) → now.held ≡ held_after old.held (flat_map text_written (exchanges ++ more))
  longer exchanges more mid now front back =
      back ∙ ap (λ h. held_after h (flat_map text_written more)) front ∙ behind-behind old.held (flat_map text_written exchanges) (flat_map text_written more) ∙ ap (held_after old.held) (sym (flat_map_over_append text_written exchanges more))

  -- a session that stops before a line
  pub Ends-before : (how : How) (e : D) (feed feed' : LinesView) (reading : Reading) (now : SessionView) (so : SoFar follows syncs limit source d old feed (standing e reading now)) →
      TellsBoth (λ before left. Stopped how reading feed.room feed'.room before left) feed.left feed'.left → (how ≡ InputFull) ↔ (feed'.room < feed'.ahead) → (how ≡ SourceFault → feed'.ahead ≡ 0) →
      (WroteTexts (flat_map text_written so.exchanges) [] old now → Texts how so.exchanges [] old now) → Ends follows syncs limit how source d old feed' (standing e reading now)
  Ends-before how e feed feed' reading now so stop full none texts = record {
    lines = so.lines;
    asked = so.exchanges;
    reads = so.reads;
    input = TellsBoth-then (λ bytes left. AreFirstLines so.lines (lines_read feed.room left) limit bytes feed.room left) (λ before left. Stopped how reading feed.room feed'.room before left)
        (λ before left. (ahead now : List ℕ) → left ≡ ahead ++ now → length ahead ≡ feed'.ahead → IsInput so.lines reading how limit before now) (λ bytes before left first stop. stopped bytes before left first stop) source feed.left feed'.left so.first_lines stop;
    turns = so.turns;
    texts = texts (whole_text so.exchanges now so.text);
  }
    where
      stopped : (bytes before left : List ℕ) → SoMany so.lines limit bytes feed.room before → Stopped how reading feed.room feed'.room before left → (ahead now : List ℕ) → left ≡ ahead ++ now → length ahead ≡ feed'.ahead → IsInput so.lines reading how limit bytes now
      stopped bytes before left first stop ahead now is held = record {
        rest = lines_read feed.room before;
        room = feed.room;
        left = before;
        first = first;
        ends = stop.ends;
        ahead = stop.part ++ ahead;
        is_left = stop.is ∙ ap (λ l. stop.part ++ l) is ∙ sym (append_assoc stop.part ahead now);
        cut = λ failed. cut_whole stop.part ahead (stop.cut failed) (held ∙ none failed);
        full = (λ is. omega (arith, full.0 is, first.within, stop.took, held, length-append stop.part ahead), λ over. full.1 (omega (arith, over, first.within, stop.took, held, length-append stop.part ahead)));
      }

  -- a session that ends by a line
  Ends-by : (how : How) (line : Line) (more : List Exchange) (m e : D) (feed feed' : LinesView) (reading reading' : Reading) (mid now : SessionView) (so : SoFar follows syncs limit source d old feed (standing m reading mid)) →
      TellsBoth (λ before left. Took line feed.room feed'.room before left) feed.left feed'.left → feed'.ahead ≤ feed'.room → (how ≡ InputFull → ⊥) → (how ≡ SourceFault → ⊥) → ServesLine follows syncs line more (standing m reading mid) (standing e reading' now) →
      ((rest : List Line) → (is_end line ≡ false) ⊎ (rest ≡ []) → EndsBy how reading' rest) → Texts how (so.exchanges ++ more) [] old now → Ends follows syncs limit how source d old feed' (standing e reading' now)
  Ends-by how line more m e feed feed' reading reading' mid now so took within other heard came ends texts = record {
    lines = so.lines ++ line ∷ [];
    asked = so.exchanges ++ more;
    reads = ReadsAs-append so.lines (line ∷ []) Operational reading reading' so.exchanges more so.reads came.reads;
    input = TellsBoth-then (λ bytes left. AreFirstLines so.lines (lines_read feed.room left) limit bytes feed.room left) (λ before left. Took line feed.room feed'.room before left)
        (λ before left. (ahead now : List ℕ) → left ≡ ahead ++ now → length ahead ≡ feed'.ahead → IsInput (so.lines ++ line ∷ []) reading' how limit before now) (λ bytes before left first took. ended bytes left (grown so.lines line limit bytes before left feed.room feed'.room took first)) source feed.left feed'.left so.first_lines took;
    turns = Turns-then follows syncs so.exchanges more d m e old mid now so.turns came.turns;
    texts = texts;
  }
    where
      ended : (bytes left : List ℕ) → Grown so.lines line limit bytes feed'.room left → (ahead now : List ℕ) → left ≡ ahead ++ now → length ahead ≡ feed'.ahead → IsInput (so.lines ++ line ∷ []) reading' how limit bytes now
      ended bytes left g ahead now is held = record {
        rest = g.rest;
        room = feed'.room;
        left = left;
        first = g.first;
        ends = ends g.rest g.which;
        ahead = ahead;
        is_left = is;
        cut = λ failed. absurd (heard failed);
        full = not_over how limit (length g.first.taken) (length ahead) feed'.room other g.first.within (omega (arith, held, within));
      }

  -- a session that goes on after a line
  pub SoFar-goes : (line : Line) (more : List Exchange) (m e : D) (feed feed' : LinesView) (reading reading' : Reading) (mid now : SessionView) (so : SoFar follows syncs limit source d old feed (standing m reading mid)) →
      TellsBoth (λ before left. Took line feed.room feed'.room before left) feed.left feed'.left → feed'.ahead ≤ feed'.room → ServesLine follows syncs line more (standing m reading mid) (standing e reading' now) →
      now.held ≡ held_after mid.held (flat_map text_written more) → is_out reading' ≡ false → is_end line ≡ false → SoFar follows syncs limit source d old feed' (standing e reading' now)
  SoFar-goes line more m e feed feed' reading reading' mid now so took within came held going not_end = record {
    lines = so.lines ++ line ∷ [];
    exchanges = so.exchanges ++ more;
    reads = ReadsAs-append so.lines (line ∷ []) Operational reading reading' so.exchanges more so.reads came.reads;
    first_lines = TellsBoth-then (λ bytes left. AreFirstLines so.lines (lines_read feed.room left) limit bytes feed.room left) (λ before left. Took line feed.room feed'.room before left) (λ bytes left. AreFirstLines (so.lines ++ line ∷ []) (lines_read feed'.room left) limit bytes feed'.room left)
        (λ bytes before left first took. on bytes before left first took) source feed.left feed'.left so.first_lines took;
    within = within;
    turns = Turns-then follows syncs so.exchanges more d m e old mid now so.turns came.turns;
    text = longer so.exchanges more mid now so.text held;
    going = going;
  }
    where
      on : (bytes before left : List ℕ) → SoMany so.lines limit bytes feed.room before → Took line feed.room feed'.room before left → SoMany (so.lines ++ line ∷ []) limit bytes feed'.room left
      on bytes before left first (inl (isn, took)) = push so.lines line limit bytes before left feed.room feed'.room took first
      on bytes before left first (inr (is, none, none', same)) = absurd (false≢true (sym not_end ∙ ap is_end is))

  -- the text of a line was written in part
  part_text : (exchanges : List Exchange) (last : Exchange) (mid now : SessionView) → mid.held ≡ held_after old.held (flat_map text_written exchanges) → WrotePart (text_written last) mid.held now.held → old.faults ≤ mid.faults → mid.faults ≤ now.faults → Rose mid.faults now.faults → WroteTexts (flat_map text_written exchanges) (text_written last) old now
  part_text exchanges last mid now held wrote later later' rose = record {
    part = wrote.part;
    rest = wrote.rest;
    is_second = wrote.whole;
    held = wrote.behind_old ∙ ap (λ h. held_after h wrote.part) held ∙ behind-behind old.held (flat_map text_written exchanges) wrote.part;
    whole = inr (rose_since old.faults mid.faults now.faults later later' rose);
  }

  pub Ends-line : (how : How) (line : Line) (m e : D) (feed feed' : LinesView) (reading reading' : Reading) (mid now : SessionView) → old.faults ≤ mid.faults → mid.faults ≤ now.faults → (how ≡ SinkFault → Rose mid.faults now.faults) →
      SoFar follows syncs limit source d old feed (standing m reading mid) → TellsBoth (λ before left. Took line feed.room feed'.room before left) feed.left feed'.left → feed'.ahead ≤ feed'.room →
      TakesLine follows syncs line (Some how) (standing m reading mid) (standing e reading' now) → Ends follows syncs limit how source d old feed' (standing e reading' now)
  Ends-line Clean line m e feed feed' reading reading' mid now later later' rose so took within takes =
      Ends-by Clean line takes.0 m e feed feed' reading reading' mid now so took within (λ is. cc) (λ is. cc) takes.1 (λ rest which. ends takes.3 which) (whole_text (so.exchanges ++ takes.0) now (longer so.exchanges takes.0 mid now so.text takes.2))
    where
      ends : {rest : List Line} → (is_out reading' ≡ true) ⊎ (is_end line ≡ true) → (is_end line ≡ false) ⊎ (rest ≡ []) → (reading' ≡ Out) ⊎ (rest ≡ [])
      ends (inl out) which = inl (out_is reading' out)
      ends (inr is) (inl isn't) = absurd (false≢true (sym isn't ∙ is))
      ends (inr is) (inr none) = inr none
  Ends-line SinkFault line m e feed feed' reading reading' mid now later later' rose so took within takes =
      Ends-by SinkFault line (takes.0 ∷ []) m e feed feed' reading reading' mid now so took within (λ is. cc) (λ is. cc) takes.1 (λ rest which. tt) (so.exchanges, takes.0, refl, part_text so.exchanges takes.0 mid now so.text takes.2 later later' (rose refl))
  Ends-line NoMemory line m e feed feed' reading reading' mid now later later' rose so took within takes =
      subst (λ x. Ends follows syncs limit NoMemory source d old feed' (standing x reading' now)) (sym takes.0) (subst (λ r. Ends follows syncs limit NoMemory source d old feed' (standing m r now)) (sym takes.1) (subst (λ s. Ends follows syncs limit NoMemory source d old feed' (standing m reading s)) (sym takes.2)
      (Ends-before NoMemory m feed feed' reading mid so (tells feed.left feed'.left took) (λ is. cc, λ over. absurd (omega (arith, over, within))) (λ is. absurd (cc)) (λ w. w))))
    where
      tells : (a b : Option (List ℕ)) → TellsBoth (λ before left. Took line feed.room feed'.room before left) a b → TellsBoth (λ before left. Stopped NoMemory reading feed.room feed'.room before left) a b
      tells None None took = tt
      tells (Some before) (Some left) took = skipped line reading feed.room feed'.room before left (in_by reading so.going) took
      tells None (Some left) took = absurd took
      tells (Some before) None took = absurd took
  Ends-line SourceFault line m e feed feed' reading reading' mid now later later' rose so took within takes = absurd takes
  Ends-line InputFull line m e feed feed' reading reading' mid now later later' rose so took within takes = absurd takes

-- a line that was taken and served
pub Steps-line : {D : Type 0} (follows : Following D) (syncs : Syncing D) (how : Option How) (line : Line) (m e : D) (feed feed' : LinesView) (reading reading' : Reading) (mid now : SessionView) → mid.faults ≤ now.faults → (how ≡ Some SinkFault → Rose mid.faults now.faults) → ReadsLine reading line →
    TellsBoth (λ old left. Gives line old feed.room left feed'.room) feed.left feed'.left → feed'.ahead ≤ feed'.room → TakesLine follows syncs line how (standing m reading mid) (standing e reading' now) → StepsOn follows syncs how feed feed' (standing m reading mid) (standing e reading' now)
Steps-line follows syncs None line m e feed feed' reading reading' mid now later' rose read gives within takes =
    λ limit source d old so. SoFar-goes follows syncs limit source d old line takes.0 m e feed feed' reading reading' mid now so (tells_took reading line feed.room feed'.room feed.left feed'.left read gives) within takes.1 takes.2 takes.3 takes.4
Steps-line follows syncs (Some how) line m e feed feed' reading reading' mid now later' rose read gives within takes =
    λ limit source d old later so. Ends-line follows syncs limit source d old how line m e feed feed' reading reading' mid now later later' (λ is. rose (ap Some is)) so (tells_took reading line feed.room feed'.room feed.left feed'.left read gives) within takes

-- a step that left how the session reads and its view as they were
moved : {D : Type 0} (follows : Following D) (syncs : Syncing D) (how : How) (d : D) (feed feed' : LinesView) (reading reading' : Reading) (view view' : SessionView) → reading ≡ reading' → view ≡ view' → StepsOn follows syncs (Some how) feed feed' (standing d reading view) (standing d reading view) → StepsOn follows syncs (Some how) feed feed' (standing d reading view) (standing d reading' view')
moved follows syncs how d feed feed' reading reading' view view' same same' steps =
    subst (λ r. StepsOn follows syncs (Some how) feed feed' (standing d reading view) (standing d r view')) same (subst (λ v. StepsOn follows syncs (Some how) feed feed' (standing d reading view) (standing d reading v)) same' steps)

-- no line was taken: the input is full
pub Steps-full : {D : Type 0} (follows : Following D) (syncs : Syncing D) (d : D) (feed feed' : LinesView) (reading reading' : Reading) (view view' : SessionView) → reading ≡ reading' → view ≡ view' → TellsBoth (λ old left. IsFull old feed.room left feed'.room) feed.left feed'.left → feed'.room < feed'.ahead → StepsOn follows syncs (Some InputFull) feed feed' (standing d reading view) (standing d reading' view')
Steps-full follows syncs d feed feed' reading reading' view view' same same' full over = moved follows syncs InputFull d feed feed' reading reading' view view' same same' (λ limit source first old later so. Ends-before follows syncs limit source first old InputFull d feed feed' reading view so (tells (in_by reading so.going) feed.left feed'.left full) (λ is. over, λ o. refl) (λ is. absurd (cc)) (λ w. w))
  where
    tells : (reading ≡ Out → ⊥) → (a b : Option (List ℕ)) → TellsBoth (λ old left. IsFull old feed.room left feed'.room) a b → TellsBoth (λ before left. Stopped InputFull reading feed.room feed'.room before left) a b
    tells within None None is = tt
    tells within (Some before) (Some left) is = record { part = is.part; is = is.bytes; took = omega (arith, is.whole_room, is.no_room); ends = (within, is_full before left feed.room feed'.room is); cut = λ failed. absurd (cc) }
    tells within None (Some left) is = absurd is
    tells within (Some before) None is = absurd is

-- no line was taken: the source failed
pub Steps-failed : {D : Type 0} (follows : Following D) (syncs : Syncing D) (d : D) (feed feed' : LinesView) (reading reading' : Reading) (view view' : SessionView) → reading ≡ reading' → view ≡ view' → TellsBoth (λ old left. IsCutOff old feed.room left feed'.room) feed.left feed'.left → feed'.ahead ≡ 0 → StepsOn follows syncs (Some SourceFault) feed feed' (standing d reading view) (standing d reading' view')
Steps-failed follows syncs d feed feed' reading reading' view view' same same' cut none = moved follows syncs SourceFault d feed feed' reading reading' view view' same same' (λ limit source first old later so. Ends-before follows syncs limit source first old SourceFault d feed feed' reading view so (tells (in_by reading so.going) feed.left feed'.left cut) (λ is. cc, λ over. absurd (omega (arith, over, none))) (λ is. none) (λ w. w))
  where
    tells : (reading ≡ Out → ⊥) → (a b : Option (List ℕ)) → TellsBoth (λ old left. IsCutOff old feed.room left feed'.room) a b → TellsBoth (λ before left. Stopped SourceFault reading feed.room feed'.room before left) a b
    tells within None None is = tt
    tells within (Some before) (Some left) is = record { part = is.part; is = is.bytes; took = is.room; ends = within; cut = λ same. is.no_lf }
    tells within None (Some left) is = absurd is
    tells within (Some before) None is = absurd is

-- no line was taken for want of memory
pub Steps-no_memory : {D : Type 0} (follows : Following D) (syncs : Syncing D) (d : D) (feed feed' : LinesView) (reading reading' : Reading) (view view' : SessionView) → feed ≡ feed' → reading ≡ reading' → view ≡ view' → StepsOn follows syncs (Some NoMemory) feed feed' (standing d reading view) (standing d reading' view')
Steps-no_memory follows syncs d feed feed' reading reading' view view' still same same' =
    subst (λ f. StepsOn follows syncs (Some NoMemory) feed f (standing d reading view) (standing d reading' view')) still (moved follows syncs NoMemory d feed feed reading reading' view view' same same'
    (λ limit source first old later so. Ends-before follows syncs limit source first old NoMemory d feed feed reading view so (tells (in_by reading so.going) feed.left) (λ is. cc, λ over. absurd (omega (arith, over, so.within))) (λ is. absurd (cc)) (λ w. w)))
  where
    tells : (reading ≡ Out → ⊥) → (a : Option (List ℕ)) → TellsBoth (λ before left. Stopped NoMemory reading feed.room feed.room before left) a a
    tells within None = tt
    tells within (Some before) = record { part = []; is = refl; took = omega arith; ends = within; cut = λ failed. absurd (cc) }

-- no session so far
pub SoFar-begins : {D : Type 0} (follows : Following D) (syncs : Syncing D) (d : D) (feed : LinesView) (reading : Reading) (view : SessionView) → reading ≡ Operational → feed.ahead ≡ 0 → SoFar follows syncs feed.room feed.left d view feed (standing d reading view)
SoFar-begins follows syncs d feed reading view is none = record {
  lines = [];
  exchanges = [];
  reads = (refl, is);
  first_lines = nothing feed.left;
  within = omega (arith, none);
  turns = Turns-none follows syncs d view;
  text = behind-none view.held;
  going = ap is_out is;
}
  where
    nothing : (left : Option (List ℕ)) → TellsBoth (λ bytes left. AreFirstLines [] (lines_read feed.room left) feed.room bytes feed.room left) left left
    nothing None = tt
    nothing (Some bytes) = record { taken = []; split = refl; within = omega arith; are = refl; others = inl refl }

-- no more was read ahead than may be taken, but where the input is full
pub within_of : (line : Line) (room ahead : ℕ) → (line ≡ Full → ⊥) → ((line ≡ Full) ↔ (room < ahead)) → ahead ≤ room
within_of line room ahead other full = not_more room ahead (λ over. other (full.1 over))
  where
    not_more : (room ahead : ℕ) → (room < ahead → ⊥) → ahead ≤ room
    not_more room ahead never = omega (arith, never)
