-- A text that is given for the show of the whole active configuration is that of a configuration.
use Rattle.std.proofs.Common.{◌≡◌, ℕ, List, [], Option, None, Some, IfSome, Result, Ok, Err, IfOk, take, refl, sym, ap, subst, ◌∙◌}
use Rattle.cfg_base.specs.declared.path.Step.{Step}
use Rattle.cfg_tree.specs.Statements.{Statements}
use Rattle.cfg_tree.specs.Tree.{IsTree}
use Rattle.commands.specs.declared.command.Command.{Command}
use Rattle.commands.specs.declared.command.Form.TheVariants.{Curly}
use Rattle.commit_ledger.specs.Kept.{Kept, active_of}
use Rattle.config_core.specs.Access.{bar_to}
use Rattle.config_core.specs.Machine.{Ends, Free, InFlight, Missed, Ready, Steps, StepsFrom, Waiting, later, waiting_of}
use Rattle.config_core.specs.Serving.{Shows, Turned, Unless}
use Rattle.config_core.specs.Showing.{IsShow, ShowsAnswer}
use Rattle.config_core.specs.State.{State}
use Rattle.config_core.specs.declared.event.Event.TheVariants.{Command as CommandOf}
use Rattle.config_core.specs.declared.event.Outcome.{Outcome}
use Rattle.config_core.specs.declared.event.Outcome.TheVariants.{Done, Fault}
use Rattle.config_core.specs.declared.reply.Refusal.{Refusal}
use Rattle.config_core.specs.declared.reply.Reply.{Reply}
use Rattle.config_core.specs.declared.reply.Reply.TheVariants.{Text}
use Rattle.curly_print.specs.Printed.{printed}
use Rattle.session_history.specs.declared.history.Happened.{Happened}
use Rattle.session_history.specs.Events.{IsAskedAt, Leads, StaysAccepted}
use Rattle.session_shell.specs.declared.door.Given0.{Given0}
use Rattle.session_shell.specs.declared.door.Given0.TheVariants.{Kept as KeptAt, Seen, Denied, Unready, NoMemory}
use Rattle.session_shell.specs.Shows.{IsPrinted, PrintsWhole, SaysWhole, text_in, whole_show}
use Rattle.session_threads.specs.Access.{Asker, IsJudged}
use Rattle.session_threads.specs.Adding.{answered_of}
use Rattle.session_threads.specs.History.{HasEvent, ShowsKept}

-- where a reply is a text, it is that of a configuration
abbrev IsWholeText : Reply → Type 0
IsWholeText reply = IfSome (text_in reply) IsPrinted

-- a show of a whole configuration prints that
shows_whole : (m : Statements) (reply : Reply) → IsTree m → IsShow m [] [] Curly reply → IsWholeText reply
shows_whole m reply tree show = by show.answer show.names show.shows
  where
    by : (answer : Result (List Step) Refusal) → answer ≡ Ok [] → ShowsAnswer Curly m answer reply → IsWholeText reply
    by answer names shows =
        let is : reply ≡ Text (printed m []) = subst (λ a. ShowsAnswer Curly m a reply) names shows in
        subst IsWholeText (sym is) (record { statements = m; tree = tree; is = refl })

-- so does a show of what is kept
pub kept_whole : (kept : Kept) (command : Command) (reply : Reply) → IsTree (active_of kept) → ShowsKept kept command reply
    → SaysWhole command reply
kept_whole kept command reply tree shows =
    λ is. shows_whole (active_of kept) reply tree (subst (λ c. ShowsKept kept c reply) is shows)

pub ok_whole : {E : Type 0} (kept : Kept) (command : Command) (result : Result Reply E) → IsTree (active_of kept)
    → IfOk result (ShowsKept kept command) → IfOk result (SaysWhole command)
ok_whole kept command (Ok reply) tree shows = kept_whole kept command reply tree shows
ok_whole kept command (Err fault) tree shows = tt

module _ (s : State) (caller moment : ℕ) (tree : IsTree (active_of s.kept)) where
  -- a command that is barred says no text
  serves_whole : (bar : Option Refusal) (done : Turned)
      → Unless bar (later s moment) done (Shows (later s moment) (active_of s.kept) [] [] Curly done) → IsWholeText done.reply
  serves_whole None done shows =
      subst (λ (t : Turned). IsWholeText t.reply) (sym shows.is) (shows_whole (active_of s.kept) shows.reply tree shows.show)
  serves_whole (Some refusal) done is = subst (λ (t : Turned). IsWholeText t.reply) (sym is) tt

  -- nor does one that a fault ended
  ends_whole : (outcome : Outcome) (done turned : Turned) → IsWholeText done.reply → Ends outcome (later s moment) done turned
      → IsWholeText turned.reply
  ends_whole Done done turned whole ends = subst (λ (t : Turned). IsWholeText t.reply) (sym ends) whole
  ends_whole Fault done turned whole ends = subst (λ (t : Turned). IsWholeText t.reply) (sym ends.is) tt

  waits_whole : (waiting : Waiting) (outcome : Outcome) (turned : Turned)
      → StepsFrom waiting (later s moment) caller (CommandOf whole_show) outcome turned → IsWholeText turned.reply
  waits_whole (InFlight made) Done turned steps = absurd steps
  waits_whole (InFlight made) Fault turned steps = subst (λ (t : Turned). IsWholeText t.reply) (sym steps) tt
  waits_whole Missed outcome turned steps = absurd steps
  waits_whole (Ready waiting) outcome turned steps = absurd steps
  waits_whole Free outcome turned steps =
      ends_whole outcome steps.done turned (serves_whole (bar_to (later s moment) caller whole_show) steps.done steps.serves) steps.ends

  -- a step of the machine
  steps_whole : (outcome : Outcome) (turned : Turned) → Steps s caller moment (CommandOf whole_show) outcome turned
      → IsWholeText turned.reply
  steps_whole outcome turned steps = waits_whole (waiting_of s moment) outcome turned steps

module _ (opening : State) (events : List Happened)
    (leads_once : (front : List Happened) (one other : State) → Leads opening front one → Leads opening front other → one ≡ other)
    (stays : StaysAccepted opening events) (caller answer : ℕ) (command : Command) where
  -- a command that stands at a place of a history
  asked_whole : (place : ℕ) (reply : Reply) → IsAskedAt opening events place caller answer command reply → SaysWhole command reply
  asked_whole place reply asked = λ is.
      let accepted = stays place in
      let same : asked.before ≡ accepted.last =
      leads_once (take place events) asked.before accepted.last asked.is_at.leads accepted.leads in
      let tree : IsTree (active_of asked.before.kept) =
      subst (λ (s : State). IsTree (active_of s.kept)) (sym same) accepted.accepted.1.tree in
      let event = asked.event in
      let steps : Steps asked.before event.caller event.moment (CommandOf whole_show) event.outcome asked.is_at.turned =
      subst (λ e. Steps asked.before event.caller event.moment e event.outcome asked.is_at.turned) (asked.asks ∙ ap CommandOf is)
      asked.is_at.steps in
      subst IsWholeText (sym asked.is_at.replied)
      (steps_whole asked.before event.caller event.moment tree event.outcome asked.is_at.turned steps)

  -- what a command's turn gave
  pub given_whole : (asker : Asker) (given : Given0) → IsJudged asker events command given
      → HasEvent opening caller events command answer (answered_of given) → PrintsWhole command given
  given_whole asker (KeptAt place reply) judged named = asked_whole place reply named
  given_whole asker (Seen front reply) judged named = absurd judged
  given_whole asker (Denied front right) judged named = λ is. tt
  given_whole asker (Unready front) judged named = λ is. tt
  given_whole asker NoMemory judged named = λ is. tt
