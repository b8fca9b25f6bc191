-- A history that begins with every session at a level leads to one state, with one reply at each place.
use Rattle.std.proofs.Common.{◌≡◌, ℕ, ◌-◌, ◌==◌, List, [], ◌∷◌, length, map, take, Bool, true, false, cond, refl, sym, ap, subst, ◌∙◌, zero, suc, nat_lt, Option, None, Some, inl, inr, slice_get, slice_set}
use Rattle.std.specs.List.{All, AllByRecursion}
use Rattle.std.proofs.lemmas.List.Elements.{All-nil, All-cons, All-head, All-tail}
use Rattle.commands.specs.declared.command.Form.{Form}
use Rattle.commands.specs.declared.command.Mode.{Mode}
use Rattle.commands.specs.declared.command.Command.{Command}
use Rattle.commands.specs.declared.command.Command.TheVariants.{Configure, ShowActive, ShowCommits, ClearCommit, Logout, Edit, Up, Top, Exit, ExitAll, Show, Change, Load, Rollback, CheckOnly, Commit, CommitAt, Update, Status}
use Rattle.commands.specs.When.{at_of}
use Rattle.cfg_base.specs.declared.path.Step.{Step}
use Rattle.cfg_tree.specs.Statements.{Statements}
use Rattle.cfg_tree.specs.Typed.{IsTypedPath, IsLevelPath}
use Rattle.cfg_resolve.proofs.TargetLemmas.{resolved_target}
use Rattle.commit_ledger.specs.declared.entry.Commit.{Commit as CommitMade}
use Rattle.commit_ledger.specs.declared.entry.Entry.{Entry}
use Rattle.commit_ledger.specs.declared.entry.Entry.TheVariants.{Commit as CommitOf, Confirm as ConfirmOf, Scheduled as ScheduledOf, Cleared as ClearedOf}
use Rattle.commit_ledger.specs.declared.limit.TheConstants.{MAX_ENTRIES}
use Rattle.commit_ledger.specs.Kept.{Unconfirmed, active_of, nth_last}
use Rattle.config_core.specs.declared.caller.Caller.{Caller}
use Rattle.config_core.specs.declared.event.Event.{Event}
use Rattle.config_core.specs.declared.event.Event.TheVariants.{Settle, Revert, Carry, Command as CommandOf}
use Rattle.config_core.specs.declared.event.Outcome.{Outcome}
use Rattle.config_core.specs.declared.event.Outcome.TheVariants.{Done as IsDone, Fault}
use Rattle.config_core.specs.declared.reply.Refusal.TheVariants.{NotALevel, Exhausted}
use Rattle.config_core.specs.declared.reply.Reply.{Reply}
use Rattle.config_core.specs.declared.reply.Reply.TheVariants.{Done}
use Rattle.config_core.specs.Levels.{Position, AreLevels, at_top, is_level_place, is_level_at, moved_to, to_last}
use Rattle.config_core.specs.State.{State, Made, operational}
use Rattle.config_core.specs.Callers.{caller_in, candidate_of, own_of, position_of, level_of, with_caller, with_position, without_mode}
use Rattle.config_core.specs.Access.{bar_to}
use Rattle.config_core.specs.Entries.{cleared_of, commit_of, confirm_of, made_by, scheduled_of, taken}
use Rattle.config_core.specs.Serving.{Turned, answered, refused, exited, edited, Replaces, RollsTo, Shows, checked, left_if, makes, Does, Serves}
use Rattle.config_core.specs.Machine.{Waiting, InFlight, Missed, Ready, Free, Ends, Steps, StepsFrom, carried, is_logout, later, left_by, reverted, settled, waiting_of}
use Rattle.config_core.proofs.LevelLemmas.{top_alone, level_front}
use Rattle.config_core.proofs.StepLemmas.{by_bar, by_bool, by_check, shows_stay}
use Rattle.session_history.specs.declared.history.Happened.{Happened}
use Rattle.session_history.specs.Events.{Leads, IsAt}

top_levels : AreLevels at_top
top_levels = top_alone [] [] refl refl

-- each session stands at a level, and remembers levels
abbrev Stand : List Caller → Type 0
Stand callers = AllByRecursion (λ c. AreLevels c.position) callers

stands_there : (callers : List Caller) (place : ℕ) → Stand callers → AreLevels (caller_in (slice_get callers place)).position
stands_there [] place stand = top_levels
stands_there (c ∷ callers) zero stand = stand.0
stands_there (c ∷ callers) (suc place) stand = stands_there callers place stand.1

stand_set : (callers : List Caller) (place : ℕ) (c : Caller) → Stand callers → AreLevels c.position → Stand (slice_set callers place c)
stand_set [] place c stand is = tt
stand_set (first ∷ callers) zero c stand is = (is, stand.1)
stand_set (first ∷ callers) (suc place) c stand is = (stand.0, stand_set callers place c stand.1 is)

pub stand_at_first : (users : List (List ℕ)) → Stand (map operational users)
stand_at_first [] = tt
stand_at_first (user ∷ users) = (top_levels, stand_at_first users)

-- the sessions stand so after a step
abbrev Stands : Turned → Type 0
Stands turned = Stand turned.state.callers

stands_by : (turned to : Turned) → turned ≡ to → Stands to → Stands turned
stands_by turned to is stand = subst Stands (sym is) stand

placed : (s : State) (caller : ℕ) (mode : Option Mode) (position : Position) → Stand s.callers → AreLevels position → Stand (with_caller s caller mode position).callers
placed s caller mode position stand is = stand_set s.callers (caller - 1) _ stand is

left_stands : (s : State) (caller : ℕ) → Stand s.callers → Stand (without_mode s caller).callers
left_stands s caller stand = placed s caller _ _ stand top_levels

levels_of : (s : State) (caller : ℕ) → Stand s.callers → AreLevels (position_of s caller)
levels_of s caller stand = stands_there s.callers (caller - 1) stand

edited_stands : (s : State) (caller : ℕ) (path : List Step) → Stand s.callers → IsTypedPath path → Stands (edited s caller path)
edited_stands s caller path stand typed = by_level (is_level_at path) refl
  where
    by_level : (b : Bool) → is_level_at path ≡ b → Stands (cond b (answered (with_position s caller (moved_to (position_of s caller) path)) Done) (refused s (NotALevel path)))
    by_level true is =
        let from : AreLevels (position_of s caller) = levels_of s caller stand in
        placed s caller _ _ stand (record {
          here = record { typed = typed; opens = λ here there. subst (λ place. is_level_place place ≡ true) there is };
          before = All-cons IsLevelPath (position_of s caller).level (position_of s caller).remembered from.here from.before;
        })
    by_level false is = stand

back_stands : (s : State) (caller : ℕ) (level : List Step) (remembered : List (List Step)) → Stand s.callers → All IsLevelPath remembered → Stands (exited s caller (to_last level remembered))
back_stands s caller [] [] stand before = left_stands s caller stand
back_stands s caller (step ∷ level) [] stand before = placed s caller _ _ stand top_levels
back_stands s caller level (last ∷ more) stand before =
    placed s caller _ _ stand (record { here = All-head IsLevelPath last more before; before = All-tail IsLevelPath last more before })

makes_stands : (s : State) (caller : ℕ) (entry : Entry) (quit : Bool) (reply : Reply) → Stand s.callers → Stands (makes s caller entry quit reply)
makes_stands s caller entry quit reply stand = by_room (nat_lt s.kept.count MAX_ENTRIES)
  where
    after : State
    after = taken s (made_by caller entry)

    by_quit : (q : Bool) → Stand (left_if q caller after).callers
    by_quit true = placed after caller _ _ stand top_levels
    by_quit false = stand

    by_room : (b : Bool) → Stands (cond b (record { state = left_if quit caller after; reply = reply; made = Some (made_by caller entry) }) (refused s Exhausted))
    by_room true = by_quit quit
    by_room false = stand

checked_stands : (s : State) (caller : ℕ) (run : Option Unconfirmed) → Stand s.callers → Stands (checked s caller run)
checked_stands s caller None stand = stand
checked_stands s caller (Some run) stand = makes_stands s caller (ConfirmOf (confirm_of s caller)) false _ stand

rolls_stand : (s : State) (caller n : ℕ) (commit : Option CommitMade) (turned : Turned) → Stand s.callers → RollsTo s caller n commit turned
    → Stands turned
rolls_stand s caller n None turned stand rolls = stands_by turned _ rolls stand
rolls_stand s caller n (Some commit) turned stand rolls = by_bool (n == 0) _ _ _ (λ is. stands_by turned _ is stand) replaced rolls
  where
    replaced : Replaces s caller commit.tree turned → Stands turned
    replaced replaces = stands_by turned _ replaces.is stand

shows_stand : (s : State) (m : Statements) (level : List Step) (asked : List (List ℕ)) (form : Form) (turned : Turned) → Stand s.callers → Shows s m level asked form turned → Stands turned
shows_stand s m level asked form turned stand shows = subst (λ x. Stand x.callers) (sym (shows_stay s m level asked form turned shows)) stand

-- what a command does leaves every session at a level
does_stand : (s : State) (caller : ℕ) (command : Command) (turned : Turned) → Stand s.callers → Does s caller command turned → Stands turned
does_stand s caller (Configure mode) turned stand is = stands_by turned _ is (placed s caller _ _ stand top_levels)
does_stand s caller (ShowActive asked form) turned stand shows = shows_stand s (active_of s.kept) [] asked form turned stand shows
does_stand s caller ShowCommits turned stand lists = stands_by turned _ lists.is stand
does_stand s caller Logout turned stand is = stands_by turned _ is (left_stands s caller stand)
does_stand s caller (Edit asked) turned stand (inl moves) =
    stands_by turned _ moves.is (edited_stands s caller moves.target.path stand
    (resolved_target (level_of s caller) asked moves.target (levels_of s caller stand).here moves.names).typed)
does_stand s caller (Edit asked) turned stand (inr lost) = stands_by turned _ lost.is stand
does_stand s caller (Up count) turned stand is =
    stands_by turned _ is (placed s caller _ _ stand (record {
      here = level_front (position_of s caller).level (length (position_of s caller).level - count) (levels_of s caller stand).here;
      before = All-nil IsLevelPath;
    }))
does_stand s caller Top turned stand is = stands_by turned _ is (placed s caller _ _ stand top_levels)
does_stand s caller Exit turned stand is =
    stands_by turned _ is (back_stands s caller (position_of s caller).level (position_of s caller).remembered stand (levels_of s caller stand).before)
does_stand s caller ExitAll turned stand is = stands_by turned _ is (left_stands s caller stand)
does_stand s caller (Show asked form) turned stand shows = shows_stand s (candidate_of s caller).map (level_of s caller) asked form turned stand shows
does_stand s caller (Change op) turned stand (inl changes) = stands_by turned _ changes.is stand
does_stand s caller (Change op) turned stand (inr same) = stands_by turned _ same.is stand
does_stand s caller (Load way text) turned stand (inl loads) = stands_by turned _ loads.replaces.is stand
does_stand s caller (Load way text) turned stand (inr same) = stands_by turned _ same.is stand
does_stand s caller (Rollback n) turned stand rolls = rolls_stand s caller n (nth_last s.kept n) turned stand rolls
does_stand s caller CheckOnly turned stand checks =
    by_check s (own_of s caller) turned _ Stands (λ m accepted. checked_stands s caller s.kept.pending stand) (λ refusal. stand) checks
does_stand s caller (Commit minutes comment quit) turned stand checks =
    by_check s (own_of s caller) turned _ Stands (λ m accepted. makes_stands s caller (CommitOf (commit_of s caller m minutes comment)) quit _ stand)
    (λ refusal. stand) checks
does_stand s caller (CommitAt when comment) turned stand checks =
    by_check s (own_of s caller) turned _ Stands
    (λ m accepted. makes_stands s caller (ScheduledOf (scheduled_of s caller m (at_of when s.greatest) comment)) false _ stand) (λ refusal. stand) checks
does_stand s caller ClearCommit turned stand is = stands_by turned _ is (makes_stands s caller (ClearedOf (cleared_of s caller)) false _ stand)
does_stand s caller Update turned stand (inl updates) = stands_by turned _ updates.is stand
does_stand s caller Update turned stand (inr unmerged) = stands_by turned _ unmerged.is stand
does_stand s caller Status turned stand is = stands_by turned _ is stand

serves_stands : (s : State) (caller : ℕ) (command : Command) (turned : Turned) → Stand s.callers → Serves s caller command turned → Stands turned
serves_stands s caller command turned stand serves =
    by_bar (bar_to s caller command) s turned _ _ (λ refusal is. stands_by turned _ is stand) (does_stand s caller command turned stand) serves

-- what is left of what was to be done
ends_stand : (outcome : Outcome) (s : State) (done turned : Turned) → Stand s.callers → Stands done → Ends outcome s done turned → Stands turned
ends_stand IsDone s done turned stand more ends = stands_by turned _ ends more
ends_stand Fault s done turned stand more ends = stands_by turned _ ends.is stand

settled_stands : (s : State) (made : Made) (is_kept : Bool) → Stand s.callers → Stand (settled s made is_kept).callers
settled_stands s made true stand = stand
settled_stands s made false stand = stand

left_by_stands : (s : State) (caller : ℕ) (command : Command) → Stand s.callers → Stand (left_by s caller command).callers
left_by_stands s caller command stand = by_logout (is_logout command)
  where
    by_logout : (b : Bool) → Stand (cond b (without_mode s caller) s).callers
    by_logout true = left_stands s caller stand
    by_logout false = stand

from_stands : (waiting : Waiting) (s : State) (caller : ℕ) (event : Event) (outcome : Outcome) (turned : Turned) → Stand s.callers → StepsFrom waiting s caller event outcome turned → Stands turned
from_stands (InFlight made) s caller (Settle is_kept) IsDone turned stand steps = stands_by turned _ steps (settled_stands s made is_kept stand)
from_stands (InFlight made) s caller (Settle is_kept) Fault turned stand steps = absurd steps
from_stands (InFlight made) s caller Revert outcome turned stand steps = absurd steps
from_stands (InFlight made) s caller Carry outcome turned stand steps = absurd steps
from_stands (InFlight made) s caller (CommandOf command) IsDone turned stand steps = absurd steps
from_stands (InFlight made) s caller (CommandOf command) Fault turned stand steps = stands_by turned _ steps (left_by_stands s caller command stand)
from_stands Missed s caller (Settle is_kept) outcome turned stand steps = absurd steps
from_stands Missed s caller Revert outcome turned stand steps = ends_stand outcome s (reverted s) turned stand stand steps
from_stands Missed s caller Carry outcome turned stand steps = absurd steps
from_stands Missed s caller (CommandOf command) outcome turned stand steps = absurd steps
from_stands (Ready waiting) s caller (Settle is_kept) outcome turned stand steps = absurd steps
from_stands (Ready waiting) s caller Revert outcome turned stand steps = absurd steps
from_stands (Ready waiting) s caller Carry outcome turned stand steps =
    ends_stand outcome s (carried s waiting steps.same) turned stand stand steps.ends
from_stands (Ready waiting) s caller (CommandOf command) outcome turned stand steps = absurd steps
from_stands Free s caller (Settle is_kept) outcome turned stand steps = absurd steps
from_stands Free s caller Revert outcome turned stand steps = absurd steps
from_stands Free s caller Carry outcome turned stand steps = absurd steps
from_stands Free s caller (CommandOf command) outcome turned stand steps = ends_stand outcome s steps.done turned stand (serves_stands s caller command steps.done stand steps.serves) steps.ends

steps_stand : (s : State) (caller moment : ℕ) (event : Event) (outcome : Outcome) (turned : Turned) → Stand s.callers → Steps s caller moment event outcome turned → Stands turned
steps_stand s caller moment event outcome turned stand steps = from_stands (waiting_of s moment) (later s moment) caller event outcome turned stand steps

pub leads_stand : (s : State) (events : List Happened) (last : State) → Stand s.callers → Leads s events last → Stand last.callers
leads_stand s [] last stand leads = subst (λ x. Stand x.callers) (sym leads) stand
leads_stand s (event ∷ events) last stand leads =
    leads_stand leads.1.state events last (steps_stand s event.caller event.moment event.event event.outcome leads.1 stand leads.2) leads.3

pub same_some : {A : Type 0} (a b : A) → Some a ≡ Some b → a ≡ b
same_some a b e = cc

module _ (step_once : (s : State) (caller moment : ℕ) (event : Event) (outcome : Outcome) (one other : Turned) → IsLevelPath (level_of s caller)
    → Steps s caller moment event outcome one → Steps s caller moment event outcome other → one ≡ other) where
  pub event_once : (s : State) (event : Happened) (one other : Turned) → Stand s.callers → Steps s event.caller event.moment event.event event.outcome one
      → Steps s event.caller event.moment event.event event.outcome other → one ≡ other
  event_once s event one other stand = step_once s event.caller event.moment event.event event.outcome one other (levels_of s event.caller stand).here

  -- the events lead to one state
  pub leads_once : (s : State) (events : List Happened) (one other : State) → Stand s.callers → Leads s events one → Leads s events other → one ≡ other
  leads_once s [] one other stand a b = a ∙ sym b
  leads_once s (event ∷ events) one other stand a b =
      let same : a.1 ≡ b.1 = event_once s event a.1 b.1 stand a.2 b.2 in
      leads_once b.1.state events one other (steps_stand s event.caller event.moment event.event event.outcome b.1 stand b.2)
      (subst (λ t. Leads t.state events one) same a.3) b.3

  -- at a place there is one event, after one state, with one reply
  pub at_once : (s : State) (events : List Happened) (place : ℕ) (before again : State) (event same : Happened) (one other : Reply) → Stand s.callers
      → IsAt s events place before event one → IsAt s events place again same other → (event ≡ same) × (before ≡ again) × (one ≡ other)
  at_once s events place before again event same one other stand a b =
      let is_event : event ≡ same = same_some event same (sym a.is ∙ b.is) in
      let is_before : before ≡ again = leads_once s (take place events) before again stand a.leads b.leads in
      let steps : Steps again same.caller same.moment same.event same.outcome a.turned =
      subst (λ e. Steps again e.caller e.moment e.event e.outcome a.turned) is_event
      (subst (λ x. Steps x event.caller event.moment event.event event.outcome a.turned) is_before a.steps) in
      let is_turned : a.turned ≡ b.turned = event_once again same a.turned b.turned (leads_stand s (take place events) again stand b.leads) steps b.steps in
      (is_event, is_before, a.replied ∙ ap (λ t. t.reply) is_turned ∙ sym b.replied)
