-- Where nothing comes before a command, nothing but the command is added.
use Rattle.std.proofs.Common.{◌≡◌, ℕ, List, [], ◌∷◌, ◌++◌, ◌+◌, length, false, refl, sym, ap, subst, ◌∙◌, append_assoc, length-append}
use Rattle.std.proofs.lemmas.List.{append-nil}
use Rattle.std.specs.List.{AllByRecursion}
use Rattle.commands.specs.declared.command.Command.{Command}
use Rattle.config_core.specs.declared.event.Event.{Event}
use Rattle.config_core.specs.declared.event.Event.TheVariants.{Settle, Revert, Carry, Command as CommandOf}
use Rattle.config_core.specs.Machine.{Fits, FitsIn, Free, waiting_of}
use Rattle.config_core.specs.State.{State}
use Rattle.session_history.specs.declared.history.Happened.{Happened}
use Rattle.session_history.specs.Events.{IsEventOf, Leads, NoCommand, is_command}
use Rattle.config_db.specs.declared.answer.Answered.{Answered}
use Rattle.config_db.specs.declared.answer.Answered.TheVariants.{Kept, NoMemory}
use Rattle.config_db.specs.Answers.{Answers, IsClear, IsNext}
use Rattle.config_db.specs.View.{DatabaseView}

-- with nothing before the next command only a command fits
commands_fit : (event : Event) → FitsIn Free event → is_command event ≡ false → ⊥
commands_fit (Settle is_kept) fits none = fits
commands_fit Revert fits none = fits
commands_fit Carry fits none = fits
commands_fit (CommandOf command) fits none = absurd (cc)

module _ (caller moment : ℕ) where
  none_first : (s : State) (e : Happened) → waiting_of s moment ≡ Free → Fits s e.caller e.moment e.event → e.moment ≡ moment → is_command e.event ≡ false → ⊥
  none_first s e clear fits made none = commands_fit e.event (subst (λ w. FitsIn w e.event) (ap (λ m. waiting_of s m) made ∙ clear) fits.fits) none

  none_come : (s last : State) (own : List Happened) → waiting_of s moment ≡ Free → Leads s own last → AllByRecursion (IsEventOf caller moment) own → NoCommand own → own ≡ []
  none_come s last [] clear leads made none = refl
  none_come s last (e ∷ own) clear leads made none = absurd (none_first s e clear leads.0 made.0.1 none.0)

  none_before : (s last : State) (front more : List Happened) → waiting_of s moment ≡ Free → Leads s front last → AllByRecursion (IsEventOf caller moment) (front ++ more) → NoCommand front → front ≡ []
  none_before s last [] more clear leads made none = refl
  none_before s last (e ∷ front) more clear leads made none = absurd (none_first s e clear leads.0 made.0.1 none.0)

  pub answers_next : (command : Command) (answered : Answered) (v w : DatabaseView) → Answers caller moment command answered v w → IsClear moment v → IsNext answered v.events w.events
  answers_next command (Kept place reply) v w given clear =
      let answer = given.answer in
      let made = subst (λ l. AllByRecursion (IsEventOf caller moment) l) answer.is_own given.extends.made in
      let none = none_before v.state answer.before answer.front (answer.last ∷ []) clear answer.leads made answer.no_command in (
        answer.at_end ∙ ap (λ l. length (v.events ++ l)) none ∙ ap (λ l. length l) (append-nil v.events),
        ap (λ l. length l) (given.extends.grown ∙ ap (λ l. v.events ++ l) answer.is_own ∙ sym (append_assoc v.events answer.front (answer.last ∷ [])))
            ∙ length-append (v.events ++ answer.front) (answer.last ∷ []) ∙ ap (λ n. n + 1) (sym answer.at_end),
      )
  answers_next command NoMemory v w given clear =
      let none = none_come v.state w.state given.own clear given.extends.leads given.extends.made given.answer.no_command in
      given.extends.grown ∙ ap (λ l. v.events ++ l) none ∙ append-nil v.events
