-- A history that grows at its end.
use Rattle.std.proofs.Common.{◌≡◌, ℕ, ◌+◌, ◌<◌, ◌&&◌, List, [], ◌∷◌, ◌++◌, length, Bool, true, false, cond, eqb, refl, sym, ap, subst, ◌∙◌, zero, suc, add-zero, eq-eqb, arith, slice_get, Some}
use Rattle.std.specs.List.{AllByRecursion}
use Rattle.std.proofs.lemmas.List.{take-append-le, length-append}
use Rattle.config_core.specs.declared.reply.Reply.{Reply}
use Rattle.config_core.specs.State.{State}
use Rattle.session_history.specs.declared.history.Happened.{Happened}
use Rattle.session_history.specs.Events.{Leads, IsAt, IsAskedAt, is_asked_by, is_command, places_from, places_of}
use Rattle.commands.specs.declared.command.Command.{Command}

-- events that lead on
pub Leads-append : (s : State) (events more : List Happened) (mid last : State) → Leads s events mid → Leads mid more last → Leads s (events ++ more) last
Leads-append s [] more mid last front back = subst (λ x. Leads x more last) front back
Leads-append s (event ∷ events) more mid last front back = (front.0, front.1, front.2, Leads-append front.1.state events more mid last front.3 back)

-- an element that is there stays there
slice_get-append : {A : Type 0} → (xs ys : List A) (place : ℕ) → place < length xs → slice_get (xs ++ ys) place ≡ slice_get xs place
slice_get-append [] ys place within = absurd (omega arith)
slice_get-append (x ∷ xs) ys zero within = refl
slice_get-append (x ∷ xs) ys (suc place) within = slice_get-append xs ys place (omega arith)

-- what stands between two parts is at the first one's length
pub at_seam : {A : Type 0} → (front rest : List A) (x : A) → slice_get (front ++ x ∷ rest) (length front) ≡ Some x
at_seam [] rest x = refl
at_seam (first ∷ front) rest x = at_seam front rest x

-- what is at a place stays so
pub IsAt-append : (s : State) (events more : List Happened) (place : ℕ) (before : State) (event : Happened) (reply : Reply) → IsAt s events place before event reply → IsAt s (events ++ more) place before event reply
IsAt-append s events more place before event reply there = record {
  within = omega (arith, length-append events more, there.within);
  is = slice_get-append events more place there.within ∙ there.is;
  leads = subst (λ front. Leads s front before) (sym (take-append-le place events more (omega (arith, there.within)))) there.leads;
  turned = there.turned;
  steps = there.steps;
  replied = there.replied;
}

-- what was asked stays so
pub IsAsked-append : (s : State) (events more : List Happened) (place caller answer : ℕ) (command : Command) (reply : Reply) → IsAskedAt s events place caller answer command reply → IsAskedAt s (events ++ more) place caller answer command reply
IsAsked-append s events more place caller answer command reply asked =
    record { before = asked.before; event = asked.event; is_at = IsAt-append s events more place asked.before asked.event reply asked.is_at; own = asked.own; when = asked.when; asks = asked.asks }

either : (b : Bool) (place : ℕ) (xs ys places : List ℕ) → xs ≡ ys ++ places → cond b (place ∷ xs) xs ≡ cond b (place ∷ ys) ys ++ places
either true place xs ys places same = ap (λ l. place ∷ l) same
either false place xs ys places same = same

-- the places of events, and then those of more
pub places_from-append : (place caller : ℕ) (events more : List Happened) → places_from place caller (events ++ more) ≡ places_from place caller events ++ places_from (place + length events) caller more
places_from-append place caller [] more = ap (λ p. places_from p caller more) (sym (add-zero place))
places_from-append place caller (event ∷ events) more =
    let here : (place + 1) + length events ≡ place + suc (length events) = omega arith in
    either (is_asked_by caller event) place (places_from (place + 1) caller (events ++ more)) (places_from (place + 1) caller events) (places_from (place + suc (length events)) caller more)
    (places_from-append (place + 1) caller events more ∙ ap (λ p. places_from (place + 1) caller events ++ places_from p caller more) here)

pub places_of-append : (caller : ℕ) (events more : List Happened) → places_of caller (events ++ more) ≡ places_of caller events ++ places_from (length events) caller more
places_of-append caller events more = places_from-append 0 caller events more ∙ ap (λ p. places_of caller events ++ places_from p caller more) (omega arith)

none : (b : Bool) (place : ℕ) (xs : List ℕ) → b ≡ false → xs ≡ [] → cond b (place ∷ xs) xs ≡ []
none b place xs isn't is = ap (λ c. cond c (place ∷ xs) xs) isn't ∙ is

no_and : (a b : Bool) → a ≡ false → a && b ≡ false
no_and a b isn't = ap (λ c. c && b) isn't

-- events of which none is a command have no places
pub no_places : (place caller : ℕ) (events : List Happened) → AllByRecursion (λ event. is_command event.event ≡ false) events → places_from place caller events ≡ []
no_places place caller [] all = refl
no_places place caller (event ∷ events) all =
    none (is_asked_by caller event) place (places_from (place + 1) caller events) (no_and (is_command event.event) (eqb event.caller caller) all.0) (no_places (place + 1) caller events all.1)

-- the place of one command
pub one_place : (place caller : ℕ) (event : Happened) → is_command event.event ≡ true → event.caller ≡ caller → places_from place caller (event ∷ []) ≡ place ∷ []
one_place place caller event asked own = ap (λ b. cond b (place ∷ []) []) (ap (λ a. a && eqb event.caller caller) asked ∙ eq-eqb event.caller caller own)
