-- Turns, lines and answers, and then more of them.
use Rattle.std.proofs.Common.{◌≡◌, ℕ, ◌+◌, List, [], ◌∷◌, ◌++◌, map, refl, sym, ap, subst, ◌∙◌, append_assoc, Option, None, Some}
use Rattle.std.specs.List.{AllByRecursion, flat_map}
use Rattle.std.proofs.lemmas.List.{append-nil}
use Rattle.io_edge.specs.Ends.{TakesAnswer}
use Rattle.io_edge.specs.declared.lines.Line.{Line}
use Rattle.session_shell.specs.declared.reading.Reading.{Reading}
use Rattle.session_shell.specs.declared.reading.Item.{Item}
use Rattle.session_shell.specs.Exchange.{Exchange, Asked, Refused, Wanted, IsWrittenIn, turn_taken, moment_in, reading_after}
use Rattle.session_shell.specs.Items.{BeginsByLine, Continues, ReadsThrough}
use Rattle.session_shell.specs.Transcript.{AnswersAre, Following, GoesBy, SessionView, Syncing, TakesAnswers, TakesTurns}

pub map_over_append : {A B : Type 0} → (f : A → B) (xs ys : List A) → map f (xs ++ ys) ≡ map f xs ++ map f ys
map_over_append f [] ys = refl
map_over_append f (x ∷ xs) ys = ap (λ zs. f x ∷ zs) (map_over_append f xs ys)

pub flat_map_over_append : {A B : Type 0} → (f : A → List B) (xs ys : List A) → flat_map f (xs ++ ys) ≡ flat_map f xs ++ flat_map f ys
flat_map_over_append f [] ys = refl
flat_map_over_append f (x ∷ xs) ys = ap (λ zs. f x ++ zs) (flat_map_over_append f xs ys) ∙ sym (append_assoc (f x) (flat_map f xs) (flat_map f ys))

-- answers, and then more from what they left
AnswersAre-append : (first second : List ℕ) (coming mid left : ℕ → ℕ) → AnswersAre coming first mid → AnswersAre mid second left → AnswersAre coming (first ++ second) left
AnswersAre-append [] second coming mid left front back = moved second mid coming left front back
  where
    moved : (answers : List ℕ) (mid coming left : ℕ → ℕ) → ((k : ℕ) → mid k ≡ coming k) → AnswersAre mid answers left → AnswersAre coming answers left
    moved [] mid coming left same are = λ k. are k ∙ same k
    moved (answer ∷ answers) mid coming left same are = (are.0 ∙ same 0, moved answers (λ k. mid (k + 1)) (λ k. coming (k + 1)) left (λ k. same (k + 1)) are.1)
AnswersAre-append (answer ∷ first) second coming mid left front back = (front.0, AnswersAre-append first second (λ k. coming (k + 1)) mid left front.1 back)

TakesAnswers-append : (first second : List ℕ) (coming mid left : Option (ℕ → ℕ)) → TakesAnswers coming first mid → TakesAnswers mid second left → TakesAnswers coming (first ++ second) left
TakesAnswers-append first second None None None front back = tt
TakesAnswers-append first second (Some coming) (Some mid) (Some left) front back = AnswersAre-append first second coming mid left front back
TakesAnswers-append first second None None (Some left) front back = absurd back
TakesAnswers-append first second (Some coming) (Some mid) None front back = absurd back
TakesAnswers-append first second None (Some mid) left front back = absurd front
TakesAnswers-append first second (Some coming) None left front back = absurd front

no_answer : (coming : Option (ℕ → ℕ)) → TakesAnswers coming [] coming
no_answer None = tt
no_answer (Some coming) = λ k. refl

pub one_answer : (coming left : Option (ℕ → ℕ)) (answer : ℕ) → TakesAnswer coming left answer → TakesAnswers coming (answer ∷ []) left
one_answer None None answer takes = tt
one_answer (Some coming) (Some left) answer takes = takes
one_answer None (Some left) answer takes = absurd takes
one_answer (Some coming) None answer takes = absurd takes

GoesBy-append : {D : Type 0} (follows : Following D) (syncs : Syncing D) (first second : List Exchange) (d m e : D) → GoesBy follows syncs first d m → GoesBy follows syncs second m e → GoesBy follows syncs (first ++ second) d e
GoesBy-append follows syncs [] second d m e front back = subst (λ x. GoesBy follows syncs second x e) front back
GoesBy-append follows syncs (Asked moment command given manner ∷ first) second d m e front back = (front.0, front.1, front.2, front.3, GoesBy-append follows syncs first second front.2 m e front.4 back)
GoesBy-append follows syncs (Refused moment fault ∷ first) second d m e front back = GoesBy-append follows syncs first second d m e front back
GoesBy-append follows syncs (Wanted moment ∷ first) second d m e front back = GoesBy-append follows syncs first second d m e front back

All-append : (first second : List Exchange) → AllByRecursion IsWrittenIn first → AllByRecursion IsWrittenIn second → AllByRecursion IsWrittenIn (first ++ second)
All-append [] second front back = back
All-append (exchange ∷ first) second front back = (front.0, All-append first second front.1 back)

-- turns, and then more of them
pub Turns-then : {D : Type 0} (follows : Following D) (syncs : Syncing D) (first second : List Exchange) (d m e : D) (old mid new : SessionView) →
    TakesTurns follows syncs first d m old mid → TakesTurns follows syncs second m e mid new → TakesTurns follows syncs (first ++ second) d e old new
Turns-then follows syncs first second d m e old mid new front back = record {
  moments = subst (λ answers. TakesAnswers old.coming answers new.coming) (sym (map_over_append moment_in first second)) (TakesAnswers-append (map moment_in first) (map moment_in second) old.coming mid.coming new.coming front.moments back.moments);
  turned = back.turned ∙ ap (λ turns. turns ++ map turn_taken second) front.turned ∙ append_assoc old.turns (map turn_taken first) (map turn_taken second) ∙ ap (λ turns. old.turns ++ turns) (sym (map_over_append turn_taken first second));
  asked = GoesBy-append follows syncs first second d m e front.asked back.asked;
  written = All-append first second front.written back.written;
}

pub Turns-none : {D : Type 0} (follows : Following D) (syncs : Syncing D) (d : D) (view : SessionView) → TakesTurns follows syncs [] d d view view
Turns-none follows syncs d view = record { moments = no_answer view.coming; turned = sym (append-nil view.turns); asked = refl; written = tt }

Continues-more : (R S : Reading → List Exchange → Type 0) (more : List Exchange) → ((next : Reading) (rest : List Exchange) → R next rest → S next (rest ++ more)) → (came : Option Item × Reading) (exchanges : List Exchange) → Continues R came exchanges → Continues S came (exchanges ++ more)
Continues-more R S more on (None, next) exchanges goes = on next exchanges goes
Continues-more R S more on (Some item, next) [] goes = absurd goes
Continues-more R S more on (Some item, next) (first ∷ exchanges) goes = (goes.0, on (reading_after next first) exchanges goes.1)

BeginsWith-more : (R S : Reading → List Exchange → Type 0) (more : List Exchange) → ((next : Reading) (rest : List Exchange) → R next rest → S next (rest ++ more)) → (reading : Reading) (line : Line) (exchanges : List Exchange) → BeginsByLine R reading line exchanges → BeginsByLine S reading line (exchanges ++ more)
BeginsWith-more R S more on reading line exchanges begins =
    record { came = begins.came; is_read = begins.is_read; comes = begins.comes; goes = Continues-more R S more on begins.came exchanges begins.goes }

-- lines, and then more of them
pub ReadsAs-append : (lines later : List Line) (reading mid last : Reading) (exchanges more : List Exchange) → ReadsThrough lines reading exchanges mid → ReadsThrough later mid more last → ReadsThrough (lines ++ later) reading (exchanges ++ more) last
ReadsAs-append [] later reading mid last exchanges more front back =
    subst (λ t. ReadsThrough later reading (t ++ more) last) (sym front.0) (subst (λ r. ReadsThrough later r more last) front.1 back)
ReadsAs-append (line ∷ lines) later reading mid last exchanges more front back =
    BeginsWith-more (λ next rest. ReadsThrough lines next rest mid) (λ next rest. ReadsThrough (lines ++ later) next rest last) more (λ next rest reads. ReadsAs-append lines later next mid last rest more reads back) reading line exchanges front
