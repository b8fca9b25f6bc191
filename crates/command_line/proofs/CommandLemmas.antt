-- The command is one of which clap says exactly what it takes and finds.
use Rattle.std.proofs.Common.{◌≡◌, ◌≢◌, ⊎_elim, refl, true, List, [], ◌∷◌, length, ap, subst, ◌∙◌, Ok, Err, arith}
use Rattle.std.specs.Prelude.{Result, IfOk, IfErr}
use Rattle.clap.specs.Words.{App, Text, Kinds, FailsBy, IsAmong, HasMatchesOf, fault_of, found_of, is_simple, is_simple_and_free, kind_of, matches_of, rows_of}
use Rattle.clap.specs.declared.error.Error.{Error}
use Rattle.clap.specs.declared.parser.matches.ArgMatches.{ArgMatches}
use Rattle.clap.specs.declared.error.kind.ErrorKind.{ErrorKind}
use Rattle.clap.specs.declared.error.kind.ErrorKind.TheVariants.{OutOfMemory}
use Rattle.clap.proofs.OnLiterals.{clap_on_literals}
use Rattle.command_line.specs.Command.{confd, faults_in, rows_in}

is_plain : is_simple_and_free confd ≡ true
unfolding clap_on_literals
is_plain = refl

is_whole : is_simple confd ≡ true
unfolding clap_on_literals
is_whole = refl

among_some : (k : ErrorKind) (kinds : Kinds) → IsAmong k kinds → kinds ≢ []
among_some k [] is none = is
among_some k (x ∷ kinds) is none = absurd (let e = ap length none in omega (arith, e))

takes : {T : Type 0} → (r : Result T Error) (kinds : Kinds) → FailsBy kinds r → IfOk r (λ _. kinds ≡ [])
takes (Ok x) kinds fails = fails
takes (Err e) kinds fails = tt

refuses : {T : Type 0} → (r : Result T Error) (kinds : Kinds) → FailsBy kinds r → IfErr r (λ e. kind_of e ≢ OutOfMemory → kinds ≢ [])
refuses (Ok x) kinds fails = tt
refuses (Err e) kinds fails = ⊎_elim (λ memory other. absurd (other memory)) (λ among other. among_some (kind_of e) kinds among) fails

module _ (app : App) (words : List Text) (is : app ≡ confd) where
  by_command : {T : Type 0} → (r : Result T Error) → (is_simple_and_free app ≡ true → FailsBy (fault_of app words) r) → FailsBy (fault_of confd words) r
  by_command r fails = subst (λ a. FailsBy (fault_of a words) r) is (fails (ap is_simple_and_free is ∙ is_plain))

  pub taken_without_fault : {T : Type 0} → (r : Result T Error) → (is_simple_and_free app ≡ true → FailsBy (fault_of app words) r) → IfOk r (λ _. faults_in words ≡ [])
  unfolding faults_in
  taken_without_fault r fails = takes r (fault_of confd words) (by_command r fails)

  pub refused_for_fault : {T : Type 0} → (r : Result T Error) → (is_simple_and_free app ≡ true → FailsBy (fault_of app words) r)
      → IfErr r (λ e. kind_of e ≢ OutOfMemory → faults_in words ≢ [])
  unfolding faults_in
  refused_for_fault r fails = refuses r (fault_of confd words) (by_command r fails)

  pub rows_are : (m : ArgMatches) → HasMatchesOf app words m → rows_of (found_of m) ≡ rows_in words
  unfolding rows_in
  rows_are m has = (has (ap is_simple is ∙ is_whole)).0 ∙ ap (λ a. matches_of a words) is
