-- The runs that serve no session.
use Rattle.std.proofs.Common.{◌≡◌, ◌≢◌, ◌⊎◌, inl, inr, ⊎_elim, ℕ, Bool, List, [], ◌∷◌, length, codes, get_or, refl, sym, ap, subst, ◌∙◌, arith}
use Rattle.std.proofs.lemmas.List.{length-map}
use Rattle.command_line.specs.Asked.{Asks, name_of}
use Rattle.command_line.specs.Asked.{users_of as users_asked}
use Rattle.command_line.specs.Given.{given}
use Rattle.command_line.specs.declared.asked.Asked.{Asked}
use Rattle.command_line.specs.declared.asked.RunMode.{RunMode}
use Rattle.command_line.specs.declared.asked.RunMode.TheVariants.{Init, Serve, Check, Gen}
use Rattle.cfg_base.specs.declared.kind.Kind.TheVariants.{Number}
use Rattle.cfg_values.specs.Number.{IsNumberWithin}
use Rattle.cfg_values.specs.Spelling.{IsSpelling}
use Rattle.disk_model.specs.Disk.{DiskView}
use Rattle.disk_model.specs.Pair.{DiskPair, pair_of}
use Rattle.io_edge.specs.Ends.{SinkView}
use Rattle.modes.specs.declared.did.StartWhy0.{StartWhy0}
use Rattle.modes.specs.Modes.{IsCheck, IsInit, IsTold, start_status}
use Rattle.session_history.specs.declared.history.History.{History}
use Rattle.session_shell.specs.declared.end.End.{End}
use Rattle.stored_ledger.specs.declared.why.StartWhy.{StartWhy}
use Rattle.stored_ledger.specs.declared.why.StartWhy.TheVariants.{Exists, NotAJournal, Damaged, BadRecord, DiskFault, NoMemory}
use Rattle.session_threads.specs.Results.{users_of_ends}
use Rattle.service.specs.Modes.{IsGen, RunsIn, RunsMode}
use Rattle.service.specs.World.{Told, Views, World}

first_byte : (a b : List ℕ) → a ≡ b → get_or a 0 0 ≡ get_or b 0 0
first_byte a b is = ap (λ (l : List ℕ). get_or l 0 0) is

-- each mode has a name of its own
named_serve : (mode : RunMode) → name_of mode ≡ codes "serve" → mode ≡ Serve
named_serve Init is = absurd (let other : 105 ≡ 115 = first_byte (codes "init") (codes "serve") is in omega (arith, other))
named_serve Serve is = refl
named_serve Check is = absurd (let other : 99 ≡ 115 = first_byte (codes "check") (codes "serve") is in omega (arith, other))
named_serve Gen is = absurd (let other : 103 ≡ 115 = first_byte (codes "gen") (codes "serve") is in omega (arith, other))

-- with another mode there is one user
one_user : (words : List (List ℕ)) (asked : Asked) → Asks words asked → asked.mode ≢ Serve → length asked.users ≡ 1
one_user words asked asks other = ⊎_elim
    (λ none. ap length (asks.meant.users ∙ ap (users_asked (given words).user) none))
    (λ served. absurd (other (named_serve asked.mode (sym asks.meant.mode ∙ served))))
    asks.meant.served

-- as many ends as users
pub ends_are : {S K C : Type 0} (ends : List (End S K C)) (users : List (List ℕ)) → users_of_ends ends ≡ users → length ends ≡ length users
ends_are ends users is = sym (length-map ends (λ end. end.user)) ∙ ap length is

-- and one end
pub one_end : {S K C : Type 0} (words : List (List ℕ)) (ends : List (End S K C)) (asked : Asked) → users_of_ends ends ≡ asked.users
    → Asks words asked → asked.mode ≢ Serve → length ends ≡ 1
one_end words ends asked are asks other = ends_are ends asked.users are ∙ one_user words asked asks other

pub some_user : (words : List (List ℕ)) (asked : Asked) → Asks words asked → asked.mode ≢ Serve → length asked.users ≡ 1
some_user words asked asks other = one_user words asked asks other

-- no status of these modes is that of words that ask nothing
pub refused_is_not_1 : (why : StartWhy) → start_status why ≡ 1 → ⊥
refused_is_not_1 Exists is = omega (arith, is)
refused_is_not_1 NotAJournal is = omega (arith, is)
refused_is_not_1 (Damaged offset kept computed) is = omega (arith, is)
refused_is_not_1 (BadRecord offset) is = omega (arith, is)
refused_is_not_1 DiskFault is = omega (arith, is)
refused_is_not_1 NoMemory is = omega (arith, is)

told_is_not_1 : (text : List ℕ) (old new : SinkView) (status : ℕ) → IsTold text old new status → status ≡ 1 → ⊥
told_is_not_1 text old new status (inl whole) is = omega (arith, is, whole.0)
told_is_not_1 text old new status (inr cut) is = omega (arith, is, cut.status_is)

-- of words that ask for a number in mode gen
runs_is_not_1 : (Untouched : Type 0) (mode : RunMode) (asked : Asked) (old new : SinkView) (before after : DiskPair) (told : Told)
    → (mode ≡ Gen → (number : ℕ) × IsNumberWithin 1 3000 asked.place number)
    → RunsIn Untouched mode asked old new before after told → told.status ≡ 1 → ⊥
runs_is_not_1 Untouched Init asked old new before after told spelled (inl refused, empty) is =
    refused_is_not_1 refused.0 (sym refused.1.status_is ∙ is)
runs_is_not_1 Untouched Init asked old new before after told spelled (inr made, empty) is =
    told_is_not_1 _ old new told.status made.1 is
runs_is_not_1 Untouched Check asked old new before after told spelled (inl refused, empty) is =
    refused_is_not_1 refused.0 (sym refused.1.status_is ∙ is)
runs_is_not_1 Untouched Check asked old new before after told spelled (inr found, empty) is =
    ⊎_elim (λ whole. told_is_not_1 _ old new told.status whole is) (λ untold. omega (arith, is, untold.0)) found.3
runs_is_not_1 Untouched Gen asked old new before after told spelled ran is =
    let number = spelled refl in
    ⊎_elim (λ none. omega (arith, is, none.0)) (λ made. told_is_not_1 made.0 old new told.status made.2 is) (ran number.0 number.1)
runs_is_not_1 Untouched Serve asked old new before after told spelled ran is = ran

-- the place of mode gen says a number
pub place_of : (words : List (List ℕ)) (asked : Asked) → Asks words asked → asked.mode ≡ Gen → IsSpelling (Number 1 3000) asked.place
place_of words asked asks is = subst (λ (l : List ℕ). IsSpelling (Number 1 3000) l) (sym asks.meant.place) (asks.meant.number (asks.meant.mode ∙ ap name_of is))

-- the number that the place of mode gen says
pub number_asked : (words : List (List ℕ)) (asked : Asked) → Asks words asked → asked.mode ≡ Gen
    → (number : ℕ) × IsNumberWithin 1 3000 asked.place number
number_asked words asked asks gen = let spelled = asks.meant.number (asks.meant.mode ∙ ap name_of gen) in
    (spelled.value, subst (λ (l : List ℕ). IsNumberWithin 1 3000 l spelled.value) (sym asks.meant.place) spelled.spells)

pub mode_is_not_1 : {E T D : Type 0} (see : Views E T D) (SinkAlone : E → E → Type 0) (words : List (List ℕ)) (asked : Asked)
    (before after : World E T D) (told : Told) → Asks words asked → RunsMode see SinkAlone asked before after told
    → told.status ≡ 1 → ⊥
mode_is_not_1 see SinkAlone words asked before after told asks runs is =
    runs_is_not_1 (runs.new ≡ runs.old) asked.mode asked (see.end runs.old).sink (see.end runs.new).sink
    (see.disks before.a before.b) (see.disks after.a after.b) told
    (number_asked words asked asks) runs.ran is

-- the only one of a list
pub the_one : {X : Type 0} (xs : List X) (x : X) → length xs ≡ 1 → x ≡ get_or xs 0 x → xs ≡ x ∷ []
the_one [] x one is = absurd (omega (arith, one))
the_one (y ∷ []) x one is = ap (λ z. z ∷ []) (sym is)
the_one (y ∷ (z ∷ xs)) x one is = absurd (omega (arith, one))

-- what is handed back of two disks, with a status and a cause
pub handed_back : {D : Type 0} (view : D → DiskView) (P : DiskPair → ℕ → StartWhy0 → Type 0) (a a' b b' : D) (status status' : ℕ)
    (why why' : StartWhy0) → a' ≡ a → b' ≡ b → status' ≡ status → why' ≡ why → P (pair_of view a b) status why
    → P (pair_of view a' b') status' why'
handed_back view P a a' b b' status status' why why' same_a same_b same_status same_why is =
    subst (λ d. P (pair_of view d b') status' why') (sym same_a)
    (subst (λ d. P (pair_of view a d) status' why') (sym same_b)
    (subst (λ n. P (pair_of view a b) n why') (sym same_status) (subst (λ w. P (pair_of view a b) status w) (sym same_why) is)))

-- an end whose sink wasn't called is as it was
pub untouched_end : {S K C : Type 0} (end : End S K C) (sink : K) → sink ≡ end.sink → record end { sink = sink } ≡ end
untouched_end {S} {K} end sink same = ap (λ (k : K). record end { sink = k }) same

pub init_by : (U V : Type 0) → (U → V) → (old new : SinkView) (before after : DiskPair) (status : ℕ) (why : StartWhy0)
    → IsInit U old new before after status why → IsInit V old new before after status why
init_by U V by old new before after status why (inl (cause, refused, not)) =
    inl (cause, record { same = by refused.same; told = refused.told; status_is = refused.status_is }, not)
init_by U V by old new before after status why (inr made) = inr made

pub check_by : (U V : Type 0) → (U → V) → (old new : SinkView) (before after : DiskPair) (status : ℕ) (why : StartWhy0)
    → IsCheck U old new before after status why → IsCheck V old new before after status why
check_by U V by old new before after status why (inl (cause, refused, not)) =
    inl (cause, record { same = by refused.same; told = refused.told; status_is = refused.status_is }, not)
check_by U V by old new before after status why (inr (no_why, kept, found, inl whole)) = inr (no_why, kept, found, inl whole)
check_by U V by old new before after status why (inr (no_why, kept, found, inr untold)) =
    inr (no_why, kept, found, inr (untold.0, by untold.1))

-- what is said of the number that a place says holds of each number that it says
pub gen_ran : (U V : Type 0) → (U → V) → (place : List ℕ) (count status status' : ℕ) (users : List (List ℕ)) (old new : SinkView)
    (all all' : History) → IsNumberWithin 1 3000 place count → IsGen U count users old new status all → status' ≡ status
    → all' ≡ all → (number : ℕ) → IsNumberWithin 1 3000 place number → IsGen V number users old new status' all'
gen_ran U V by place count status status' users old new all all' counted is status_is all_is number says =
    subst (λ (n : ℕ). IsGen V number users old new n all') (sym status_is)
    (subst (λ (h : History). IsGen V number users old new status h) (sym all_is)
    (subst (λ (n : ℕ). IsGen V n users old new status all) (counted.read.value ∙ sym says.read.value) (by_sum is)))
  where
    by_sum : IsGen U count users old new status all → IsGen V count users old new status all
    by_sum (inl none) = inl (none.0, by none.1, none.2)
    by_sum (inr made) = inr made

pub init_apart : Init ≡ Serve → ⊥
init_apart is = let other : 105 ≡ 115 = first_byte (codes "init") (codes "serve") (ap name_of is) in omega (arith, other)

pub check_apart : Check ≡ Serve → ⊥
check_apart is = let other : 99 ≡ 115 = first_byte (codes "check") (codes "serve") (ap name_of is) in omega (arith, other)

pub gen_apart : Gen ≡ Serve → ⊥
gen_apart is = let other : 103 ≡ 115 = first_byte (codes "gen") (codes "serve") (ap name_of is) in omega (arith, other)

pub init_is_not_gen : Init ≡ Gen → ⊥
init_is_not_gen is = let other : 105 ≡ 103 = first_byte (codes "init") (codes "gen") (ap name_of is) in omega (arith, other)

pub check_is_not_gen : Check ≡ Gen → ⊥
check_is_not_gen is = let other : 99 ≡ 103 = first_byte (codes "check") (codes "gen") (ap name_of is) in omega (arith, other)
