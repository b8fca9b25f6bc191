-- The causes of a refused opening exclude each other, and a list that is spelled.
use Rattle.std.proofs.Common.{◌≡◌, ◌≢◌, ◌≤◌, ⊎_elim, ℕ, List, [], ◌∷◌, length, refl, sym, ◌∙◌, ap, arith}
use Rattle.std.proofs.lemmas.List.{get_or_past}
use Rattle.record_code.specs.Record.{Record}
use Rattle.record_code.specs.Reading.{byte, Reads, Spells, first_gate, next_gate, kept_digest, computed_digest}
use Rattle.record_code.proofs.ReadingLemmas.{reads_unique, reads_split}
use Rattle.commit_journal.specs.Pair.{counting_of, PairSpells}
use Rattle.commit_journal.specs.declared.why.AttachWhy.{AttachWhy}
use Rattle.commit_journal.specs.declared.why.AttachWhy.TheVariants.{NotAJournal, Damaged, DiskFault, NoMemory}
use Rattle.commit_journal.specs.Attach.{IsDamage, ExplainsPair, IsRefusal}

past_shut : (f : List ℕ) (last : ℕ) → length f ≤ last → byte f last ≢ 1
past_shut f last le one = absurd (let z : 0 ≡ 1 = sym (get_or_past f last 0 le) ∙ one in omega arith)

-- where records end at a closed gate none of them is damaged
no_damage : (f : List ℕ) (rs rs' : List Record) (last offset : ℕ) (kept computed : List ℕ) → Reads f first_gate rs last → byte f last ≢ 1
    → Reads f first_gate rs' offset → IsDamage f offset offset kept computed → ⊥
no_damage f rs rs' last offset kept computed reads shut reads' damage =
    let rest = reads_split f first_gate rs' rs offset last reads' reads damage.opened shut in
    after rest.0 rest.2
  where
    after : (more : List Record) → Reads f offset more last → ⊥
    after [] here = shut (ap (λ (n : ℕ). byte f n) (sym here) ∙ damage.opened)
    after (r ∷ more) here = damage.differ (damage.kept_is ∙ sym here.0.right ∙ sym damage.computed_is)

no_end : (f : List ℕ) (rs rs' : List Record) (last last' : ℕ) → Spells f rs last → Reads f first_gate rs' last' → length f ≤ last' → ⊥
no_end f rs rs' last last' spells reads le =
    let one = reads_unique f first_gate rs rs' last last' spells.reads reads spells.shut (past_shut f last' le) in
    absurd (omega (arith, one.place, spells.inside))

pub spelled : (a b : List ℕ) (rs : List Record) (why : AttachWhy) → PairSpells a b rs → IsRefusal why → ExplainsPair a b why → ⊥
spelled a b rs (Damaged offset kept computed) spells refusal why =
    no_damage (counting_of a b) rs why.1.0 spells.last offset kept computed spells.spells.reads spells.spells.shut why.1.1 why.1.2
spelled a b rs NotAJournal spells refusal why = ⊎_elim (λ none. none spells.pair) (λ end. no_end (counting_of a b) rs end.1.0 spells.last end.1.1 spells.spells end.1.2 end.1.3) why
spelled a b rs DiskFault spells refusal why = refusal
spelled a b rs NoMemory spells refusal why = refusal

pub apart : (a b : List ℕ) (offset : ℕ) (kept computed : List ℕ) → ExplainsPair a b NotAJournal → ExplainsPair a b (Damaged offset kept computed) → ⊥
apart a b offset kept computed none damaged = ⊎_elim
    (λ not_pair. not_pair damaged.0)
    (λ end. no_damage (counting_of a b) end.1.0 damaged.1.0 end.1.1 offset kept computed end.1.2 (past_shut (counting_of a b) end.1.1 end.1.3) damaged.1.1 damaged.1.2)
    none

-- the first damage is at one place
same_place : (f : List ℕ) (g : ℕ) (rs rs' : List Record) (o o' : ℕ) (kept computed kept' computed' : List ℕ) → Reads f g rs o → Reads f g rs' o'
    → IsDamage f o o kept computed → IsDamage f o' o' kept' computed' → o ≡ o'
same_place f g [] [] o o' kept computed kept' computed' here there damage damage' = sym here ∙ there
same_place f g [] (r ∷ rs') o o' kept computed kept' computed' here there damage damage' =
    absurd (damage.differ (damage.kept_is ∙ ap (kept_digest f) (sym here) ∙ sym there.0.right ∙ ap (computed_digest f) here ∙ sym damage.computed_is))
same_place f g (r ∷ rs) [] o o' kept computed kept' computed' here there damage damage' =
    absurd (damage'.differ (damage'.kept_is ∙ ap (kept_digest f) (sym there) ∙ sym here.0.right ∙ ap (computed_digest f) there ∙ sym damage'.computed_is))
same_place f g (r ∷ rs) (r' ∷ rs') o o' kept computed kept' computed' here there damage damage' =
    same_place f (next_gate f g) rs rs' o o' kept computed kept' computed' here.1 there.1 damage damage'

damaged_same : (f : List ℕ) (rs rs' : List Record) (o o' : ℕ) (kept computed kept' computed' : List ℕ) → Reads f first_gate rs o → Reads f first_gate rs' o'
    → IsDamage f o o kept computed → IsDamage f o' o' kept' computed' → Damaged o kept computed ≡ Damaged o' kept' computed'
damaged_same f rs rs' o o' kept computed kept' computed' reads reads' damage damage' =
    let place = same_place f first_gate rs rs' o o' kept computed kept' computed' reads reads' damage damage' in
    let k : kept ≡ kept' = damage.kept_is ∙ ap (kept_digest f) place ∙ sym damage'.kept_is in
    let d : computed ≡ computed' = damage.computed_is ∙ ap (computed_digest f) place ∙ sym damage'.computed_is in
    ap (λ (n : ℕ). Damaged n kept computed) place ∙ ap (λ (l : List ℕ). Damaged o' l computed) k ∙ ap (λ (l : List ℕ). Damaged o' kept' l) d

-- a refusal whose cause holds is the one that is owed
pub owed : (a b : List ℕ) (answer why : AttachWhy) → ExplainsPair a b answer → IsRefusal why → ExplainsPair a b why → IsRefusal answer → answer ≡ why
owed a b (Damaged o kept computed) (Damaged o' kept' computed') answered refusal cause is =
    damaged_same (counting_of a b) answered.1.0 cause.1.0 o o' kept computed kept' computed' answered.1.1 cause.1.1 answered.1.2 cause.1.2
owed a b (Damaged o kept computed) NotAJournal answered refusal cause is = absurd (apart a b o kept computed cause answered)
owed a b (Damaged o kept computed) DiskFault answered refusal cause is = absurd refusal
owed a b (Damaged o kept computed) NoMemory answered refusal cause is = absurd refusal
owed a b NotAJournal (Damaged o kept computed) answered refusal cause is = absurd (apart a b o kept computed answered cause)
owed a b NotAJournal NotAJournal answered refusal cause is = refl
owed a b NotAJournal DiskFault answered refusal cause is = absurd refusal
owed a b NotAJournal NoMemory answered refusal cause is = absurd refusal
owed a b DiskFault why answered refusal cause is = absurd is
owed a b NoMemory why answered refusal cause is = absurd is
