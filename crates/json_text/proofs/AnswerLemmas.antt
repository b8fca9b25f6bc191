-- A text has one answer.
use Rattle.std.proofs.Common.{◌≡◌, ◌≤◌, ◌<◌, ℕ, List, refl, sym, ap, subst, ◌∙◌, Some, arith}
use Rattle.cfg_tree.specs.Statements.{Statements, size_of}
use Rattle.cfg_tree.specs.declared.limit.TheConstants.{MAX_STATEMENTS}
use Rattle.serde_json.specs.Data.{Data}
use Rattle.serde_json.specs.Read.{read}
use Rattle.json_text.specs.declared.fault.JsonFault.{JsonFault}
use Rattle.json_text.specs.declared.fault.JsonFault.TheVariants.{NotJson, Unknown, BadValue, Form, TooMany}
use Rattle.json_text.specs.Faults.{IsFirstFault}
use Rattle.json_text.specs.Reading.{IsJson, IsReadAs, SaysTooMany, HasFirstFault, IsTextFault}
use Rattle.json_text.specs.Said.{Says}
use Rattle.json_text.proofs.ApartLemmas as apart
use Rattle.json_text.proofs.OneFaultLemmas as single
use Rattle.json_text.proofs.OneLemmas.{some_same, one_said}

one_value : (text : List ℕ) (d e : Data) → IsJson text d → IsJson text e → d ≡ e
one_value text d e x y = some_same d e (sym x.is ∙ y.is)

pub one_map : (text : List ℕ) (m n : Statements) → IsReadAs text m → IsReadAs text n → m ≡ n
one_map text m n x y =
    let same : x.value ≡ y.value = one_value text x.value y.value x.json y.json in
    one_said y.value m n (subst (λ (d : Data). Says d m) same x.says) y.says

-- one that is read, and one that isn't
many_apart : (text : List ℕ) (m : Statements) → IsReadAs text m → SaysTooMany text → ⊥
many_apart text m x y =
    let same : x.value ≡ y.value = one_value text x.value y.value x.json y.json in
    let maps : m ≡ y.statements = one_said y.value m y.statements (subst (λ (d : Data). Says d m) same x.says) y.says in
    let few : size_of y.statements ≤ MAX_STATEMENTS = subst (λ (s : Statements). size_of s ≤ MAX_STATEMENTS) maps x.few in
    let many : MAX_STATEMENTS < size_of y.statements = y.many in
    absurd (omega (arith, few, many))

first_apart : (text : List ℕ) (m : Statements) (fault : JsonFault) → IsReadAs text m → HasFirstFault text fault → ⊥
first_apart text m fault x y =
    let same : x.value ≡ y.value = one_value text x.value y.value x.json y.json in
    apart.fault_apart y.value fault m y.first (subst (λ (d : Data). Says d m) same x.says)

pub fault_apart : (text : List ℕ) (m : Statements) (fault : JsonFault) → IsReadAs text m → ¬ (IsTextFault text fault)
fault_apart text m NotJson x = λ none. none x.value x.json
fault_apart text m TooMany x = λ many. many_apart text m x many
fault_apart text m (Unknown path) x = λ first. first_apart text m (Unknown path) x first
fault_apart text m (BadValue path) x = λ first. first_apart text m (BadValue path) x first
fault_apart text m (Form path) x = λ first. first_apart text m (Form path) x first

-- two faults
first_one : (text : List ℕ) (f g : JsonFault) → HasFirstFault text f → HasFirstFault text g → f ≡ g
first_one text f g x y =
    let same : x.value ≡ y.value = one_value text x.value y.value x.json y.json in
    single.one_fault y.value f g (subst (λ (d : Data). IsFirstFault d f) same x.first) y.first

first_many : (text : List ℕ) (f : JsonFault) → HasFirstFault text f → SaysTooMany text → ⊥
first_many text f x y =
    let same : x.value ≡ y.value = one_value text x.value y.value x.json y.json in
    apart.fault_apart y.value f y.statements (subst (λ (d : Data). IsFirstFault d f) same x.first) y.says

-- the three kinds of fault
data Kind (text : List ℕ) (f : JsonFault) : Type 0 where
  NoValue : ((d : Data) → ¬ (IsJson text d)) → f ≡ NotJson → Kind text f
  Many : SaysTooMany text → f ≡ TooMany → Kind text f
  First : HasFirstFault text f → Kind text f

kind_of : (text : List ℕ) (f : JsonFault) → IsTextFault text f → Kind text f
kind_of text NotJson x = NoValue x refl
kind_of text TooMany x = Many x refl
kind_of text (Unknown path) x = First x
kind_of text (BadValue path) x = First x
kind_of text (Form path) x = First x

one_of : (text : List ℕ) (f g : JsonFault) → Kind text f → Kind text g → f ≡ g
one_of text f g (NoValue x e) (NoValue y h) = e ∙ sym h
one_of text f g (NoValue x e) (Many y h) = absurd (x y.value y.json)
one_of text f g (NoValue x e) (First y) = absurd (x y.value y.json)
one_of text f g (Many x e) (NoValue y h) = absurd (y x.value x.json)
one_of text f g (Many x e) (Many y h) = e ∙ sym h
one_of text f g (Many x e) (First y) = absurd (first_many text g y x)
one_of text f g (First x) (NoValue y h) = absurd (y x.value x.json)
one_of text f g (First x) (Many y h) = absurd (first_many text f x y)
one_of text f g (First x) (First y) = first_one text f g x y

pub one_fault : (text : List ℕ) (f g : JsonFault) → IsTextFault text f → IsTextFault text g → f ≡ g
one_fault text f g x y = one_of text f g (kind_of text f x) (kind_of text g y)
