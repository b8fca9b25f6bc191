-- What a check of one thing says of another.
use Rattle.std.proofs.Common.{◌≡◌, ◌+◌, ◌<◌, ℕ, List, ap, ◌∙◌, sym, arith, add-one, drop, get_or, length, ◌∷◌}
use Rattle.std.specs.Prelude.{Result, Ok, Err, MatchResult}
use Rattle.std.proofs.Math.Seq.{drop-cons}
use Rattle.serde_json.specs.Data.{Items, item, no_items}
use Rattle.serde_json.specs.View.{items_view, view}
use Rattle.serde_json.specs.declared.value.Value.{Value}
use Rattle.json_text.specs.declared.fault.JsonFault.{JsonFault}
use Rattle.json_text.specs.declared.fault.ReadFault.{ReadFault}
use Rattle.json_text.specs.declared.fault.ReadFault.TheVariants.{Json, NoMemory}
use Rattle.json_text.specs.Checking.{HasFault}

-- faults of one kind are faults of another
pub each_fault : (P Q : JsonFault → Type 0) → ((f : JsonFault) → P f → Q f) → (r : ReadFault) → HasFault P r → HasFault Q r
each_fault P Q go (Json f) x = go f x
each_fault P Q go NoMemory x = tt

-- a check's result
abbrev pub Checked : {A : Type 0} → Type 0 → (JsonFault → Type 0) → Result A ReadFault → Type 0
Checked Fits Faulty r = MatchResult r (λ _. Fits) (HasFault Faulty)

pub checked_as : {A : Type 0} (P Q : Type 0) (F G : JsonFault → Type 0) → (P → Q) → ((f : JsonFault) → F f → G f) → (r : Result A ReadFault) → Checked P F r → Checked Q G r
checked_as P Q F G fits faults (Ok a) x = fits x
checked_as P Q F G fits faults (Err r) x = each_fault F G faults r x

-- the value that a loop is at, and those behind it
pub items_at : (vs : List Value) (i : ℕ) (v : Value) → i < length vs → v ≡ get_or vs i v → items_view (drop i vs) ≡ item (view v) (items_view (drop (i + 1) vs))
items_at vs i v h e =
    let step : drop i vs ≡ get_or vs i v ∷ drop (i + 1) vs = rw (add-one, drop-cons vs i v)
    in ap items_view step ∙ ap (λ (x : Value). item (view x) (items_view (drop (i + 1) vs))) (sym e)
