-- Names by the shape of their row.
use Rattle.std.proofs.Common.{◌≡◌, ℕ, List, Bool, true, false, Option, Some, None, subst}
use Rattle.std.specs.Prelude.{Result, Ok, Err, IfOk, MatchOption}
use Rattle.cfg_base.specs.declared.kind.Kind.{Kind}
use Rattle.cfg_base.specs.declared.kind.Shape.{Shape}
use Rattle.cfg_base.specs.declared.kind.Shape.TheVariants.{Container, Fixed, Keyed, Bare, Leaf, Flag, Many}
use Rattle.cfg_schema.specs.declared.place.Place.{Place}
use Rattle.cfg_schema.specs.Child.{IsNoHead}
use Rattle.cfg_schema.specs.Profile.{row_of, is_bare}
use Rattle.cfg_tree.specs.Typed.{IsNameOf}
use Rattle.json_text.specs.Said.{IsNameIn}

-- the name, if there is one
abbrev pub Found : {E : Type 0} → (List ℕ → Type 0) → Result (Option (List ℕ)) E → Type 0
Found Name r = IfOk r (λ name. MatchOption name ((other : List ℕ) → ¬ (Name other)) Name)

bare_in : {E : Type 0} (here : Place) (id : ℕ) (shape : Shape) (bytes : List ℕ) (r : Result (Option (List ℕ)) E) → is_bare shape ≡ true
    → Found (λ name. IsNameOf here.in_group (row_of id).name_kind bytes name × IsNoHead here.row here.in_group bytes) r → Found (IsNameIn here id shape bytes) r
bare_in here id Bare bytes r e x = x
bare_in here id Container bytes r e x = cc
bare_in here id Fixed bytes r e x = cc
bare_in here id Keyed bytes r e x = cc
bare_in here id Leaf bytes r e x = cc
bare_in here id Flag bytes r e x = cc
bare_in here id Many bytes r e x = cc

other_in : {E : Type 0} (here : Place) (id : ℕ) (shape : Shape) (bytes : List ℕ) (r : Result (Option (List ℕ)) E) → is_bare shape ≡ false
    → Found (IsNameOf here.in_group (row_of id).name_kind bytes) r → Found (IsNameIn here id shape bytes) r
other_in here id Bare bytes r e x = cc
other_in here id Container bytes r e x = x
other_in here id Fixed bytes r e x = x
other_in here id Keyed bytes r e x = x
other_in here id Leaf bytes r e x = x
other_in here id Flag bytes r e x = x
other_in here id Many bytes r e x = x

-- a name that is no head besides
pub and_no_head : {E : Type 0} (Name : List ℕ → Type 0) (Other : Type 0) (r : Result (Option (List ℕ)) E) → Other → Found Name r → Found (λ name. Name name × Other) r
and_no_head Name Other (Err e) o x = tt
and_no_head Name Other (Ok None) o x = λ other y. x other y.0
and_no_head Name Other (Ok (Some name)) o x = (x, o)

pub bare_named : {E : Type 0} (here : Place) (id : ℕ) (kind : Kind) (bytes : List ℕ) (r : Result (Option (List ℕ)) E) → is_bare (row_of id).shape ≡ true → kind ≡ (row_of id).name_kind
    → Found (λ name. IsNameOf here.in_group kind bytes name × IsNoHead here.row here.in_group bytes) r → Found (IsNameIn here id (row_of id).shape bytes) r
bare_named {E = E} here id kind bytes r e k x =
    bare_in here id (row_of id).shape bytes r e
    (subst (λ (n : Kind). Found {E = E} (λ name. IsNameOf here.in_group n bytes name × IsNoHead here.row here.in_group bytes) r) k x)

pub other_named : {E : Type 0} (here : Place) (id : ℕ) (kind : Kind) (bytes : List ℕ) (r : Result (Option (List ℕ)) E) → is_bare (row_of id).shape ≡ false → kind ≡ (row_of id).name_kind
    → Found (IsNameOf here.in_group kind bytes) r → Found (IsNameIn here id (row_of id).shape bytes) r
other_named {E = E} here id kind bytes r e k x =
    other_in here id (row_of id).shape bytes r e (subst (λ (n : Kind). Found {E = E} (IsNameOf here.in_group n bytes) r) k x)
