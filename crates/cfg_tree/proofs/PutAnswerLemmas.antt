-- A put has one answer, but for want of memory.
use Rattle.std.proofs.Common.{◌≡◌, ◌≢◌, List, refl, sym, ap, ◌∙◌, Option, None, is_some, arith}
use Rattle.std.specs.Prelude.{IsSome}
use Rattle.cfg_base.specs.declared.path.Step.{Step}
use Rattle.cfg_base.specs.declared.value.Value.{Value}
use Rattle.cfg_schema.specs.declared.place.Place.{Place}
use Rattle.cfg_schema.specs.Place.{top_place, place_of}
use Rattle.cfg_tree.specs.declared.fault.TreeFault.{TreeFault}
use Rattle.cfg_tree.specs.declared.fault.TreeFault.TheVariants.{Unknown, BadValue, TooMany, NoMemory}
use Rattle.cfg_tree.specs.Statements.{Statements}
use Rattle.cfg_tree.specs.Change.{FitsProfile, IsPut, IsPutFault}
use Rattle.cfg_tree.proofs.FollowLemmas.{typed_place}

fits_place : (path : List Step) (value : Value) → FitsProfile path value → place_of path ≡ None → ⊥
fits_place path value fits none = let there = typed_place path top_place fits.typed in let clash = sym none ∙ there.1 in cc

no_place : (path : List Step) → place_of path ≡ None → IsSome (place_of path) → ⊥
no_place path none some = let clash = ap (λ (o : Option Place). is_some o) (sym none) ∙ some in cc

-- what is put isn't refused
pub put_or_fault : (m n : Statements) (path : List Step) (value : Value) (fault : TreeFault) → IsPut m n path value → IsPutFault m path value fault → fault ≡ NoMemory
put_or_fault m n path value (Unknown refused) put h = absurd (fits_place path value put.fits h.1)
put_or_fault m n path value (BadValue refused) put h = absurd (h.2 put.fits)
put_or_fault m n path value TooMany put h = let room = put.room h.1 in absurd (omega (arith, room, h.2))
put_or_fault m n path value NoMemory put h = refl

-- a refusal has one cause
pub one_fault : (m : Statements) (path : List Step) (value : Value) (one other : TreeFault) → IsPutFault m path value one → IsPutFault m path value other
    → one ≢ NoMemory → other ≢ NoMemory → one ≡ other
one_fault m path value (Unknown p) (Unknown q) h k a b = ap (λ (x : List Step). Unknown x) (h.0 ∙ sym k.0)
one_fault m path value (Unknown p) (BadValue q) h k a b = absurd (no_place path h.1 k.1)
one_fault m path value (Unknown p) TooMany h k a b = absurd (fits_place path value k.0 h.1)
one_fault m path value (Unknown p) NoMemory h k a b = absurd (b refl)
one_fault m path value (BadValue p) (Unknown q) h k a b = absurd (no_place path k.1 h.1)
one_fault m path value (BadValue p) (BadValue q) h k a b = ap (λ (x : List Step). BadValue x) (h.0 ∙ sym k.0)
one_fault m path value (BadValue p) TooMany h k a b = absurd (h.2 k.0)
one_fault m path value (BadValue p) NoMemory h k a b = absurd (b refl)
one_fault m path value TooMany (Unknown q) h k a b = absurd (fits_place path value h.0 k.1)
one_fault m path value TooMany (BadValue q) h k a b = absurd (k.2 h.0)
one_fault m path value TooMany TooMany h k a b = refl
one_fault m path value TooMany NoMemory h k a b = absurd (b refl)
one_fault m path value NoMemory other h k a b = absurd (a refl)
