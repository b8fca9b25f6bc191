-- The marks of a statement, as they are written, say which marks it has.
use Rattle.std.proofs.Common.{◌≡◌, ◌<◌, ℕ, Bool, true, false, cond, List, [], ◌∷◌, length, refl, sym, ap, subst, Option, Some, None, arith}
use Rattle.std.specs.List.{IsDistinct}
use Rattle.cfg_base.specs.Words.{lists}
use Rattle.cfg_base.specs.declared.value.Value.{Value}
use Rattle.cfg_schema.proofs.TestLemmas.{same_is}
use Rattle.serde_json.specs.Data.{Data, array}
use Rattle.serde_json.specs.View.{items_of}
use Rattle.json_text.specs.Written.{strings, marks_set, listed, marks_at}
use Rattle.json_text.specs.Said.{AreMarks, IsMarked}
use Rattle.json_text.proofs.LookLemmas.{last_with, Among}

some_marks : (i p : Bool) → 0 < length (marks_set i p) → AreMarks (marks_set i p) i p
unfolding IsDistinct
some_marks true true h = record { some = h; once = ((refl, tt), (tt, tt)); known = (refl, (refl, tt)); is_inactive = refl; is_protected = refl }
some_marks true false h = record { some = h; once = (tt, tt); known = (refl, tt); is_inactive = refl; is_protected = refl }
some_marks false true h = record { some = h; once = (tt, tt); known = (refl, tt); is_inactive = refl; is_protected = refl }
some_marks false false h = absurd (omega (arith, h))

pub found_at : (key : List ℕ) (d : Data) → last_with key None ((key, d) ∷ []) ≡ Some d
found_at key d = ap (λ (b : Bool). cond b (Some d) None) (same_is key key refl)

by_marks : (key : List ℕ) (i p : Bool) → IsMarked (last_with key None (listed key (strings (marks_set i p)))) i p
by_marks key true true =
    subst (λ (o : Option Data). IsMarked o true true) (sym (found_at key (array (items_of (strings (marks_set true true))))))
    (record { words = marks_set true true; is = refl; marks = some_marks true true (omega arith) })
by_marks key true false =
    subst (λ (o : Option Data). IsMarked o true false) (sym (found_at key (array (items_of (strings (marks_set true false))))))
    (record { words = marks_set true false; is = refl; marks = some_marks true false (omega arith) })
by_marks key false true =
    subst (λ (o : Option Data). IsMarked o false true) (sym (found_at key (array (items_of (strings (marks_set false true))))))
    (record { words = marks_set false true; is = refl; marks = some_marks false true (omega arith) })
by_marks key false false = (refl, refl)

-- the marks at a key
pub marked : (key : List ℕ) (value : Value) → IsMarked (last_with key None (marks_at key value)) value.inactive value.protected
marked key value = by_marks key value.inactive value.protected

among_by : (keys : List (List ℕ)) (key : List ℕ) (i p : Bool) → lists keys key ≡ true → Among keys (listed key (strings (marks_set i p)))
among_by keys key true true h = (h, tt)
among_by keys key true false h = (h, tt)
among_by keys key false true h = (h, tt)
among_by keys key false false h = tt

pub marks_among : (keys : List (List ℕ)) (key : List ℕ) (value : Value) → lists keys key ≡ true → Among keys (marks_at key value)
marks_among keys key value h = among_by keys key value.inactive value.protected h
