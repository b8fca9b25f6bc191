-- The members of a whole value.
use Rattle.std.proofs.Common.{◌≡◌, ◌≢◌, ℕ, List, [], ◌∷◌, length, codes, refl, sym, ap, ◌∙◌, Option, Some, None, option_map, Bor, BTreeMap, String, Global, string_bytes, Ordering, Less, Equal, Greater, nat_cmp, arith}
use Rattle.std.specs.Prelude.{MatchOption}
use Rattle.std.specs.Ordering.{match_ordering}
use Rattle.std.specs.Cmp.Lexicographic.{slice_cmp}
use Rattle.std.proofs.lemmas.Map.Lookups.{exact_bytes}
use Rattle.serde_json.specs.Data.{Data, null, boolean, number, string, array, object, Members, no_members, member}
use Rattle.serde_json.specs.Events.{members_len}
use Rattle.serde_json.specs.Find.{get_member, as_object}
use Rattle.serde_json.specs.View.{view, members_view}
use Rattle.serde_json.specs.declared.value.Value.{Value}
use Rattle.serde_json.proofs.Views.{members_len-members_view}
use Rattle.json_text.specs.Faults.{whole}

abbrev pub Entry : Type 0
Entry = String Global × Value

abbrev pub ValueMap : Type 0
ValueMap = BTreeMap (String Global) Value

abbrev pub whole_key : List ℕ
whole_key = codes "configuration"

abbrev pub Only : Data → Members
Only d = member whole_key d no_members

pub not_alone : (es : List Entry) (ms : Members) → length es ≢ 1 → members_view es ≡ Only (object ms) → ⊥
not_alone es ms n e = n (sym (members_len-members_view es) ∙ ap members_len e)

object_is : (d : Data) (ms : Members) → as_object d ≡ Some ms → d ≡ object ms
object_is null ms e = cc
object_is (boolean b) ms e = cc
object_is (number n) ms e = cc
object_is (string s) ms e = cc
object_is (array ds) ms e = cc
object_is (object os) ms e = let same : os ≡ ms = cc in ap object same

only_data : (d e : Data) → Only d ≡ Only e → d ≡ e
only_data d e h = cc

-- of one entry
one_is : (e : Entry) (v : Data) → Some v ≡ get_member whole_key (members_view (e ∷ [])) → members_view (e ∷ []) ≡ Only v
one_is e v h = by_order (slice_cmp nat_cmp whole_key (string_bytes e.0)) refl h
  where
    by_order : (o : Ordering) → slice_cmp nat_cmp whole_key (string_bytes e.0) ≡ o → Some v ≡ match_ordering o None (Some (view e.1)) None → members_view (e ∷ []) ≡ Only v
    by_order Less f k = cc
    by_order Greater f k = cc
    by_order Equal f k =
        let same : v ≡ view e.1 = cc
        in ap (λ (w : List ℕ). member w (view e.1) no_members) (sym (exact_bytes whole_key (string_bytes e.0) f)) ∙ ap (λ (d : Data). Only d) (sym same)

pub only_is : (es : List Entry) (v : Data) → length es ≡ 1 → Some v ≡ get_member whole_key (members_view es) → members_view es ≡ Only v
only_is [] v l h = absurd (omega (arith, l))
only_is (e ∷ d ∷ es) v l h = absurd (omega (arith, l))
only_is (e ∷ []) v l h = one_is e v h

abbrev Answers : Members → Option (Bor ValueMap) → Type 0
Answers ms r = MatchOption r ((inner : Members) → ms ≢ Only (object inner)) (λ inside. ms ≡ Only (object (members_view inside.now.entries)))

pub only_answers : (es : List Entry) (v : Data) (r : Option (Bor ValueMap)) → length es ≡ 1 → Some v ≡ get_member whole_key (members_view es)
    → option_map (λ m. members_view m.now.entries) r ≡ as_object v → Answers (members_view es) r
only_answers es v None l h a = λ inner e.
    let same : v ≡ object inner = only_data v (object inner) (sym (only_is es v l h) ∙ e)
    in let found = a ∙ ap as_object same in cc
only_answers es v (Some m) l h a = only_is es v l h ∙ ap (λ (d : Data). Only d) (object_is v (members_view m.now.entries) (sym a))

-- of a whole value
whole_members : (ms inner : Members) → object ms ≡ whole inner → ms ≡ Only (object inner)
whole_members ms inner e = cc

abbrev WholeAnswers : Data → Option (Bor ValueMap) → Type 0
WholeAnswers d r = MatchOption r ((inner : Members) → d ≢ whole inner) (λ inside. d ≡ whole (members_view inside.now.entries))

pub whole_answers : (d : Data) (ms : Members) (r : Option (Bor ValueMap)) → d ≡ object ms → Answers ms r → WholeAnswers d r
whole_answers d ms None e a = λ inner h. a inner (whole_members ms inner (sym e ∙ h))
whole_answers d ms (Some m) e a = e ∙ ap object a

pub not_whole : (d : Data) → None ≡ as_object d → (inner : Members) → d ≢ whole inner
not_whole d e inner = λ h. let found = e ∙ ap as_object h in cc

pub object_of_view : (d : Data) (ms : Members) → Some ms ≡ as_object d → d ≡ object ms
object_of_view d ms e = object_is d ms (sym e)
