use Rattle.std.proofs.Common.{rules, ◌≡◌, ◌≤◌, ◌<◌, ◌+◌, ◌-◌, ◌*◌, ℕ, List, length, [], ◌∷◌, drop, IsUtf8, string_bytes, Err, Option, Some, option_map, false, arith, refl, sym, ap, subst, ◌∙◌, get_or}
use Rattle.cfg_schema.specs.declared.rows.Row.{Row}
use Rattle.cfg_schema.specs.Profile.{row_of, head_of, is_level}
use Rattle.cfg_tree.specs.Tree.{step_of}
use Rattle.cfg_tree.specs.Typed.{IsNameOf}
use Rattle.serde_json.specs.Data.{Data, string}
use Rattle.serde_json.specs.Find.{get_member}
use Rattle.serde_json.specs.View.{view, items_view}
use Rattle.serde_json.specs.declared.value.Value.{Value, the_lemmas}
use Rattle.json_text.specs.Keys.{key_of, marks_key, name_key, level_marks_key}
use Rattle.json_text.specs.Collecting.{AreWordsIn, TellsEach, TellsNamed, members_in, spot_in}
use Rattle.json_text.specs.Said.{IsMarked, SaysInside, SaysLevel, SaysRowIf, SaysRows, SaysWords, value_said}
use Rattle.json_text.proofs.CollectingLemmas.{each_at, each_split, each_end, goes_all, goes_as, goes_from, goes_on, goes_whole, goes_wrong, inside_rows, levels_some, level_split, named_level, row_there}
use Rattle.json_text.proofs.TextLemmas.{low_text}
use Rattle.json_text.proofs.collecting.+collecting.Goals as goal

pub collect_inside-overflow_sub-fewer : goal.collect_inside-overflow_sub-fewer
collect_inside-overflow_sub-fewer t c = levels_some c.args.levels _ _ c.requires.says.0 c.requires.says.1

pub collect_inside-collect_rows-requires : goal.collect_inside-collect_rows-requires
collect_inside-collect_rows-requires t c =
    let some = levels_some c.args.levels _ _ c.requires.says.0 c.requires.says.1
    in let fewer : 7 * (c.args.levels - 1) + 6 < t = omega (arith, some, c.decreases)
    in let room : length c.args.here.now.path + (c.args.levels - 1) < 16 = let r = c.requires.room in omega (arith, some, r)
    in let rows = c.deref.ensures.value ∙ c.in_ok-rows.ensures
    in (
      fewer,
      (
        room,
        (
          c.requires.says.0,
          subst (λ (ids : List ℕ). SaysRows (SaysInside (c.args.levels - 1)) (spot_in c.args.here.now) (members_in (view c.args.value.now)) ids c.requires.says.0) (sym rows)
              (inside_rows c.args.levels (members_in (view c.args.value.now)) (spot_in c.args.here.now) c.requires.says.0 c.requires.says.1),
        ),
      ),
    )

pub collect_inside-returns : goal.collect_inside-returns
collect_inside-returns t c =
    let rows = c.deref.ensures.value ∙ c.in_ok-rows.ensures
    in goes_as (SaysInside c.args.levels (members_in (view c.args.value.now)) (spot_in c.args.here.now))
    (SaysRows (SaysInside (c.args.levels - 1)) (spot_in c.args.here.now) (members_in (view c.args.value.now)) c.deref.result.now)
    (λ told h.
    subst (λ (ids : List ℕ). SaysRows (SaysInside (c.args.levels - 1)) (spot_in c.args.here.now) (members_in (view c.args.value.now)) ids told) (sym rows)
    (inside_rows c.args.levels (members_in (view c.args.value.now)) (spot_in c.args.here.now) told h))
    c.args.items.now c.collect_rows.new.items c.collect_rows.result c.collect_rows.ensures

pub collect_each-collect_named-requires : goal.collect_each-collect_named-requires
collect_each-collect_named-requires t c =
    let fewer : 7 * c.args.levels + 2 < t = omega (arith, c.decreases)
    in let within = subst (λ (xs : List Value). c.loop-object.object-index < length xs) c.deref-object-items.ensures.value c.loop-object-test.true
    in let is = subst (λ (xs : List Value). c.object-item.result ≡ get_or xs c.loop-object.object-index c.object-item.result) c.deref-object-items.ensures.value c.object-item.is
    in let left = c.loop-object.invariant c.requires.says.0 c.requires.says.1
    in let part = each_split c.args.levels (spot_in c.args.here.now) c.args.id c.args.objects.now.items c.loop-object.object-index c.object-item.result within left.0 left.1
    in (
      fewer,
      (
        c.requires.room,
        (
          part.0,
          subst (λ (v : Value). TellsNamed c.args.levels (spot_in c.args.here.now) c.args.id (members_in (view v)) part.0) (sym is) part.2,
        ),
      ),
    )

pub collect_each-returns-in_err-collect_named : goal.collect_each-returns-in_err-collect_named
collect_each-returns-in_err-collect_named t c =
    let within = subst (λ (xs : List Value). c.loop-object.object-index < length xs) c.deref-object-items.ensures.value c.loop-object-test.true
    in let is = subst (λ (xs : List Value). c.object-item.result ≡ get_or xs c.loop-object.object-index c.object-item.result) c.deref-object-items.ensures.value c.object-item.is
    in let same : c.from_residual.result ≡ Err c.in_err-collect_named.field-0.0 = search rules
    in goes_wrong (TellsEach c.args.levels (spot_in c.args.here.now) c.args.id (items_view c.args.objects.now.items))
    (TellsEach c.args.levels (spot_in c.args.here.now) c.args.id (items_view (drop c.loop-object.object-index c.args.objects.now.items)))
    c.args.items.now c.loop-object.items c.loop-object.invariant
    (TellsNamed c.args.levels (spot_in c.args.here.now) c.args.id (members_in (view c.object-item.result)))
    (TellsEach c.args.levels (spot_in c.args.here.now) c.args.id (items_view (drop (c.loop-object.object-index + 1) c.args.objects.now.items)))
    (each_at c.args.levels (spot_in c.args.here.now) c.args.id c.args.objects.now.items c.loop-object.object-index c.object-item.result within is)
    c.collect_named.new.items c.in_err-collect_named.field-0.0 c.from_residual.result same c.in_err-collect_named.ensures

pub collect_each-loop-object-preserved : goal.collect_each-loop-object-preserved
collect_each-loop-object-preserved t c =
    let within = subst (λ (xs : List Value). c.loop-object.object-index < length xs) c.deref-object-items.ensures.value c.loop-object-test.true
    in let is = subst (λ (xs : List Value). c.object-item.result ≡ get_or xs c.loop-object.object-index c.object-item.result) c.deref-object-items.ensures.value c.object-item.is
    in goes_on (TellsEach c.args.levels (spot_in c.args.here.now) c.args.id (items_view c.args.objects.now.items))
    (TellsEach c.args.levels (spot_in c.args.here.now) c.args.id (items_view (drop c.loop-object.object-index c.args.objects.now.items)))
    c.args.items.now c.loop-object.items c.loop-object.invariant
    (TellsNamed c.args.levels (spot_in c.args.here.now) c.args.id (members_in (view c.object-item.result)))
    (TellsEach c.args.levels (spot_in c.args.here.now) c.args.id (items_view (drop (c.loop-object.object-index + 1) c.args.objects.now.items)))
    (each_at c.args.levels (spot_in c.args.here.now) c.args.id c.args.objects.now.items c.loop-object.object-index c.object-item.result within is)
    c.collect_named.new.items c.in_ok-collect_named.ensures

pub collect_each-returns : goal.collect_each-returns
collect_each-returns t c =
    let past : length c.args.objects.now.items ≤ c.loop-object.object-index =
    subst (λ (xs : List Value). length xs ≤ c.loop-object.object-index) c.deref-object-items.ensures.value (omega (arith, c.loop-object-test.false))
    in goes_all (TellsEach c.args.levels (spot_in c.args.here.now) c.args.id (items_view c.args.objects.now.items))
    (TellsEach c.args.levels (spot_in c.args.here.now) c.args.id (items_view (drop c.loop-object.object-index c.args.objects.now.items)))
    c.args.items.now c.loop-object.items c.loop-object.invariant
    (λ told h. each_end c.args.levels (spot_in c.args.here.now) c.args.id c.args.objects.now.items c.loop-object.object-index told past h)

pub collect_level-member-marks-requires : goal.collect_level-member-marks-requires
collect_level-member-marks-requires t c =
    let same : c.as_slice.result.now ≡ level_marks_key = search rules
    in subst (λ (w : List ℕ). IsUtf8 w) (sym same) (low_text level_marks_key refl)

pub collect_level-returns-in_err-push : goal.collect_level-returns-in_err-push
collect_level-returns-in_err-push t c =
    let marks : option_map (λ v. view v.now) c.member-marks.result ≡ get_member level_marks_key (members_in (view c.args.value.now)) = search rules
    in let at : c.in_ok-clone.field-0 ≡ c.in_ok-child.child.path = search rules
    in let none : c.new.result ≡ [] = search rules
    in let same : c.from_residual-in_err-push.result ≡ Err c.in_err-push.field-0.0 = search rules
    in goes_wrong (SaysLevel (SaysInside c.args.levels) (spot_in c.args.here.now) c.args.id c.args.step (members_in (view c.args.value.now)))
    (SaysLevel (SaysInside c.args.levels) (spot_in c.args.here.now) c.args.id c.args.step (members_in (view c.args.value.now)))
    c.args.items.now c.args.items.now (goes_from _ c.args.items.now)
    (λ told. told ≡ (c.in_ok-clone.field-0, c.value_in-own.result) ∷ [])
    (SaysInside c.args.levels (members_in (view c.args.value.now)) (spot_in c.in_ok-child.child))
    (level_split c.args.levels (spot_in c.args.here.now) (spot_in c.in_ok-child.child) c.args.id c.args.step (members_in (view c.args.value.now))
    c.in_ok-clone.field-0 c.value_in-own.result c.in_ok-child.ensures at
    (λ i p h.
    c.value_in-own.ensures i p (subst (λ (o : Option Data). IsMarked o i p) (sym marks) h) ∙ ap (λ (ws : List (List ℕ)). value_said i p ws) none))
    c.push.new.self c.in_err-push.field-0.0 c.from_residual-in_err-push.result same c.in_err-push.ensures

pub collect_level-returns : goal.collect_level-returns
collect_level-returns t c =
    let marks : option_map (λ v. view v.now) c.member-marks.result ≡ get_member level_marks_key (members_in (view c.args.value.now)) = search rules
    in let at : c.in_ok-clone.field-0 ≡ c.in_ok-child.child.path = search rules
    in let none : c.new.result ≡ [] = search rules
    in goes_whole (SaysLevel (SaysInside c.args.levels) (spot_in c.args.here.now) c.args.id c.args.step (members_in (view c.args.value.now)))
    (SaysInside c.args.levels (members_in (view c.args.value.now)) (spot_in c.in_ok-child.child)) c.args.items.now c.push.new.self
    (goes_on (SaysLevel (SaysInside c.args.levels) (spot_in c.args.here.now) c.args.id c.args.step (members_in (view c.args.value.now)))
    (SaysLevel (SaysInside c.args.levels) (spot_in c.args.here.now) c.args.id c.args.step (members_in (view c.args.value.now)))
    c.args.items.now c.args.items.now (goes_from _ c.args.items.now)
    (λ told. told ≡ (c.in_ok-clone.field-0, c.value_in-own.result) ∷ [])
    (SaysInside c.args.levels (members_in (view c.args.value.now)) (spot_in c.in_ok-child.child))
    (level_split c.args.levels (spot_in c.args.here.now) (spot_in c.in_ok-child.child) c.args.id c.args.step (members_in (view c.args.value.now))
    c.in_ok-clone.field-0 c.value_in-own.result c.in_ok-child.ensures at
    (λ i p h.
    c.value_in-own.ensures i p (subst (λ (o : Option Data). IsMarked o i p) (sym marks) h) ∙ ap (λ (ws : List (List ℕ)). value_said i p ws) none))
    c.push.new.self c.in_ok-push.ensures)
    c.collect_inside.new.items c.collect_inside.result c.collect_inside.ensures

pub collect_named-member-requires : goal.collect_named-member-requires
collect_named-member-requires t c =
    let same : c.as_slice.result.now ≡ name_key = search rules
    in subst (λ (w : List ℕ). IsUtf8 w) (sym same) (low_text name_key refl)

pub collect_named-collect_level-requires : goal.collect_named-collect_level-requires
collect_named-collect_level-requires t c =
    let fewer : 7 * c.args.levels + 1 < t = omega (arith, c.decreases)
    in let found : get_member name_key (members_in (view c.args.value.now)) ≡ Some (view c.in-Some-String.field-0.now) = search rules
    in let text : view c.in-Some-String.field-0.now ≡ string (string_bytes c.in-Some-String.text) = search (rules, the_lemmas)
    in let bytes : c.as_bytes-bytes.result.now ≡ string_bytes c.in-Some-String.text = search rules
    in let there = found ∙ ap (λ (d : Data). Some d) (text ∙ ap string (sym bytes))
    in let first : c.in_ok-head.head ≡ head_of c.args.id = search rules
    in let named = subst (λ (r : Row). IsNameOf c.args.here.now.place.in_group r.name_kind c.as_bytes-bytes.result.now c.in_ok-name.name) c.row.ensures c.in_ok-name.ensures
    in (
      fewer,
      (
        c.requires.room,
        (
          c.requires.says.0,
          named_level c.args.levels (spot_in c.args.here.now) c.args.id (members_in (view c.args.value.now)) c.as_bytes-bytes.result.now c.in_ok-head.head c.in_ok-name.name
              c.requires.says.0 there first named c.requires.says.1,
        ),
      ),
    )

pub collect_named-returns : goal.collect_named-returns
collect_named-returns t c =
    let found : get_member name_key (members_in (view c.args.value.now)) ≡ Some (view c.in-Some-String.field-0.now) = search rules
    in let text : view c.in-Some-String.field-0.now ≡ string (string_bytes c.in-Some-String.text) = search (rules, the_lemmas)
    in let bytes : c.as_bytes-bytes.result.now ≡ string_bytes c.in-Some-String.text = search rules
    in let there = found ∙ ap (λ (d : Data). Some d) (text ∙ ap string (sym bytes))
    in let first : c.in_ok-head.head ≡ head_of c.args.id = search rules
    in let named = subst (λ (r : Row). IsNameOf c.args.here.now.place.in_group r.name_kind c.as_bytes-bytes.result.now c.in_ok-name.name) c.row.ensures c.in_ok-name.ensures
    in goes_as (TellsNamed c.args.levels (spot_in c.args.here.now) c.args.id (members_in (view c.args.value.now)))
    (SaysLevel (SaysInside c.args.levels) (spot_in c.args.here.now) c.args.id (step_of c.in_ok-head.head c.in_ok-name.name) (members_in (view c.args.value.now)))
    (λ told h.
    named_level c.args.levels (spot_in c.args.here.now) c.args.id (members_in (view c.args.value.now)) c.as_bytes-bytes.result.now c.in_ok-head.head c.in_ok-name.name
    told there first named h)
    c.args.items.now c.collect_level.new.items c.collect_level.result c.collect_level.ensures

pub collect_row-returns-then-not-is_level : goal.collect_row-returns-then-not-is_level
collect_row-returns-then-not-is_level t c =
    let there : get_member (key_of c.args.id) (members_in (view c.args.value.now)) ≡ Some (view c.in-Some.found.now) = search rules
    in let beside : option_map (λ v. view v.now) c.in_ok-marks.marks ≡ get_member (marks_key (key_of c.args.id)) (members_in (view c.args.value.now)) = search rules
    in let plain : is_level (row_of c.args.id).shape ≡ false = search rules
    in goes_as (SaysRowIf (SaysInside c.args.levels) (spot_in c.args.here.now) c.args.id (get_member (key_of c.args.id) (members_in (view c.args.value.now)))
    (get_member (marks_key (key_of c.args.id)) (members_in (view c.args.value.now))))
    (SaysWords (AreWordsIn (row_of c.args.id).shape (row_of c.args.id).value_kind (view c.in-Some.found.now)) (spot_in c.args.here.now) c.args.id
    (option_map (λ v. view v.now) c.in_ok-marks.marks))
    (λ told h.
    subst (λ (o : Option Data). SaysWords (AreWordsIn (row_of c.args.id).shape (row_of c.args.id).value_kind (view c.in-Some.found.now)) (spot_in c.args.here.now) c.args.id o told)
    (sym beside)
    (row_there (SaysInside c.args.levels) (spot_in c.args.here.now) c.args.id _ _ (view c.in-Some.found.now) told there plain h))
    c.args.items.now c.collect_alone.new.items c.collect_alone.result c.collect_alone.ensures
