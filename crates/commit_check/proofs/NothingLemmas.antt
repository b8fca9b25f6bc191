-- The configuration without statements is accepted.
use Rattle.std.proofs.Common.{◌≡◌, ◌≢◌, ℕ, zero, suc, ◌+◌, Bool, true, false, not, cond, List, [], ◌∷◌, ◌++◌, length, filter, map, refl, sym, ap, ◌∙◌, arith, Option, Some, None, is_some}
use Rattle.std.specs.Prelude.{◌&&◌}
use Rattle.std.specs.FinMap as finite
use Rattle.std.specs.List.{flat_map, list_any}
use Rattle.std.specs.Option.{option_map}
use Rattle.cfg_base.specs.Order.{path_cmp}
use Rattle.cfg_base.specs.declared.path.Step.{Step}
use Rattle.cfg_base.specs.declared.path.TheConstants.{MAX_STEPS}
use Rattle.cfg_base.specs.declared.value.Value.{Value}
use Rattle.cfg_schema.specs.declared.place.Place.{Place}
use Rattle.cfg_schema.specs.Profile.{row_of, rows_below, is_level}
use Rattle.cfg_schema.specs.Place.{place_of}
use Rattle.cfg_tree.specs.Statements.{Statements, last_of}
use Rattle.cfg_tree.specs.Children.{steps_below, is_child, order_in, row_steps, children_at}
use Rattle.cfg_tree.specs.declared.full.Given.{Given}
use Rattle.cfg_tree.specs.Full.{Expansion}
use Rattle.cfg_tree.proofs.TreeLemmas.{nothing_is}
use Rattle.curly_print.specs.Printed.{text_below, text_at, statement_text, printed}
use Rattle.group_expand.specs.Live.{is_active, is_live, live_from, words_of}
use Rattle.group_expand.specs.Sources.{groups_step, is_outside}
use Rattle.group_expand.specs.Expansion.{gift_of, gift_at, is_apply, IsExpansion}
use Rattle.group_expand.proofs.LivePartLemmas.{gift_own}
use Rattle.commit_check.specs.declared.rule.CommitRule.{CommitRule}
use Rattle.commit_check.specs.declared.rule.CommitRule.TheVariants.{Width, Groups, Each, Apart, TextLength}
use Rattle.commit_check.specs.Groups.{is_group, names_no_group}
use Rattle.commit_check.specs.Rules.{Fails}
use Rattle.commit_check.specs.Accepts.{Accepts}

abbrev nothing : Statements
nothing = finite.empty

abbrev no_paths : Expansion
no_paths = finite.empty

no_value : (path : List Step) → finite.get nothing path ≡ None
no_value path = finite.get-empty path_cmp path

none_given : (path : List Step) → finite.get no_paths path ≡ None
none_given path = finite.get-empty path_cmp path

false_and : (a b : Bool) → a ≡ false → (a && b) ≡ false
false_and a b e = ap (λ (x : Bool). x && b) e

and_false : (a b : Bool) → b ≡ false → (a && b) ≡ false
and_false true b e = e
and_false false b e = refl

-- nothing is live but the top
none_live : (step : Step) (path : List Step) → is_live (finite.get nothing) (step ∷ path) ≡ false
none_live step path = ap (λ (o : Option Value). is_active o && live_from (finite.get nothing) (step ∷ []) path) (no_value (step ∷ []))

no_gift : (step : Step) (path : List Step) → gift_at (finite.get nothing) (steps_below nothing) (step ∷ path) ≡ None
no_gift step path =
    gift_own (finite.get nothing) (steps_below nothing) (no_value (groups_step ∷ [])) (step ∷ path)
    ∙ ap (λ (own : Bool). cond own (Some (record { words = words_of (finite.get nothing (step ∷ path)); group = [] })) None)
    (false_and (is_live (finite.get nothing) (step ∷ path)) (is_outside (step ∷ path) && not (is_apply (step ∷ path))) (none_live step path))

some_none : {A : Type 0} (a : A) → None ≡ Some a → ⊥
some_none a e = cc

never_given : (path : List Step) (given : Given) → finite.get no_paths path ≡ Some given → ⊥
never_given path given e = some_none given (sym (none_given path) ∙ e)

-- it expands to nothing
nothing_expands : IsExpansion nothing no_paths
nothing_expands = record {
  gifts = given;
  top = none_given [];
  orders = λ path given there. absurd (never_given path given there);
}
  where
    given : (path : List Step) → path ≢ [] → option_map gift_of (finite.get no_paths path) ≡ gift_at (finite.get nothing) (steps_below nothing) path
    given [] some = absurd (some refl)
    given (step ∷ path) some = ap (option_map gift_of) (none_given (step ∷ path)) ∙ sym (no_gift step path)

-- nothing is printed of it
no_steps : (path : List Step) → steps_below nothing path ≡ []
no_steps path =
    ap (λ (entries : List (List Step × Value)). map last_of (filter (is_child path) (map (λ e. e.0) entries)))
    (no_length (finite.entries nothing) (sym (finite.len-entries nothing) ∙ finite.len-empty path_cmp Value))
  where
    no_length : {A : Type 0} (es : List A) → length es ≡ 0 → es ≡ []
    no_length [] none = refl
    no_length (e ∷ es) none = absurd (omega (arith, none))

no_row : (id : ℕ) → row_steps id [] [] ≡ []
no_row id = by_order (row_of id).ordered
  where
    by_order : (b : Bool) → cond {A = List Step} b [] [] ≡ []
    by_order true = refl
    by_order false = refl

no_rows : (rows : List ℕ) → flat_map (λ id. row_steps id [] []) rows ≡ []
no_rows [] = refl
no_rows (id ∷ rows) = ap (λ (steps : List Step). steps ++ flat_map (λ id. row_steps id [] []) rows) (no_row id) ∙ no_rows rows

no_children : (path : List Step) (place : Option Place) → children_at nothing path place ≡ []
no_children path None = refl
no_children path (Some here) =
    ap (λ (o : Option Value). flat_map (λ id. row_steps id (order_in o) (steps_below nothing path)) (rows_below here.row here.in_group)) (no_value path)
    ∙ ap (λ (steps : List Step). flat_map (λ id. row_steps id [] steps) (rows_below here.row here.in_group)) (no_steps path)
    ∙ no_rows (rows_below here.row here.in_group)

none_below : (levels : ℕ) (path : List Step) (indent : ℕ) → text_below levels nothing path indent ≡ []
unfolding text_below
none_below zero path indent = refl
none_below (suc levels) path indent =
    ap (λ (steps : List Step). flat_map
    (λ step. statement_text indent step (finite.get nothing (path ++ step ∷ [])) (text_below levels nothing (path ++ step ∷ []) (indent + 4))) steps)
    (no_children path (place_of path))

no_text : (path : List Step) (place : Option Place) → text_at nothing path place None ≡ []
no_text path None = refl
no_text path (Some here) = by_shape (is_level (row_of here.row).shape)
  where
    by_shape : (b : Bool) → cond b (text_below MAX_STEPS nothing path 0) [] ≡ []
    by_shape true = none_below MAX_STEPS path 0
    by_shape false = refl

nothing_printed : printed nothing [] ≡ []
nothing_printed = ap (text_at nothing [] (place_of [])) (no_value []) ∙ no_text [] (place_of [])

-- no rule fails
no_apply : (path : List Step) → names_no_group nothing path ≡ false
no_apply [] = refl
no_apply (step ∷ path) =
    and_false (is_apply (step ∷ path)) _
    (ap (λ (live : Bool). list_any (λ name. not (is_group nothing name)) (cond live (words_of (finite.get nothing (step ∷ path))) [])) (none_live step path))

not_both : (b : Bool) → b ≡ false → b ≡ true → ⊥
not_both b is_false is_true = let e = sym is_false ∙ is_true in cc

nothing_fails : (rule : CommitRule) (path : List Step) → Fails rule nothing no_paths path → ⊥
nothing_fails Width path fault = omega (arith, fault.fails, finite.len-empty path_cmp Given)
nothing_fails Groups path fault = not_both (names_no_group nothing path) (no_apply path) fault
nothing_fails (Each rule) path fault = never_given path fault.given fault.there
nothing_fails (Apart rule) path fault = not_both (is_some (finite.get no_paths path)) (ap is_some (none_given path)) fault.there
nothing_fails TextLength path fault = omega (arith, fault.fails, ap length nothing_printed)

-- the configuration without statements is accepted
pub nothing_accepted : Accepts nothing
nothing_accepted = (no_paths, record { tree = nothing_is; expansion = nothing_expands; holds = nothing_fails })
