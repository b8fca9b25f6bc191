-- What a copy and a change of a name leave: what look-ups give, as the code makes them.
use Rattle.std.proofs.Common.{◌≡◌, ℕ, ◌-◌, ◌<◌, Bool, true, false, cond, List, length, get_or, sym, ap, ◌∙◌, Option, Some, None, if◌then◌else◌}
use Rattle.std.specs.FinMap as map
use Rattle.std.specs.Map.{keys_of}
use Rattle.cfg_base.specs.Order.{path_cmp}
use Rattle.cfg_base.specs.declared.path.Step.{Step}
use Rattle.cfg_base.specs.declared.value.Value.{Value}
use Rattle.cfg_entries.specs.EntryMap.{EntryMap, IsOrdered, Pair}
use Rattle.cfg_tree.specs.declared.reorder.Change.TheVariants.{Last}
use Rattle.cfg_tree.specs.declared.reorder.Reorder.{Reorder}
use Rattle.cfg_tree.specs.Statements.{Statements, parent_of, last_of, is_below}
use Rattle.cfg_tree.specs.Shown.{shown, without_all}
use Rattle.cfg_tree.specs.Change.{with_order, with_order_of, is_ordered, cleared}
use Rattle.cfg_tree.specs.Renaming.{IsListedAs, reordered_by}
use Rattle.cfg_tree.specs.Relaid.{left_by}
use Rattle.cfg_tree.specs.Moving.{part_of, placed, with_part, in_place, relisted, copied, renamed}
use Rattle.cfg_tree.proofs.BelowLemmas.{keys_filter}
use Rattle.cfg_tree.proofs.ClearLemmas.{all_taken}
use Rattle.cfg_tree.proofs.TypedLemmas.{last_is}
use Rattle.cfg_tree.proofs.StepLemmas.{reorder_done, parent_out}
use Rattle.cfg_tree.proofs.PartLemmas.{or_else, get-with_part, part_is}

-- the last step of a path by its place
pub last_at : (path steps : List Step) (n : ℕ) (last : Step) → 0 < length path → steps ≡ path → n ≡ length path - 1 → last ≡ get_or steps n last → last ≡ last_of path
last_at path steps n last long same at e =
    last_is steps path last long same
    (e ∙ ap (λ (k : ℕ). get_or steps k last) (at ∙ ap (λ (p : List Step). length p - 1) (sym same)))

-- where the parent isn't there no order changes
pub relisted_none : (m : Statements) (from to parent : List Step) → is_ordered from ≡ true → parent ≡ parent_of from → map.get m parent ≡ None → m ≡ relisted m from to
relisted_none m from to parent ordered is_parent none =
    sym (ap (λ (b : Bool). if b then with_order m (parent_of from) (in_place (last_of from).name (last_of to).name) else m) ordered
    ∙ ap (with_order_of m (parent_of from) (in_place (last_of from).name (last_of to).name)) (ap (map.get m) (sym is_parent) ∙ none))

-- and where it is, the names with the new one in the old one's place are its order
pub relisted_some : (m : Statements) (from to parent : List Step) (old new : Step) (v : Value) (names : List (List ℕ)) → is_ordered from ≡ true
    → parent ≡ parent_of from → old ≡ last_of from → new ≡ last_of to → map.get m parent ≡ Some v → names ≡ in_place old.name new.name v.order
    → with_order m parent (λ _. names) ≡ relisted m from to
relisted_some m from to parent old new v names ordered is_parent is_old is_new found is_names =
    ap (with_order_of m parent (λ _. names)) found
    ∙ ap (λ (ns : List (List ℕ)). map.insert m parent (record v { order = ns })) is_names
    ∙ sym (ap (with_order_of m parent (in_place old.name new.name)) found)
    ∙ ap (λ (p : List Step). with_order m p (in_place old.name new.name)) is_parent
    ∙ ap (λ (s : Step). with_order m (parent_of from) (in_place s.name new.name)) is_old
    ∙ ap (λ (s : Step). with_order m (parent_of from) (in_place (last_of from).name s.name)) is_new
    ∙ sym (ap (λ (b : Bool). if b then with_order m (parent_of from) (in_place (last_of from).name (last_of to).name) else m) ordered)

-- a copy as the code makes it
pub copy_made : (m : Statements) (from to : List Step) (part : List (Pair Value)) (r : Option Reorder) → 0 < length to → part ≡ part_of m from
    → IsListedAs true m to r → reordered_by r (with_part from to m part) ≡ copied m from to
copy_made m from to part r long is_part listing =
    ap (λ (es : List (Pair Value)). reordered_by r (with_part from to m es)) is_part
    ∙ reorder_done m (with_part from to m (part_of m from)) to Last r (is_ordered to) listing
    (get-with_part from to m m (parent_of to)
    ∙ ap (λ (b : Bool). cond b (or_else (map.get m (placed to from (parent_of to))) (map.get m (parent_of to))) (map.get m (parent_of to))) (parent_out to long))

-- what was taken away before a part is put under its new name
part_taken : (m : EntryMap (List Step) Value) (path : List Step) (part : List (Pair Value)) → IsOrdered path_cmp m → part ≡ part_of (shown m) path
    → without_all (shown m) (keys_of part) ≡ cleared (shown m) path
part_taken m path part sorted is_part =
    all_taken m path (keys_of part) sorted
    (ap (λ (es : List (Pair Value)). keys_of es) (is_part ∙ sym (part_is m path sorted)) ∙ keys_filter (is_below path) m.entries)

-- what is left before a part is put elsewhere
pub part_left : (stays : Bool) (m : EntryMap (List Step) Value) (path : List Step) (part : List (Pair Value)) (left : Statements) → IsOrdered path_cmp m
    → part ≡ part_of (shown m) path → left ≡ (if stays then shown m else without_all (shown m) (keys_of part)) → left ≡ left_by stays (shown m) path
part_left true m path part left sorted is_part is_left = is_left
part_left false m path part left sorted is_part is_left = is_left ∙ part_taken m path part sorted is_part

-- a change of a name as the code makes it
pub rename_made : (m : Statements) (from to : List Step) (part : List (Pair Value)) → part ≡ part_of m from
    → relisted (with_part from to (cleared m from) part) from to ≡ renamed m from to
rename_made m from to part is_part = ap (λ (es : List (Pair Value)). relisted (with_part from to (cleared m from) es) from to) is_part
