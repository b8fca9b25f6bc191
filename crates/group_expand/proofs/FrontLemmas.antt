-- The sources of a child, from what stands before it at its parent.
use Rattle.std.proofs.Common.{◌≡◌, ℕ, Bool, true, false, not, cond, List, [], ◌∷◌, ◌++◌, map, filter, refl, sym, ap, ◌∙◌, append_assoc}
use Rattle.std.specs.Prelude.{◌||◌}
use Rattle.std.specs.List.{flat_map}
use Rattle.std.proofs.lemmas.List.Concat.{flat_map-append}
use Rattle.cfg_base.specs.Words.{lists}
use Rattle.cfg_base.specs.declared.path.Step.{Step}
use Rattle.group_expand.specs.Front.{grown, raw, front}
use Rattle.group_expand.specs.Live.{Look, is_live}
use Rattle.group_expand.specs.Sources.{source, fitting_below, fitting_from, fitting, applied, excepted, sources_by, outward_from, outward}
use Rattle.group_expand.specs.Sources.{Source}

append_nil : {X : Type 0} (xs : List X) → xs ++ [] ≡ xs
append_nil [] = refl
append_nil (x ∷ xs) = ap (λ (ys : List _). x ∷ ys) (append_nil xs)

map_append : {X Y : Type 0} (f : X → Y) (xs ys : List X) → map f (xs ++ ys) ≡ map f xs ++ map f ys
map_append f [] ys = refl
map_append f (x ∷ xs) ys = ap (λ (zs : List _). f x ∷ zs) (map_append f xs ys)

filter_append : {X : Type 0} (t : X → Bool) (xs ys : List X) → filter t (xs ++ ys) ≡ filter t xs ++ filter t ys
filter_append t [] ys = refl
filter_append {X} t (x ∷ xs) ys = by_test (t x) (filter_append t xs ys)
  where
    by_test : (b : Bool) → filter t (xs ++ ys) ≡ filter t xs ++ filter t ys
        → cond b (x ∷ filter t (xs ++ ys)) (filter t (xs ++ ys)) ≡ cond b (x ∷ filter t xs) (filter t xs) ++ filter t ys
    by_test true e = ap (λ (zs : List X). x ∷ zs) e
    by_test false e = e

-- the paths above a child are its parent and the paths above the parent
outward_from_more : (above : List Step) (inner : List (List Step)) (rest : List Step) (s : Step)
    → outward_from above inner (rest ++ s ∷ []) ≡ (above ++ rest) ∷ outward_from above inner rest
outward_from_more above inner [] s = ap (λ (p : List Step). p ∷ inner) (sym (append_nil above))
outward_from_more above inner (t ∷ rest) s =
    outward_from_more (above ++ t ∷ []) (above ∷ inner) rest s
    ∙ ap (λ (p : List Step). p ∷ outward_from (above ++ t ∷ []) (above ∷ inner) rest) (append_assoc above (t ∷ []) rest)

pub outward_more : (p : List Step) (s : Step) → outward (p ++ s ∷ []) ≡ p ∷ outward p
outward_more p s = outward_from_more [] [] p s

-- a list of groups, and what each brings
abbrev brought : (List ℕ → List (List Step)) → List (List ℕ) → List Source
brought found groups = flat_map (λ group. map (source group) (found group)) groups

grown_one : (step : List Step → List (List Step)) (g : List ℕ) (found : List (List Step))
    → map (source g) (flat_map step found) ≡ flat_map (grown step) (map (source g) found)
grown_one step g [] = refl
grown_one step g (q ∷ found) =
    map_append (source g) (step q) (flat_map step found) ∙ ap (λ (xs : List Source). map (source g) (step q) ++ xs) (grown_one step g found)

module _ (step : List Step → List (List Step)) (found grown_to : List ℕ → List (List Step))
    (same : (g : List ℕ) → grown_to g ≡ flat_map step (found g)) where
  brought_grown : (groups : List (List ℕ)) → brought grown_to groups ≡ flat_map (grown step) (brought found groups)
  brought_grown [] = refl
  brought_grown (g ∷ groups) =
      ap (λ (qs : List (List Step)). map (source g) qs ++ brought grown_to groups) (same g)
      ∙ ap (λ (xs : List Source). xs ++ brought grown_to groups) (grown_one step g (found g))
      ∙ ap (λ (xs : List Source). flat_map (grown step) (map (source g) (found g)) ++ xs) (brought_grown groups)
      ∙ sym (flat_map-append (grown step) (map (source g) (found g)) (brought found groups))

module _ (look : Look) (kids : List Step → List Step) where
  abbrev left_in : List Step → (List ℕ → Bool) → List (List ℕ)
  left_in level out = filter (λ g. not (lists (excepted look kids level) g || out g)) (applied look kids level)

  module _ (step : List Step → List (List Step)) (found grown_to : List ℕ → List (List Step))
      (same : (g : List ℕ) → grown_to g ≡ flat_map step (found g)) where
    sources_grown : (out : List ℕ → Bool) (levels : List (List Step))
        → sources_by look kids grown_to out levels ≡ flat_map (grown step) (sources_by look kids found out levels)
    sources_grown out [] = refl
    sources_grown out (level ∷ levels) =
        let more : List ℕ → Bool = λ g. lists (excepted look kids level) g || out g
        in ap (λ (xs : List Source). xs ++ sources_by look kids grown_to more levels) (brought_grown step found grown_to same (left_in level out))
        ∙ ap (λ (xs : List Source). flat_map (grown step) (brought found (left_in level out)) ++ xs) (sources_grown more levels)
        ∙ sym (flat_map-append (grown step) (brought found (left_in level out)) (sources_by look kids found more levels))

  -- a path one step longer
  fitting_from_more : (above : List Step) (found : List (List Step)) (rest : List Step) (s : Step)
      → fitting_from look kids above found (rest ++ s ∷ [])
      ≡ flat_map (fitting_below look kids (is_live look (above ++ (rest ++ s ∷ []))) s) (fitting_from look kids above found rest)
  fitting_from_more above found [] s = refl
  fitting_from_more above found (t ∷ rest) s =
      let here = fitting_from look kids (above ++ t ∷ []) (flat_map (fitting_below look kids (is_live look (above ++ t ∷ [])) t) found) rest
      in fitting_from_more (above ++ t ∷ []) (flat_map (fitting_below look kids (is_live look (above ++ t ∷ [])) t) found) rest s
      ∙ ap (λ (p : List Step). flat_map (fitting_below look kids (is_live look p) s) here) (append_assoc above (t ∷ []) (rest ++ s ∷ []))

  pub fitting_more : (g : List ℕ) (p : List Step) (s : Step)
      → fitting look kids g (p ++ s ∷ []) ≡ flat_map (fitting_below look kids (is_live look (p ++ s ∷ [])) s) (fitting look kids g p)
  fitting_more g p s = fitting_from_more [] _ p s

  -- what is left of the sources where some more groups are excepted
  module _ (found : List ℕ → List (List Step)) (e : List ℕ → Bool) where
    abbrev stays : Source → Bool
    stays x = not (e x.group)

    all_stay : (g : List ℕ) (qs : List (List Step)) (b : Bool) → e g ≡ b → filter stays (map (source g) qs) ≡ cond b [] (map (source g) qs)
    all_stay g [] true h = refl
    all_stay g [] false h = refl
    all_stay g (q ∷ qs) true h = ap (λ (c : Bool). cond (not c) (source g q ∷ filter stays (map (source g) qs)) (filter stays (map (source g) qs))) h ∙ all_stay g qs true h
    all_stay g (q ∷ qs) false h =
        ap (λ (c : Bool). cond (not c) (source g q ∷ filter stays (map (source g) qs)) (filter stays (map (source g) qs))) h
        ∙ ap (λ (xs : List Source). source g q ∷ xs) (all_stay g qs false h)

    left_one : (out : List ℕ → Bool) (g : List ℕ) (ins outs : List (List ℕ)) (a b : Bool) → e g ≡ a → brought found ins ≡ filter stays (brought found outs)
        → brought found (cond (not (a || b)) (g ∷ ins) ins) ≡ filter stays (brought found (cond (not b) (g ∷ outs) outs))
    left_one out g ins outs true true h same = same
    left_one out g ins outs false true h same = same
    left_one out g ins outs true false h same =
        same ∙ ap (λ (xs : List Source). xs ++ filter stays (brought found outs)) (sym (all_stay g (found g) true h))
        ∙ sym (filter_append stays (map (source g) (found g)) (brought found outs))
    left_one out g ins outs false false h same =
        ap (λ (xs : List Source). map (source g) (found g) ++ xs) same
        ∙ ap (λ (xs : List Source). xs ++ filter stays (brought found outs)) (sym (all_stay g (found g) false h))
        ∙ sym (filter_append stays (map (source g) (found g)) (brought found outs))

    left_out : (out : List ℕ → Bool) (groups : List (List ℕ))
        → brought found (filter (λ g. not (e g || out g)) groups) ≡ filter stays (brought found (filter (λ g. not (out g)) groups))
    left_out out [] = refl
    left_out out (g ∷ groups) = left_one out g (filter (λ h. not (e h || out h)) groups) (filter (λ h. not (out h)) groups) (e g) (out g) refl (left_out out groups)

    swapped : (a b c : Bool) → (a || (b || c)) ≡ (b || (a || c))
    swapped true true c = refl
    swapped true false c = refl
    swapped false b c = refl

    pub sources_left : (out : List ℕ → Bool) (levels : List (List Step))
        → sources_by look kids found (λ g. e g || out g) levels ≡ filter stays (sources_by look kids found out levels)
    sources_left out [] = refl
    sources_left out (level ∷ levels) =
        let at_level : List ℕ → Bool = λ g. lists (excepted look kids level) g
        in let both : (λ (g : List ℕ). at_level g || (e g || out g)) ≡ (λ (g : List ℕ). e g || (at_level g || out g)) = λ i g. swapped (at_level g) (e g) (out g) i
        in ap (λ (t : List ℕ → Bool). brought found (filter (λ g. not (t g)) (applied look kids level)) ++ sources_by look kids found t levels) both
        ∙ ap (λ (xs : List Source). xs ++ sources_by look kids found (λ g. e g || (at_level g || out g)) levels) (left_out (λ g. at_level g || out g) (applied look kids level))
        ∙ ap (λ (xs : List Source). filter stays (brought found (filter (λ g. not (at_level g || out g)) (applied look kids level))) ++ xs) (sources_left (λ g. at_level g || out g) levels)
        ∙ sym (filter_append stays (brought found (filter (λ g. not (at_level g || out g)) (applied look kids level))) (sources_by look kids found (λ g. at_level g || out g) levels))

  front_is : (p : List Step) → sources_by look kids (λ g. fitting look kids g p) (λ g. false) (p ∷ outward p) ≡ front look kids p
  unfolding front
  front_is p =
      ap (λ (xs : List Source). brought (λ g. fitting look kids g p) (filter (λ g. not (lists (excepted look kids p) g || false)) (applied look kids p)) ++ xs)
      (sources_left (λ g. fitting look kids g p) (λ g. lists (excepted look kids p) g) (λ g. false) (outward p))

  -- a child's sources are what the front of its parent brings one step further down, in order
  pub raw_more : (p : List Step) (s : Step)
      → raw look kids (p ++ s ∷ []) ≡ flat_map (grown (fitting_below look kids (is_live look (p ++ s ∷ [])) s)) (front look kids p)
  raw_more p s =
      ap (λ (levels : List (List Step)). sources_by look kids (λ g. fitting look kids g (p ++ s ∷ [])) (λ g. false) levels) (outward_more p s)
      ∙ sources_grown (fitting_below look kids (is_live look (p ++ s ∷ [])) s) (λ g. fitting look kids g p) (λ g. fitting look kids g (p ++ s ∷ []))
      (λ g. fitting_more g p s) (λ g. false) (p ∷ outward p)
      ∙ ap (λ (xs : List Source). flat_map (grown (fitting_below look kids (is_live look (p ++ s ∷ [])) s)) xs) (front_is p)
