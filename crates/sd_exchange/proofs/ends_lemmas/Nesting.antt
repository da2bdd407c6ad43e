-- A map round one map alone, as rows of what its points do.
use Rattle.std.specs.List.{AllByRecursion}
use Rattle.std.proofs.Common.{Bool, ◌≡◌, ◌≢◌, ◌<◌, zero, suc, ℕ, ℤ, pos, List, [], ◌∷◌, map, refl, sym, ◌∙◌, ap, subst, arith, inl, inr}
use Rattle.sd_range.specs.Points.{points, tuples, ranges_of}
use Rattle.sd_range.specs.Range.{range_values}
use Rattle.sd_work.specs.Memory.{Memory, Memories}
use Rattle.sd_work.specs.Residual.{Items, Points, Term, owning, Terms, none, part_at}
use Rattle.sd_work.specs.Touch.{Touch, reads, writes, pushes, takes, inner, Touches, SomePartTouches}
use Rattle.sd_work.specs.BigStep.{and_then, big_step, big_parts}
use Rattle.sd_confluence.specs.Safe.{TouchCompatibly}
use Rattle.sd_subset.specs.boxes.Box.{Parameter}
use Rattle.sd_subset.specs.boxes.InForce.{IsOther, RangeNamesOthers}
use Rattle.sd_subset.specs.boxes.InForce as box
use Rattle.sd_subset.proofs.boxes_lemmas.Named.{each_weaker, AgreeBut, range-agrees}
use Rattle.sd_subset.proofs.boxes_lemmas.AtPoint.{agree-at_point}
use Rattle.sd_graph.specs.declared.place.Place.{Place}
use Rattle.sd_graph.specs.PlainTree.{KindTree, map_scope, ItemTrees}
use Rattle.sd_graph.specs.Wiring.{kind_uses, before}
use Rattle.sd_graph.specs.UseTouch.{touched_level, IsOf}
use Rattle.sd_graph.specs.Context.{Context, private_memory}
use Rattle.sd_graph.specs.Unfold.{assigned, order_of_points, at_point, point_terms, unfold_kind}
use Rattle.sd_graph.proofs.Among.{follows}
use Rattle.sd_graph.proofs.ItemTouches.{kind_touches}
use Rattle.sd_exchange.specs.reorder.SafePools.{HasSafePools, HaveSafePools}
use Rattle.sd_exchange.proofs.reorder_lemmas.Ends.{EndsAlike, EndAlike, end-none, end-also, assoc}
use Rattle.sd_exchange.proofs.reorder_lemmas.Rows.{row, rows, ApartFromAll, RowsApart, RowsWithin}
use Rattle.sd_exchange.proofs.reorder_lemmas.Distributing.{level_touched, TouchesOutside, owned_each, EachOutside, scope-distributed}
use Rattle.sd_range.specs.Variables.{with_variables, with_variable}
use Rattle.sd_exchange.specs.ends.Points.{point_of, alone}

-- ---- setting variables

-- the values at a point
pub values-at : (params : List Parameter) (point values : List ℤ) → with_variables (assigned params point) values ≡ box.at_point params point values
values-at [] point values = refl
values-at (param ∷ params) [] values = refl
values-at (param ∷ params) (number ∷ point) values = values-at params point (with_variable param.0 number values)

set-both : (i j : ℕ) (x y : ℤ) (values : List ℤ) → i ≢ j → with_variable i x (with_variable j y values) ≡ with_variable j y (with_variable i x values)
set-both zero zero x y values n = absurd (n refl)
set-both zero (suc j) x y [] n = refl
set-both zero (suc j) x y (v ∷ values) n = refl
set-both (suc i) zero x y [] n = refl
set-both (suc i) zero x y (v ∷ values) n = refl
set-both (suc i) (suc j) x y [] n = ap (λ vs. pos 0 ∷ vs) (set-both i j x y [] (λ e. n (ap suc e)))
set-both (suc i) (suc j) x y (v ∷ values) n = ap (λ vs. v ∷ vs) (set-both i j x y values (λ e. n (ap suc e)))

set-past : (own : List Parameter) (point : List ℤ) (variable : ℕ) (x : ℤ) (values : List ℤ) → IsOther own variable → with_variable variable x (box.at_point own point values) ≡ box.at_point own point (with_variable variable x values)
set-past [] point variable x values other = refl
set-past (parameter ∷ own) [] variable x values other = refl
set-past (parameter ∷ own) (number ∷ point) variable x values other =
    set-past own point variable x (with_variable parameter.0 number values) other.1 ∙ ap (box.at_point own point) (set-both variable parameter.0 x number values other.0)

points-past : (first second : List Parameter) (p q : List ℤ) (values : List ℤ) → AllByRecursion (λ (parameter : Parameter). IsOther second parameter.0) first → box.at_point second q (box.at_point first p values) ≡ box.at_point first p (box.at_point second q values)
points-past [] second p q values others = refl
points-past (parameter ∷ first) second [] q values others = refl
points-past (parameter ∷ first) second (number ∷ p) q values others =
    points-past first second p q (with_variable parameter.0 number values) others.1 ∙ ap (box.at_point first p) (sym (set-past second q parameter.0 number values others.0))

-- values of two maps' parameters may be set in either order
pub values-past : (first second : List Parameter) (p q : List ℤ) (values : List ℤ) → AllByRecursion (λ (parameter : Parameter). IsOther second parameter.0) first →
    with_variables (assigned second q) (with_variables (assigned first p) values) ≡ with_variables (assigned first p) (with_variables (assigned second q) values)
values-past first second p q values others =
    values-at second q (with_variables (assigned first p) values) ∙ ap (box.at_point second q) (values-at first p values) ∙ points-past first second p q values others
    ∙ sym (values-at first p (with_variables (assigned second q) values) ∙ ap (box.at_point first p) (values-at second q values))

pub ranges-agree : (own others : List Parameter) (values later : List ℤ) → AgreeBut own values later → AllByRecursion (λ (parameter : Parameter). RangeNamesOthers own parameter.1) others → map (range_values values) (ranges_of others) ≡ map (range_values later) (ranges_of others)
ranges-agree own [] values later agree named = refl
ranges-agree own (parameter ∷ others) values later agree named = λ i. range-agrees own values later parameter.1 agree named.0 i ∷ ranges-agree own others values later agree named.1 i

-- ranges that name no parameter have the same points at each point
pub points-agree : (own others : List Parameter) (p values : List ℤ) → AllByRecursion (λ (parameter : Parameter). RangeNamesOthers own parameter.1) others →
    points (ranges_of others) (with_variables (assigned own p) values) ≡ points (ranges_of others) values
points-agree own others p values named =
    ap (points (ranges_of others)) (values-at own p values) ∙ sym (ap tuples (ranges-agree own others values (box.at_point own p values) (agree-at_point own p values) named))

-- ---- what an inner map touches

same_level : (touch : Touch) → level_touched touch ≡ touched_level touch
same_level (reads from) = refl
same_level (writes to by) = refl
same_level (pushes level container) = refl
same_level (takes level container) = refl

-- an item in an owner without containers of its own touches nothing of it
outside-owner : (kind : KindTree) (line : ℕ) (context : Context) (params : List Parameter) (point : List ℤ) → TouchesOutside (Touches (unfold_kind kind line (at_point context params [] point)))
outside-owner kind line context params point touch is own =
    let there = at_point context params [] point in
    follows (IsOf there touch) (kind_uses kind there.containers)
    (λ use' of. (
    let level : suc (context.reach use'.container).level ≡ touched_level touch = of.place.0 in
    let zero : touched_level touch ≡ 0 = sym (same_level touch) ∙ own in omega (arith, level, zero)))
    (kind_touches kind line there touch is)

each-outside : (f : List ℤ → Term Place) (all : List (List ℤ)) → TouchesOutside (SomePartTouches (point_terms f all)) → EachOutside (point_terms f all)
each-outside f [] h = tt
each-outside f (a ∷ all) h = (λ touch is. h touch (inl is), each-outside f all (λ touch is. h touch (inr is)))

-- ---- a map round one map, as rows

-- what the inner map's point does in a point of the outer one
abbrev pub cell : (first second : List Parameter) → (private : List ℕ) → ItemTrees → Context → List ℤ → List ℤ → Term Place
cell first second private body context p q = owning (private_memory context.containers []) (point_of second private body (at_point context first [] p) q)

parts-row : (own : Memory) (f : List ℤ → List ℤ → Term Place) (p : List ℤ) (qs : List (List ℤ)) (tail : Terms Place) (most n : ℕ) (s : Memories) →
    and_then (big_parts (owned_each own (point_terms (f p) qs)) most s n) (big_parts tail most) ≡ big_parts (row (λ p q. owning own (f p q)) p qs tail) most s n
parts-row own f p [] tail most n s = refl
parts-row own f p (q ∷ qs) tail most n s =
    assoc (big_step (owning own (f p q)) most s n) (big_parts (owned_each own (point_terms (f p) qs)) most) (big_parts tail most)
    ∙ ap (and_then (big_step (owning own (f p q)) most s n)) (λ i s n. parts-row own f p qs tail most n s i)

outer-rows : (own : Memory) (outer : List ℤ → Term Place) (f : List ℤ → List ℤ → Term Place) (qs : List (List ℤ)) →
    ((p : List ℤ) (most n : ℕ) (s : Memories) → big_step (outer p) most s n ≡ big_parts (owned_each own (point_terms (f p) qs)) most s n) →
    (all : List (List ℤ)) (most n : ℕ) (s : Memories) → big_parts (point_terms outer all) most s n ≡ big_parts (rows (λ p q. owning own (f p q)) all qs none) most s n
outer-rows own outer f qs h [] most n s = refl
outer-rows own outer f qs h (p ∷ all) most n s =
    ap (λ c. and_then c (big_parts (point_terms outer all) most)) (h p most n s)
    ∙ ap (and_then (big_parts (owned_each own (point_terms (f p) qs)) most s n)) (λ i s n. outer-rows own outer f qs h all most n s i)
    ∙ parts-row own f p qs (rows (λ p q. owning own (f p q)) all qs none) most n s

-- a map without private containers round one map whose ranges name none of its parameters
pub as-rows : (sequential : Bool) (first second : List Parameter) (private : List ℕ) (body : ItemTrees) (line : ℕ) (context : Context) → AllByRecursion (λ (parameter : Parameter). RangeNamesOthers first parameter.1) second →
    (all : List (List ℤ)) (most n : ℕ) (s : Memories) →
    big_parts (point_terms (point_of first [] (alone line (map_scope sequential second private body)) context) all) most s n
    ≡ big_parts (rows (cell first second private body context) all (points (ranges_of second) context.values) none) most s n
as-rows sequential first second private body line context named all =
    outer-rows (private_memory context.containers []) (point_of first [] (alone line (map_scope sequential second private body)) context)
    (λ p. point_of second private body (at_point context first [] p)) (points (ranges_of second) context.values)
    (λ p most n s. (
    let there = at_point context first [] p in
    scope-distributed (private_memory context.containers []) Items Points (before there.containers (alone line (map_scope sequential second private body))) (order_of_points sequential)
    (point_terms (point_of second private body there) (points (ranges_of second) there.values))
    (each-outside (point_of second private body there) (points (ranges_of second) there.values) (outside-owner (map_scope sequential second private body) line context first p)) most n s
    ∙ ap (λ qs. big_parts (owned_each (private_memory context.containers []) (point_terms (point_of second private body there) qs)) most s n) (points-agree first second p context.values named)))
    all

-- ---- rows apart

apart-first : (t : List ℤ → Term Place) (a : List ℤ) (all : List (List ℤ)) → ((j : ℕ) → TouchCompatibly (t a) (part_at (point_terms t all) j)) → ApartFromAll (λ p. Touches (t p)) a all
apart-first t a [] h = tt
apart-first t a (b ∷ all) h = (h 0, apart-first t a all (λ j. h (suc j)))

pub rows-apart : (t : List ℤ → Term Place) (all : List (List ℤ)) → ((i j : ℕ) → i < j → TouchCompatibly (part_at (point_terms t all) i) (part_at (point_terms t all) j)) → RowsApart (λ p. Touches (t p)) all
rows-apart t [] h = tt
rows-apart t (a ∷ all) h = (apart-first t a all (λ j. h 0 (suc j) (omega arith)), rows-apart t all (λ i j less. h (suc i) (suc j) (omega (arith, less))))

-- what a cell touches its point does
within-points : (g : List ℤ → Term Place) (qs : List (List ℤ)) → AllByRecursion (λ q. (touch : Touch) → Touches (g q) touch → SomePartTouches (point_terms g qs) touch) qs
within-points g [] = tt
within-points g (q ∷ qs) =
    (λ touch is. inl is, each_weaker (λ q. (touch : Touch) → Touches (g q) touch → SomePartTouches (point_terms g qs) touch) (λ o. (touch : Touch) → Touches (g o) touch → SomePartTouches (point_terms g (q ∷ qs)) touch) (λ o h touch is. inr (h touch is)) qs (within-points g qs))

pub rows-within : (sequential : Bool) (first second : List Parameter) (private : List ℕ) (body : ItemTrees) (line : ℕ) (context : Context) → AllByRecursion (λ (parameter : Parameter). RangeNamesOthers first parameter.1) second → (all : List (List ℤ)) →
    RowsWithin (cell first second private body context) (λ p. Touches (point_of first [] (alone line (map_scope sequential second private body)) context p)) all (points (ranges_of second) context.values)
rows-within sequential first second private body line context named [] = tt
rows-within sequential first second private body line context named (p ∷ all) = (
  (let there = at_point context first [] p in
      let g = point_of second private body there in
      subst (λ qs. AllByRecursion (λ q. (touch : Touch) → Touches (cell first second private body context p q) touch → Touches (point_of first [] (alone line (map_scope sequential second private body)) context p) touch) qs) (points-agree first second p context.values named)
      (each_weaker (λ q. (touch : Touch) → Touches (g q) touch → SomePartTouches (point_terms g (points (ranges_of second) there.values)) touch)
      (λ q. (touch : Touch) → Touches (cell first second private body context p q) touch → Touches (point_of first [] (alone line (map_scope sequential second private body)) context p) touch)
      (λ q h touch is. inl (h (inner touch) is)) (points (ranges_of second) there.values) (within-points g (points (ranges_of second) there.values)))),
  rows-within sequential first second private body line context named all,
)

-- ---- pools of rows

row-pools : (f : List ℤ → List ℤ → Term Place) (p : List ℤ) (qs : List (List ℤ)) (own : Memory) (tail : Terms Place) → HaveSafePools (point_terms (f p) qs) → HaveSafePools tail → HaveSafePools (row (λ p q. owning own (f p q)) p qs tail)
row-pools f p [] own tail h g = g
row-pools f p (q ∷ qs) own tail h g = (h.0, row-pools f p qs own tail h.1 g)

pub rows-pools : (sequential : Bool) (first second : List Parameter) (private : List ℕ) (body : ItemTrees) (line : ℕ) (context : Context) → AllByRecursion (λ (parameter : Parameter). RangeNamesOthers first parameter.1) second → (all : List (List ℤ)) →
    HaveSafePools (point_terms (point_of first [] (alone line (map_scope sequential second private body)) context) all) → HaveSafePools (rows (cell first second private body context) all (points (ranges_of second) context.values) none)
rows-pools sequential first second private body line context named [] h = tt
rows-pools sequential first second private body line context named (p ∷ all) h =
    row-pools (λ p. point_of second private body (at_point context first [] p)) p (points (ranges_of second) context.values) (private_memory context.containers []) (rows (cell first second private body context) all (points (ranges_of second) context.values) none)
    (subst (λ qs. HaveSafePools (point_terms (point_of second private body (at_point context first [] p)) qs)) (points-agree first second p context.values named) h.0.0)
    (rows-pools sequential first second private body line context named all h.1)

-- ---- rows cell by cell

row-alike : (f g : List ℤ → List ℤ → Term Place) (p : List ℤ) (qs : List (List ℤ)) (ts us : Terms Place) → ((p q : List ℤ) → HasSafePools (f p q) → EndsAlike (f p q) (g p q)) → HaveSafePools (row f p qs ts) → (HaveSafePools ts → EndAlike ts us) → EndAlike (row f p qs ts) (row g p qs us)
row-alike f g p [] ts us h safe e = e safe
row-alike f g p (q ∷ qs) ts us h safe e = end-also (f p q) (g p q) (row f p qs ts) (row g p qs us) (h p q safe.0) (row-alike f g p qs ts us h safe.1 e)

pub rows-alike : (f g : List ℤ → List ℤ → Term Place) (ps qs : List (List ℤ)) → ((p q : List ℤ) → HasSafePools (f p q) → EndsAlike (f p q) (g p q)) → HaveSafePools (rows f ps qs none) → EndAlike (rows f ps qs none) (rows g ps qs none)
rows-alike f g [] qs h safe = end-none
rows-alike f g (p ∷ ps) qs h safe = row-alike f g p qs (rows f ps qs none) (rows g ps qs none) h safe (rows-alike f g ps qs h)
