-- A map of two lists of parameters does the same as a map of the first round a map of the second.
use Rattle.std.proofs.Common.{◌≡◌, ◌≢◌, ℕ, suc, ℤ, List, [], ◌∷◌, ◌++◌, map, length, drop, Bool, true, false, if◌then◌else◌, refl, sym, ◌∙◌, ap, subst, arith}
use Rattle.std.specs.List.{AllByRecursion, flat_map}
use Rattle.sd_range.specs.declared.range.Range.{Range}
use Rattle.sd_range.specs.Affine.{variable_value}
use Rattle.sd_range.specs.Range.{range_values}
use Rattle.sd_range.specs.Points.{tuples, points}
use Rattle.sd_work.specs.Memory.{Memory, Memories}
use Rattle.sd_work.specs.Exit.{Values}
use Rattle.sd_work.specs.Residual.{Term, list, Items, Points, owning, Terms, none, also}
use Rattle.sd_work.specs.BigStep.{Coming, reached, and_then, big_parts}
use Rattle.sd_graph.specs.PlainTree.{map_scope, ItemTrees, no_item, and_item}
use Rattle.sd_graph.specs.ContainerParts.{Containers}
use Rattle.sd_graph.specs.Wiring.{has_number}
use Rattle.sd_range.specs.Variables.{with_variable, with_variables}
use Rattle.sd_graph.specs.Context.{Reach, Context, own_reach, raised, private_memory}
use Rattle.sd_graph.specs.Unfold.{assigned, at_point, point_terms, in_any_order, order_of_points, unfold_kind}
use Rattle.sd_graph.specs.declared.place.Place.{Place}
use Rattle.sd_range.proofs.Variables.{variable_kept}
use Rattle.sd_alike.specs.alike.Lift.{Lift, as_it_is, added, reach_in}
use Rattle.sd_alike.specs.alike.SameWork.{DoesSame, DoSame, EndsSame}
use Rattle.sd_alike.specs.alike.Alike.{ItemsBelow, AreAlike}
use Rattle.sd_alike.specs.alike.Maps.{RangesWithout}
use Rattle.sd_alike.proofs.alike_lemmas.SameLeaf.{ends_then_from}
use Rattle.sd_alike.proofs.alike_lemmas.SameTerms.{owning_same}
use Rattle.sd_alike.proofs.alike_lemmas.SameValues.{ranges_where}
use Rattle.sd_alike.proofs.alike_lemmas.SameTrees.{body_of, points_do_same, items_same}
use Rattle.sd_alike.proofs.alike_lemmas.SamePlaces.{parts_then, parts_do_same, then_reached}

-- ---- points

pub terms_of_both : (term : List ℤ → Term Place) (points others : List (List ℤ)) → point_terms term (points ++ others) ≡ parts_then (point_terms term points) (point_terms term others)
terms_of_both term [] others = refl
terms_of_both term (point ∷ points) others = ap (also (term point)) (terms_of_both term points others)

terms_behind : (term : List ℤ → Term Place) (value : ℤ) (points : List (List ℤ)) → point_terms term (map (λ rest. value ∷ rest) points) ≡ point_terms (λ rest. term (value ∷ rest)) points
terms_behind term value [] = refl
terms_behind term value (point ∷ points) = ap (also (term (value ∷ point))) (terms_behind term value points)

-- points one first number after another, where those with each first number do the same
each_first : (most : ℕ) (lift : Lift) (term choice : List ℤ → Term Place) (rests firsts : List (List ℤ)) →
    ((value : ℤ) → DoSame most lift (point_terms (λ rest. term (value ∷ rest)) rests) (point_terms (λ rest. choice (value ∷ rest)) firsts)) → (values : List ℤ) →
    DoSame most lift (point_terms term (flat_map (λ value. map (λ rest. value ∷ rest) rests) values)) (point_terms choice (flat_map (λ value. map (λ rest. value ∷ rest) firsts) values))
each_first most lift term choice rests firsts each [] = λ memories turns. refl
each_first most lift term choice rests firsts each (value ∷ values) =
    let later : List (List ℤ) = flat_map (λ value. map (λ rest. value ∷ rest) rests) values in
    let later_choices : List (List ℤ) = flat_map (λ value. map (λ rest. value ∷ rest) firsts) values in
    subst (λ parts. DoSame most lift parts (point_terms choice (map (λ rest. value ∷ rest) firsts ++ later_choices)))
    (sym (terms_of_both term (map (λ rest. value ∷ rest) rests) later ∙ ap (λ parts. parts_then parts (point_terms term later)) (terms_behind term value rests)))
    (subst (λ parts. DoSame most lift (parts_then (point_terms (λ rest. term (value ∷ rest)) rests) (point_terms term later)) parts)
    (sym (terms_of_both choice (map (λ rest. value ∷ rest) firsts) later_choices ∙ ap (λ parts. parts_then parts (point_terms choice later_choices)) (terms_behind choice value firsts)))
    (parts_do_same most lift (point_terms (λ rest. term (value ∷ rest)) rests) (point_terms term later) (point_terms (λ rest. choice (value ∷ rest)) firsts) (point_terms choice later_choices)
    (each value) (each_first most lift term choice rests firsts each values)))

-- where each choice of the first numbers does the same as all of its points, the choices do the same as all points
chosen_do_same : (most : ℕ) (lift : Lift) (firsts others : List (List ℤ)) (term choice : List ℤ → Term Place) →
    ((first : List ℤ) → length first ≡ length firsts → DoSame most lift (point_terms (λ rest. term (first ++ rest)) (tuples others)) (also (choice first) none)) →
    DoSame most lift (point_terms term (tuples (firsts ++ others))) (point_terms choice (tuples firsts))
chosen_do_same most lift [] others term choice each = each [] refl
chosen_do_same most lift (values ∷ firsts) others term choice each =
    each_first most lift term choice (tuples (firsts ++ others)) (tuples firsts)
    (λ value. chosen_do_same most lift firsts others (λ rest. term (value ∷ rest)) (λ rest. choice (value ∷ rest)) (λ first same. each (value ∷ first) (ap suc same))) values

-- ---- values

assigned_behind : (outer inner : List (ℕ × Range)) (first rest : List ℤ) → length first ≡ length outer → assigned (outer ++ inner) (first ++ rest) ≡ assigned outer first ++ assigned inner rest
assigned_behind [] inner [] rest same = refl
assigned_behind [] inner (value ∷ first) rest same = absurd (omega (arith, same))
assigned_behind (param ∷ outer) inner [] rest same = absurd (omega (arith, same))
assigned_behind (param ∷ outer) inner (value ∷ first) rest same = ap (λ others. (param.0, value) ∷ others) (assigned_behind outer inner first rest (omega (arith, same)))

pub with_both : (assignments others : List (ℕ × ℤ)) (values : Values) → with_variables (assignments ++ others) values ≡ with_variables others (with_variables assignments values)
with_both [] others values = refl
with_both (assignment ∷ assignments) others values = with_both assignments others (with_variable assignment.0 assignment.1 values)

assigned_kept : (params : List (ℕ × Range)) (point : List ℤ) (values : Values) (variable : ℕ) → AllByRecursion (λ param. param.0 ≢ variable) params →
    variable_value (with_variables (assigned params point) values) variable ≡ variable_value values variable
assigned_kept [] point values variable apart = refl
assigned_kept (param ∷ params) [] values variable apart = refl
assigned_kept (param ∷ params) (value ∷ point) values variable apart = assigned_kept params point (with_variable param.0 value values) variable apart.1 ∙ variable_kept param.0 variable value values apart.0

-- the points of inner ranges that name no outer parameter
pub inner_points : (outer inner : List (ℕ × Range)) (point : List ℤ) (values : Values) → RangesWithout outer inner →
    points (map (λ param. param.1) inner) (with_variables (assigned outer point) values) ≡ points (map (λ param. param.1) inner) values
inner_points outer inner point values apart =
    ap tuples (ranges_where (λ variable. AllByRecursion (λ param. param.0 ≢ variable) outer) values (with_variables (assigned outer point) values) (λ variable. assigned_kept outer point values variable) inner apart)

pub map_both : {A B : Type 0} (f : A → B) (xs ys : List A) → map f (xs ++ ys) ≡ map f xs ++ map f ys
map_both f [] ys = refl
map_both f (x ∷ xs) ys = ap (λ zs. f x ∷ zs) (map_both f xs ys)

length_maps : {A B C : Type 0} (f : B → C) (g : A → B) (xs : List A) → length (map f (map g xs)) ≡ length xs
length_maps f g [] = refl
length_maps f g (x ∷ xs) = ap suc (length_maps f g xs)

-- ---- contexts

pub own_behind : (own : Bool) (containers : Containers) (number : ℕ) (reach : Reach) (memory : Memory) →
    (if own then own_reach containers number else raised (raised reach)) ≡ reach_in (added 1 memory) (if own then own_reach containers number else raised reach)
own_behind true containers number reach memory = refl
own_behind false containers number reach memory = refl

-- inside a point of both, and inside a point of the inner map
both_alike : (count : ℕ) (context : Context) (outer inner : List (ℕ × Range)) (private : List ℕ) (first rest : List ℤ) (memory : Memory) → length first ≡ length outer →
    AreAlike (added 1 memory) count (at_point context (outer ++ inner) private (first ++ rest)) (at_point (at_point context outer [] first) inner private rest)
both_alike count context outer inner private first rest memory same = record {
  containers = refl;
  values = λ variable below. ap (λ values. variable_value values variable)
      (sym (ap (λ assignments. with_variables assignments context.values) (assigned_behind outer inner first rest same) ∙ with_both (assigned outer first) (assigned inner rest) context.values));
  reach = λ number. own_behind (has_number private number) context.containers number (context.reach number) memory;
}

-- an owner round a map does the same as the map
pub round_does_same : (most : ℕ) (memory : Memory) (parts others : Terms Place) (before before_one : ℕ → ℕ → Bool) → DoSame most (added 0 memory) parts others →
    DoSame most as_it_is parts (also (owning memory (list Items before_one (also (list Points before others) none))) none)
round_does_same most memory parts others before before_one same = λ memories turns.
    let within : Coming Place = big_parts others most (memory ∷ memories) turns in
    let leave : Memories → ℕ → Coming Place = λ memories turns. reached (drop 1 memories) turns in
    let left : EndsSame as_it_is (and_then (big_parts parts most memories turns) (λ memories turns. reached memories turns)) (and_then within leave) =
    ends_then_from as_it_is (added 0 memory) (big_parts parts most memories turns) within (λ memories turns. reached memories turns) leave (same memories turns) (λ memories turns. refl) in
    subst (λ coming. EndsSame as_it_is coming (and_then (and_then (and_then within (λ memories turns. reached memories turns)) leave) (λ memories turns. reached memories turns)))
    (then_reached (big_parts parts most memories turns))
    (subst (λ coming. EndsSame as_it_is (and_then (big_parts parts most memories turns) (λ memories turns. reached memories turns)) coming)
    (sym (then_reached (and_then (and_then within (λ memories turns. reached memories turns)) leave) ∙ ap (λ coming. and_then coming leave) (then_reached within)))
    left)

pub split_map : (most : ℕ) (one_sequential outer_sequential inner_sequential : Bool) (outer inner : List (ℕ × Range)) (private : List ℕ) (body : ItemTrees) (line outer_line inner_line : ℕ) (count : ℕ) (context : Context) → RangesWithout outer inner → ItemsBelow count body →
    DoesSame most as_it_is (unfold_kind (map_scope one_sequential (outer ++ inner) private body) line context) (unfold_kind (map_scope outer_sequential outer [] (and_item inner_line (map_scope inner_sequential inner private body) no_item)) outer_line context)
split_map most one_sequential outer_sequential inner_sequential outer inner private body line outer_line inner_line count context apart below =
    let firsts : List (List ℤ) = map (range_values context.values) (map (λ param. param.1) outer) in
    let rests : List (List ℤ) = map (range_values context.values) (map (λ param. param.1) inner) in
    let term : List ℤ → Term Place = λ point. owning (private_memory context.containers private) (body_of body (at_point context (outer ++ inner) private point)) in
    let choice : List ℤ → Term Place = λ point. owning (private_memory context.containers []) (body_of (and_item inner_line (map_scope inner_sequential inner private body) no_item) (at_point context outer [] point)) in
    subst (λ lists. DoSame most as_it_is (point_terms term (tuples lists)) (point_terms choice (tuples firsts)))
    (sym (ap (map (range_values context.values)) (map_both (λ param. param.1) outer inner) ∙ map_both (range_values context.values) (map (λ param. param.1) outer) (map (λ param. param.1) inner)))
    (chosen_do_same most as_it_is firsts rests term choice
    (λ first same.
    let within : Context = at_point context outer [] first in
    let inner_term : List ℤ → Term Place = λ rest. owning (private_memory context.containers private) (body_of body (at_point within inner private rest)) in
    subst (λ rest_points. DoSame most as_it_is (point_terms (λ rest. term (first ++ rest)) (tuples rests)) (also (owning (private_memory context.containers []) (list Items in_any_order (also (list Points (order_of_points inner_sequential) (point_terms inner_term rest_points)) none))) none))
    (sym (inner_points outer inner first context.values apart))
    (round_does_same most (private_memory context.containers []) (point_terms (λ rest. term (first ++ rest)) (tuples rests)) (point_terms inner_term (tuples rests)) (order_of_points inner_sequential) in_any_order
    (points_do_same most (added 0 (private_memory context.containers [])) (λ rest. term (first ++ rest)) inner_term
    (λ rest. owning_same most (added 0 (private_memory context.containers [])) (private_memory context.containers private)
    (body_of body (at_point context (outer ++ inner) private (first ++ rest))) (body_of body (at_point within inner private rest))
    (items_same most body (added 1 (private_memory context.containers [])) count (at_point context (outer ++ inner) private (first ++ rest)) (at_point within inner private rest) below
    (both_alike count context outer inner private first rest (private_memory context.containers []) (same ∙ length_maps (range_values context.values) (λ param. param.1) outer))))
    (tuples rests)))))
