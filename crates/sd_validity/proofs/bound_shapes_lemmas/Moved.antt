-- Links, copies and reductions keep their shapes with sizes.
use Rattle.std.proofs.Common.{◌≡◌, ◌∙◌, ℕ, zero, suc, ℤ, pos, List, [], ◌∷◌, ◌++◌, map, take, drop, length, Option, Some, None, nat_lt, Bool, true, false, ◌&&◌, refl, ap}
use Rattle.std.specs.Ordering.{int_eq}
use Rattle.std.specs.List.{AllByRecursion}
use Rattle.sd_range.specs.declared.affine.Affine.{Affine}
use Rattle.sd_range.specs.declared.range.Range.{Range}
use Rattle.sd_range.specs.declared.subset.Dim.{Dim}
use Rattle.sd_range.specs.declared.subset.Dim.TheVariants.{Index, Span}
use Rattle.sd_graph.specs.PlainTree.{KindTree, task, map_scope, consume_scope, nested_graph, reduction, copy}
use Rattle.sd_graph.specs.ContainerParts.{Containers, container_at}
use Rattle.sd_graph.specs.declared.link.Link.{Link}
use Rattle.sd_valid.specs.BoundExpression.{bound_affine, bound_range, bound_dim, bound_link}
use Rattle.sd_valid.specs.BoundTree.{bound_entry, bound_kind}
use Rattle.sd_validity.specs.rules.Places.{doing}
use Rattle.sd_validity.specs.rules.Parts.{spans_of, link_spans}
use Rattle.sd_validity.specs.rules.Shapes.{are_extents_same, end_of, range_extent, dim_extent, shape_of, are_steps_one}
use Rattle.sd_validity.specs.rules.NestedLinks.{has_shape}
use Rattle.sd_validity.specs.rules.MovedShapes.{are_two_containers, are_steps_same, is_copy_right, is_axis, spans_left, is_reduction_right, are_shapes_right}
use Rattle.sd_validity.specs.bound_shapes.NormalShapes.{IsNormalAffine, IsNormalRange, HasNormalRanges, HasNormalSides}
use Rattle.sd_validity.proofs.bound_shapes_lemmas.Extents.{HasNormal, bound_extent, extents_bound}

split_and : (first second : Bool) → (first && second) ≡ true → (first ≡ true) × (second ≡ true)
split_and true second e = (refl, e)
split_and false second e = cc

-- ---- normal forms

end_normal : (ends : List Affine) → AllByRecursion IsNormalAffine ends → IsNormalAffine (end_of ends)
end_normal [] normal = tt
end_normal (end ∷ ends) normal = normal.0

ranges_normal : (ranges : List Range) → AllByRecursion IsNormalRange ranges → AllByRecursion HasNormal (map range_extent ranges)
ranges_normal [] normal = tt
ranges_normal (range ∷ ranges) normal = ((end_normal range.ends normal.0.1, normal.0.0), ranges_normal ranges normal.1)

shape_normal : (ranges : List Range) → AllByRecursion IsNormalRange ranges → AllByRecursion HasNormal (shape_of ranges)
shape_normal [] normal = ((tt, tt), tt)
shape_normal (range ∷ ranges) normal = ranges_normal (range ∷ ranges) normal

dims_normal : (extents : List Affine) → AllByRecursion IsNormalAffine extents → AllByRecursion HasNormal (map dim_extent extents)
dims_normal [] normal = tt
dims_normal (extent ∷ extents) normal = ((normal.0, tt), dims_normal extents normal.1)

taken : (count : ℕ) (ranges : List Range) → AllByRecursion IsNormalRange ranges → AllByRecursion IsNormalRange (take count ranges)
taken zero ranges normal = tt
taken (suc count) [] normal = tt
taken (suc count) (range ∷ ranges) normal = (normal.0, taken count ranges normal.1)

dropped : (count : ℕ) (ranges : List Range) → AllByRecursion IsNormalRange ranges → AllByRecursion IsNormalRange (drop count ranges)
dropped zero ranges normal = normal
dropped (suc count) [] normal = tt
dropped (suc count) (range ∷ ranges) normal = dropped count ranges normal.1

joined : (first second : List Range) → AllByRecursion IsNormalRange first → AllByRecursion IsNormalRange second → AllByRecursion IsNormalRange (first ++ second)
joined [] second normal normals = normals
joined (range ∷ first) second normal normals = (normal.0, joined first second normal.1 normals)

left_normal : (axis : Option ℕ) (ranges : List Range) → AllByRecursion IsNormalRange ranges → AllByRecursion IsNormalRange (spans_left axis ranges)
left_normal None ranges normal = tt
left_normal (Some axis) ranges normal = joined (take axis ranges) (drop (suc axis) ranges) (taken axis ranges normal) (dropped (suc axis) ranges normal)

-- ---- with sizes

module _ (sizes : List ℤ) where
  spans_bound : (dims : List Dim) → spans_of (map (bound_dim sizes) dims) ≡ map (bound_range sizes) (spans_of dims)
  spans_bound [] = refl
  spans_bound (Index at ∷ dims) = spans_bound dims
  spans_bound (Span range ∷ dims) = ap (λ ranges. bound_range sizes range ∷ ranges) (spans_bound dims)

  link_bound : (link : Link) → link_spans (bound_link sizes link) ≡ map (bound_range sizes) (link_spans link)
  link_bound link = spans_bound link.memlet.subset.dims

  end_bound : (ends : List Affine) → end_of (map (bound_affine sizes) ends) ≡ bound_affine sizes (end_of ends)
  end_bound [] = refl
  end_bound (end ∷ ends) = refl

  range_bound : (range : Range) → range_extent (bound_range sizes range) ≡ bound_extent sizes (range_extent range)
  range_bound range = λ i. record { last = end_bound range.ends i; begin = bound_affine sizes range.begin }

  ranges_bound : (ranges : List Range) → map range_extent (map (bound_range sizes) ranges) ≡ map (bound_extent sizes) (map range_extent ranges)
  ranges_bound [] = refl
  ranges_bound (range ∷ ranges) = λ i. range_bound range i ∷ ranges_bound ranges i

  shape_bound : (ranges : List Range) → shape_of (map (bound_range sizes) ranges) ≡ map (bound_extent sizes) (shape_of ranges)
  shape_bound [] = refl
  shape_bound (range ∷ ranges) = ranges_bound (range ∷ ranges)

  dims_bound : (extents : List Affine) → map dim_extent (map (bound_affine sizes) extents) ≡ map (bound_extent sizes) (map dim_extent extents)
  dims_bound [] = refl
  dims_bound (extent ∷ extents) = ap (λ rest. bound_extent sizes (dim_extent extent) ∷ rest) (dims_bound extents)

  steps_bound : (ranges : List Range) → are_steps_one (map (bound_range sizes) ranges) ≡ are_steps_one ranges
  steps_bound [] = refl
  steps_bound (range ∷ ranges) = ap (λ rest. int_eq range.step (pos 1) && rest) (steps_bound ranges)

  same_steps_bound : (ranges others : List Range) → are_steps_same (map (bound_range sizes) ranges) (map (bound_range sizes) others) ≡ are_steps_same ranges others
  same_steps_bound [] [] = refl
  same_steps_bound [] (other ∷ others) = refl
  same_steps_bound (range ∷ ranges) [] = refl
  same_steps_bound (range ∷ ranges) (other ∷ others) = ap (λ rest. int_eq range.step other.step && rest) (same_steps_bound ranges others)

  -- two lists of ranges
  moved_bound : (ranges others : List Range) → AllByRecursion IsNormalRange ranges → AllByRecursion IsNormalRange others → are_extents_same (map range_extent ranges) (map range_extent others) ≡ true →
      are_extents_same (map range_extent (map (bound_range sizes) ranges)) (map range_extent (map (bound_range sizes) others)) ≡ true
  moved_bound ranges others normal normals is =
      (λ i. are_extents_same (ranges_bound ranges i) (ranges_bound others i)) ∙ extents_bound sizes (map range_extent ranges) (map range_extent others) (ranges_normal ranges normal) (ranges_normal others normals) is

  shapes_bound : (ranges others : List Range) → AllByRecursion IsNormalRange ranges → AllByRecursion IsNormalRange others → are_extents_same (shape_of ranges) (shape_of others) ≡ true →
      are_extents_same (shape_of (map (bound_range sizes) ranges)) (shape_of (map (bound_range sizes) others)) ≡ true
  shapes_bound ranges others normal normals is =
      (λ i. are_extents_same (shape_bound ranges i) (shape_bound others i)) ∙ extents_bound sizes (shape_of ranges) (shape_of others) (shape_normal ranges normal) (shape_normal others normals) is

  extents_of_bound : (containers : Containers) (number : ℕ) → (container_at (map (bound_entry sizes) containers) number).extents ≡ map (bound_affine sizes) (container_at containers number).extents
  extents_of_bound [] number = refl
  extents_of_bound (entry ∷ containers) zero = refl
  extents_of_bound (entry ∷ containers) (suc number) = extents_of_bound containers number

  pub parameter_bound : (inner : Containers) (number : ℕ) (link : Link) → AllByRecursion IsNormalAffine (container_at inner number).extents → HasNormalRanges link → has_shape inner number link ≡ true →
      has_shape (map (bound_entry sizes) inner) number (bound_link sizes link) ≡ true
  parameter_bound inner number link normal normals is =
      let extents : List Affine = (container_at inner number).extents in
      let split = split_and (are_steps_one (link_spans link)) (are_extents_same (map dim_extent extents) (shape_of (link_spans link))) is in
      let steps : are_steps_one (link_spans (bound_link sizes link)) ≡ true = ap are_steps_one (link_bound link) ∙ steps_bound (link_spans link) ∙ split.0 in
      let same : are_extents_same (map dim_extent (container_at (map (bound_entry sizes) inner) number).extents) (shape_of (link_spans (bound_link sizes link))) ≡ true =
      (λ i. are_extents_same (map dim_extent (extents_of_bound inner number i)) (shape_of (link_bound link i))) ∙ (λ i. are_extents_same (dims_bound extents i) (shape_bound (link_spans link) i))
      ∙ extents_bound sizes (map dim_extent extents) (shape_of (link_spans link)) (dims_normal extents normal) (shape_normal (link_spans link) normals) split.1 in
      rw (steps, same) refl

  -- ---- copies and reductions

  copy_bound : (from to : Link) → HasNormalRanges from → HasNormalRanges to → is_copy_right from to ≡ true → is_copy_right (bound_link sizes from) (bound_link sizes to) ≡ true
  copy_bound from to normal normals is =
      let two = split_and (are_two_containers from to) (are_steps_same (link_spans from) (link_spans to) && are_extents_same (map range_extent (link_spans from)) (map range_extent (link_spans to))) is in
      let split = split_and (are_steps_same (link_spans from) (link_spans to)) (are_extents_same (map range_extent (link_spans from)) (map range_extent (link_spans to))) two.1 in
      let steps : are_steps_same (link_spans (bound_link sizes from)) (link_spans (bound_link sizes to)) ≡ true =
      (λ i. are_steps_same (link_bound from i) (link_bound to i)) ∙ same_steps_bound (link_spans from) (link_spans to) ∙ split.0 in
      let same : are_extents_same (map range_extent (link_spans (bound_link sizes from))) (map range_extent (link_spans (bound_link sizes to))) ≡ true =
      (λ i. are_extents_same (map range_extent (link_bound from i)) (map range_extent (link_bound to i))) ∙ moved_bound (link_spans from) (link_spans to) normal normals split.1 in
      rw (two.0, steps, same) refl

  axis_bound : (axis : Option ℕ) (ranges : List Range) → is_axis axis (map (bound_range sizes) ranges) ≡ is_axis axis ranges
  axis_bound None ranges = refl
  axis_bound (Some axis) ranges = ap (nat_lt axis) (longer ranges)
    where
      longer : (ranges : List Range) → length (map (bound_range sizes) ranges) ≡ length ranges
      longer [] = refl
      longer (range ∷ ranges) = ap suc (longer ranges)

  taken_bound : (count : ℕ) (ranges : List Range) → take count (map (bound_range sizes) ranges) ≡ map (bound_range sizes) (take count ranges)
  taken_bound zero ranges = refl
  taken_bound (suc count) [] = refl
  taken_bound (suc count) (range ∷ ranges) = ap (λ rest. bound_range sizes range ∷ rest) (taken_bound count ranges)

  dropped_bound : (count : ℕ) (ranges : List Range) → drop count (map (bound_range sizes) ranges) ≡ map (bound_range sizes) (drop count ranges)
  dropped_bound zero ranges = refl
  dropped_bound (suc count) [] = refl
  dropped_bound (suc count) (range ∷ ranges) = dropped_bound count ranges

  joined_bound : (first second : List Range) → map (bound_range sizes) first ++ map (bound_range sizes) second ≡ map (bound_range sizes) (first ++ second)
  joined_bound [] second = refl
  joined_bound (range ∷ first) second = ap (λ rest. bound_range sizes range ∷ rest) (joined_bound first second)

  left_bound : (axis : Option ℕ) (ranges : List Range) → spans_left axis (map (bound_range sizes) ranges) ≡ map (bound_range sizes) (spans_left axis ranges)
  left_bound None ranges = refl
  left_bound (Some axis) ranges = (λ i. taken_bound axis ranges i ++ dropped_bound (suc axis) ranges i) ∙ joined_bound (take axis ranges) (drop (suc axis) ranges)

  reduction_bound : (axis : Option ℕ) (from to : Link) → HasNormalRanges from → HasNormalRanges to → is_reduction_right axis from to ≡ true → is_reduction_right axis (bound_link sizes from) (bound_link sizes to) ≡ true
  reduction_bound axis from to normal normals is =
      let left : List Range = spans_left axis (link_spans from) in
      let halves = split_and (are_two_containers from to && (are_steps_one (link_spans from) && are_steps_one (link_spans to))) (is_axis axis (link_spans from) && are_extents_same (shape_of left) (shape_of (link_spans to))) is in
      let first = split_and (are_two_containers from to) (are_steps_one (link_spans from) && are_steps_one (link_spans to)) halves.0 in
      let steps = split_and (are_steps_one (link_spans from)) (are_steps_one (link_spans to)) first.1 in
      let second = split_and (is_axis axis (link_spans from)) (are_extents_same (shape_of left) (shape_of (link_spans to))) halves.1 in
      let steps_from : are_steps_one (link_spans (bound_link sizes from)) ≡ true = ap are_steps_one (link_bound from) ∙ steps_bound (link_spans from) ∙ steps.0 in
      let steps_to : are_steps_one (link_spans (bound_link sizes to)) ≡ true = ap are_steps_one (link_bound to) ∙ steps_bound (link_spans to) ∙ steps.1 in
      let axis_is : is_axis axis (link_spans (bound_link sizes from)) ≡ true = ap (is_axis axis) (link_bound from) ∙ axis_bound axis (link_spans from) ∙ second.0 in
      let same : are_extents_same (shape_of (spans_left axis (link_spans (bound_link sizes from)))) (shape_of (link_spans (bound_link sizes to))) ≡ true =
      (λ i. are_extents_same (shape_of (spans_left axis (link_bound from i))) (shape_of (link_bound to i))) ∙ ap (λ ranges. are_extents_same (shape_of ranges) (shape_of (map (bound_range sizes) (link_spans to)))) (left_bound axis (link_spans from))
      ∙ shapes_bound left (link_spans to) (left_normal axis (link_spans from) normal) normals second.1 in
      rw (first.0, steps_from, steps_to, axis_is, same) refl

  pub kind_bound : (kind : KindTree) → HasNormalSides kind → are_shapes_right (doing kind) ≡ true → are_shapes_right (doing (bound_kind sizes kind)) ≡ true
  kind_bound (task code ins outs) normal is = refl
  kind_bound (map_scope sequential params private body) normal is = refl
  kind_bound (consume_scope stream element private body) normal is = refl
  kind_bound (nested_graph inner links) normal is = refl
  kind_bound (reduction resolution axis identity from to) normal is = reduction_bound axis from to normal.0 normal.1 is
  kind_bound (copy from to) normal is = copy_bound from to normal.0 normal.1 is
