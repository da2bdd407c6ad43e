-- Rule 6: the two sides of a copy, and of a reduction, are two containers, and have the same shape.
use Rattle.std.specs.Prelude.{ℕ, suc, nat_eq, nat_lt, List, [], ◌∷◌, ◌++◌, map, take, drop, length, Bool, true, false, not, ◌&&◌, Option, Some, None}
use Rattle.std.specs.Ordering.{int_eq}
use Rattle.sd_range.specs.declared.range.Range.{Range}
use Rattle.sd_graph.specs.PlainTree.{task, map_scope, consume_scope, nested_graph, reduction, copy}
use Rattle.sd_graph.specs.declared.link.Link.{Link}
use Rattle.sd_validity.specs.rules.Places.{Thing, whole, leaving, doing, Place}
use Rattle.sd_validity.specs.rules.Parts.{container_of, link_spans}
use Rattle.sd_validity.specs.rules.Shapes.{are_extents_same, are_steps_one, range_extent, shape_of}

abbrev pub are_two_containers : (from to : Link) → Bool
are_two_containers from to = not (nat_eq (container_of from) (container_of to))

-- the ranges of two lists have the same steps, one after another
abbrev pub are_steps_same : List Range → List Range → Bool
are_steps_same [] [] = true
are_steps_same [] (other ∷ others) = false
are_steps_same (range ∷ ranges) [] = false
are_steps_same (range ∷ ranges) (other ∷ others) = int_eq range.step other.step && are_steps_same ranges others

-- a copy: as many ranges, with the same steps and the same distance from begin to end
abbrev pub is_copy_right : (from to : Link) → Bool
is_copy_right from to =
    are_two_containers from to
    && (are_steps_same (link_spans from) (link_spans to) && are_extents_same (map range_extent (link_spans from)) (map range_extent (link_spans to)))

-- the axis is one of the ranges
abbrev pub is_axis : Option ℕ → List Range → Bool
is_axis None spans = true
is_axis (Some axis) spans = nat_lt axis (length spans)

-- the ranges that a reduction leaves
abbrev pub spans_left : Option ℕ → List Range → List Range
spans_left None spans = []
spans_left (Some axis) spans = take axis spans ++ drop (suc axis) spans

-- a reduction: ranges of step 1, an axis that is one of them, and a target of the shape that is left, or of one value
abbrev pub is_reduction_right : Option ℕ → (from to : Link) → Bool
is_reduction_right axis from to =
    (are_two_containers from to && (are_steps_one (link_spans from) && are_steps_one (link_spans to)))
    && (is_axis axis (link_spans from) && are_extents_same (shape_of (spans_left axis (link_spans from))) (shape_of (link_spans to)))

abbrev pub are_shapes_right : Thing → Bool
are_shapes_right whole = true
are_shapes_right (leaving items exits) = true
are_shapes_right (doing (task code ins outs)) = true
are_shapes_right (doing (map_scope sequential params private body)) = true
are_shapes_right (doing (consume_scope stream element private body)) = true
are_shapes_right (doing (nested_graph inner links)) = true
are_shapes_right (doing (reduction resolution axis identity from to)) = is_reduction_right axis from to
are_shapes_right (doing (copy from to)) = is_copy_right from to

abbrev pub rule_6 : (before : List Place) → Place → Bool
rule_6 before place = are_shapes_right place.thing
