-- Which elements are read and written.
use Rattle.std.proofs.Common.{◌≡◌, pos, [], ◌∷◌, Some, None, false, refl, codes}
use Rattle.std.specs.Int.{int_wrap}
use Rattle.sd_num.specs.declared.resolution.Resolution.TheVariants.{Sum, Max}
use Rattle.sd_range.specs.declared.subset.Dim.TheVariants.{Index, Span}
use Rattle.sd_work.specs.declared.fault.FaultKind.TheVariants.{Subscript}
use Rattle.sd_num.specs.declared.width.Width.TheVariants.{W64}
use Rattle.sd_work.specs.Memory.{array}
use Rattle.sd_graph.specs.PlainTree.{literal, variable, input, two, no_value, and_value, assign, no_act, and_act, task, map_scope, nested_graph, reduction, no_item, and_item, no_state, and_state, GraphTree, graph}
use Rattle.sd_graph.specs.declared.container.ContainerKind.TheVariants.{Argument, Transient}
use Rattle.sd_graph.specs.declared.operator.TwoSign.TheVariants as signs
use Rattle.sd_graph.proofs.examples.ExampleParts.{constant, affine, range_of, from_to, of_variable, link_of, port_of, code_of, container_of, transition, frame_of, picked_from, trace_of, done, faulted}

-- ---- axis

abbrev axis_graph : GraphTree
axis_graph =
    graph (codes "axis")
    ((codes "A", container_of (constant (pos 2) ∷ constant (pos 3) ∷ []) Argument) ∷
    (codes "B", container_of (constant (pos 3) ∷ []) Argument) ∷
    (codes "R", container_of (constant (pos 1) ∷ []) Argument) ∷ []) 3 [] 0
    (and_state no_item (transition 1 false None [] ∷ [])
    (and_state
    (and_item 4
    (reduction Sum (Some 0) (Some (pos 0))
    (link_of (codes "from") 0 (Span (from_to (pos 0) (pos 1)) ∷ Span (from_to (pos 0) (pos 2)) ∷ []) None)
    (link_of (codes "to") 1 (Span (from_to (pos 0) (pos 2)) ∷ []) None)) no_item)
    (transition 2 false None [] ∷ [])
    (and_state
    (and_item 5
    (reduction Max None None
    (link_of (codes "from") 0 (Span (from_to (pos 0) (pos 1)) ∷ Span (from_to (pos 0) (pos 2)) ∷ []) None)
    (link_of (codes "to") 2 (Span (from_to (pos 0) (pos 0)) ∷ []) None)) no_item) [] no_state)))

-- a reduction along the first axis, and one of all elements without an identity
columns_are_summed_up :
    picked_from axis_graph ((pos 1 ∷ pos 2 ∷ pos 3 ∷ pos 4 ∷ pos 5 ∷ pos 6 ∷ []) ∷ (pos 9 ∷ pos 9 ∷ pos 9 ∷ []) ∷ (pos 4 ∷ []) ∷ []) 19 [] 100
    ≡ done (array W64 (pos 1 ∷ pos 2 ∷ pos 3 ∷ pos 4 ∷ pos 5 ∷ pos 6 ∷ []) ∷ array W64 (pos 5 ∷ pos 7 ∷ pos 9 ∷ []) ∷
    array W64 (pos 6 ∷ []) ∷ []) 100
unfolding int_wrap
columns_are_summed_up = refl

-- ---- wide

abbrev wide_graph : GraphTree
wide_graph =
    graph (codes "wide")
    ((codes "A", container_of (constant (pos 6) ∷ []) Argument) ∷
    (codes "B", container_of (constant (pos 6) ∷ []) Argument) ∷ []) 2 (codes "i" ∷ []) 0
    (and_state no_item (transition 1 false None [] ∷ [])
    (and_state
    (and_item 4
    (map_scope false ((0, from_to (pos 0) (pos 1)) ∷ []) []
    (and_item 5
    (task
    (code_of (port_of (codes "a") 1 ∷ []) (port_of (codes "b") 1 ∷ []) [] 0
    (and_act
    (assign 1 (and_value (literal (pos 1)) no_value)
    (input 0 (and_value (literal (pos 2)) no_value)))
    (and_act
    (assign 1 (and_value (literal (pos 2)) no_value)
    (input 0 (and_value (literal (pos 0)) no_value))) no_act)))
    (link_of (codes "a") 0 (Span (range_of (of_variable 0) (constant (pos 5) ∷ []) (pos 2)) ∷ []) None ∷ [])
    (link_of (codes "b") 1 (Span (range_of (of_variable 0) (constant (pos 5) ∷ []) (pos 2)) ∷ []) None ∷ []))
    no_item)) no_item) [] no_state))

-- a place in a connector counts steps of its subset
steps_count_in_connectors :
    picked_from wide_graph ((pos 1 ∷ pos 2 ∷ pos 3 ∷ pos 4 ∷ pos 5 ∷ pos 6 ∷ []) ∷ (pos 0 ∷ pos 0 ∷ pos 0 ∷ pos 0 ∷ pos 0 ∷ pos 0 ∷ []) ∷ []) 15 [] 100
    ≡ done (array W64 (pos 1 ∷ pos 2 ∷ pos 3 ∷ pos 4 ∷ pos 5 ∷ pos 6 ∷ []) ∷ array W64 (pos 0 ∷ pos 0 ∷ pos 5 ∷ pos 6 ∷
    pos 1 ∷ pos 2 ∷ []) ∷ []) 98
unfolding int_wrap
steps_count_in_connectors = refl

-- ---- large

abbrev large_graph : GraphTree
large_graph =
    graph (codes "large")
    ((codes "A", container_of (constant (pos 1) ∷ []) Argument) ∷ []) 1
    (codes "a" ∷ codes "b" ∷ codes "c" ∷ codes "d" ∷ []) 0
    (and_state no_item (transition 1 false None [] ∷ [])
    (and_state
    (and_item 4
    (map_scope false ((0, from_to (pos 549755813889) (pos 549755813889)) ∷ []) []
    (and_item 5
    (map_scope false
    ((
      1,
      range_of (affine (pos 0) ((0, pos 1024) ∷ [])) (affine (pos 0) ((0, pos 1024) ∷ []) ∷ [])
          (pos 1),
    ) ∷ []) []
    (and_item 6
    (map_scope false
    ((
      2,
      range_of (affine (pos 0) ((1, pos 1024) ∷ [])) (affine (pos 0) ((1, pos 1024) ∷ []) ∷ [])
          (pos 1),
    ) ∷ []) []
    (and_item 7
    (map_scope false
    ((
      3,
      range_of (affine (pos 0) ((2, pos 1024) ∷ []))
          (affine (pos 0) ((2, pos 1024) ∷ []) ∷ []) (pos 1),
    ) ∷ []) []
    (and_item 8
    (task
    (code_of [] (port_of (codes "_out") 0 ∷ []) (3 ∷ []) 0
    (and_act
    (assign 0 no_value (two signs.FloorDiv (variable 0) (literal (pos 3)))) no_act))
    []
    (link_of (codes "_out") 0 (Index (constant (pos 0)) ∷ []) None ∷ []))
    no_item)) no_item)) no_item)) no_item)) no_item) [] no_state))

-- code sees a parameter modulo 2^64
a_parameter_wraps_in_code : picked_from large_graph ((pos 1 ∷ []) ∷ []) 5 [] 100 ≡ done (array W64 (pos 357913941 ∷ []) ∷ []) 99
unfolding int_wrap
a_parameter_wraps_in_code = refl

-- ---- owned

abbrev owned_graph : GraphTree
owned_graph =
    graph (codes "owned")
    ((codes "A", container_of (constant (pos 2) ∷ constant (pos 2) ∷ []) Argument) ∷
    (codes "B", container_of (constant (pos 2) ∷ constant (pos 2) ∷ []) Argument) ∷ []) 2 (codes "r" ∷ []) 0
    (and_state no_item (transition 1 false None [] ∷ [])
    (and_state
    (and_item 10
    (map_scope false ((0, from_to (pos 0) (pos 1)) ∷ []) []
    (and_item 11
    (nested_graph
    (graph (codes "inner")
    ((codes "X", container_of (constant (pos 2) ∷ []) Argument) ∷
    (codes "Y", container_of (constant (pos 2) ∷ []) Argument) ∷
    (codes "T", container_of (constant (pos 1) ∷ []) Transient) ∷ []) 2
    (codes "i" ∷ []) 0
    (and_state no_item (transition 1 false None [] ∷ [])
    (and_state
    (and_item 5
    (map_scope false ((0, from_to (pos 0) (pos 1)) ∷ []) []
    (and_item 6
    (task
    (code_of (port_of (codes "_in0") 0 ∷ []) (port_of (codes "_out") 0 ∷ []) [] 0
    (and_act (assign 1 no_value (input 0 no_value)) no_act))
    (link_of (codes "_in0") 0 (Index (of_variable 0) ∷ []) None ∷ [])
    (link_of (codes "_out") 2 (Index (constant (pos 0)) ∷ []) (Some Sum) ∷ []))
    no_item)) no_item) (transition 2 false None [] ∷ [])
    (and_state
    (and_item 7
    (task
    (code_of (port_of (codes "_in0") 0 ∷ []) (port_of (codes "_out") 0 ∷ []) [] 0
    (and_act (assign 1 no_value (input 0 no_value)) no_act))
    (link_of (codes "_in0") 2 (Index (constant (pos 0)) ∷ []) None ∷ [])
    (link_of (codes "_out") 1 (Index (constant (pos 0)) ∷ []) None ∷ []))
    no_item) [] no_state))))
    (link_of (codes "X") 0 (Index (of_variable 0) ∷ Span (from_to (pos 0) (pos 1)) ∷ []) None ∷
    link_of (codes "Y") 1 (Index (of_variable 0) ∷ Span (from_to (pos 0) (pos 1)) ∷ []) None ∷ []))
    no_item)) no_item) [] no_state))

-- the transients of a nested run begin with 0 each time
a_nested_run_has_transients_of_its_own :
    picked_from owned_graph ((pos 1 ∷ pos 2 ∷ pos 3 ∷ pos 4 ∷ []) ∷ (pos 0 ∷ pos 0 ∷ pos 0 ∷ pos 0 ∷ []) ∷ []) 27 (0 ∷ 1 ∷ 1 ∷ 0 ∷ 1 ∷ 1 ∷ []) 100
    ≡ done (array W64 (pos 1 ∷ pos 2 ∷ pos 3 ∷ pos 4 ∷ []) ∷ array W64 (pos 3 ∷ pos 0 ∷ pos 7 ∷ pos 0 ∷ []) ∷ []) 94
unfolding int_wrap
a_nested_run_has_transients_of_its_own = refl

a_nested_run_has_transients_of_its_own_as_traced :
    trace_of owned_graph ((pos 1 ∷ pos 2 ∷ pos 3 ∷ pos 4 ∷ []) ∷ (pos 0 ∷ pos 0 ∷ pos 0 ∷ pos 0 ∷ []) ∷ []) 27 (0 ∷ 1 ∷ 1 ∷ 0 ∷ 1 ∷ 1 ∷ []) 100
    ≡ (0, 1) ∷ (1, 2) ∷ (1, 3) ∷ (0, 3) ∷ (1, 4) ∷ (1, 4) ∷ (0, 4) ∷ (0, 4) ∷ (0, 4) ∷ (0, 3) ∷ (0, 3) ∷ (0, 3) ∷
    (0, 3) ∷ (0, 3) ∷ (0, 3) ∷ (0, 2) ∷ (0, 2) ∷ (0, 1) ∷ (0, 1) ∷ (0, 1) ∷ (0, 1) ∷ (0, 1) ∷ (0, 1) ∷ (0, 1) ∷
    (0, 1) ∷ (0, 1) ∷ []
unfolding int_wrap
a_nested_run_has_transients_of_its_own_as_traced = refl

-- ---- short

abbrev short_graph : GraphTree
short_graph =
    graph (codes "short")
    ((codes "A", container_of (constant (pos 4) ∷ []) Argument) ∷
    (codes "B", container_of (constant (pos 4) ∷ []) Argument) ∷ []) 2 [] 0
    (and_state no_item (transition 1 false None [] ∷ [])
    (and_state
    (and_item 8
    (nested_graph
    (graph (codes "half")
    ((codes "X", container_of (constant (pos 2) ∷ []) Argument) ∷
    (codes "Y", container_of (constant (pos 2) ∷ []) Argument) ∷ []) 2 (codes "i" ∷ [])
    0
    (and_state no_item (transition 1 false None [] ∷ [])
    (and_state
    (and_item 4
    (map_scope false ((0, from_to (pos 0) (pos 2)) ∷ []) []
    (and_item 5
    (task
    (code_of (port_of (codes "_in0") 0 ∷ []) (port_of (codes "_out") 0 ∷ []) [] 0
    (and_act (assign 1 no_value (input 0 no_value)) no_act))
    (link_of (codes "_in0") 0 (Index (of_variable 0) ∷ []) None ∷ [])
    (link_of (codes "_out") 1 (Index (of_variable 0) ∷ []) None ∷ []))
    no_item)) no_item) [] no_state)))
    (link_of (codes "X") 0 (Span (from_to (pos 0) (pos 1)) ∷ []) None ∷
    link_of (codes "Y") 1 (Span (from_to (pos 1) (pos 2)) ∷ []) None ∷ [])) no_item) [] no_state))

-- an element of a view is inside the parameter
a_view_ends_with_its_parameter :
    picked_from short_graph ((pos 1 ∷ pos 2 ∷ pos 3 ∷ pos 4 ∷ []) ∷ (pos 0 ∷ pos 0 ∷ pos 0 ∷ pos 0 ∷ []) ∷ []) 10 [] 100
    ≡ faulted (frame_of 8 [] ∷ frame_of 5 ((codes "i", pos 2) ∷ []) ∷ []) Subscript
unfolding int_wrap
a_view_ends_with_its_parameter = refl
