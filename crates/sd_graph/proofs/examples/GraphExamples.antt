-- Nested graphs, reductions and loops: what their runs leave.
use Rattle.std.proofs.Common.{pos, negsuc, [], ◌∷◌, Some, None, true, false, refl, codes}
use Rattle.std.specs.Int.{int_wrap}
use Rattle.sd_num.specs.declared.resolution.Resolution.TheVariants.{Sum}
use Rattle.sd_range.specs.declared.subset.Dim.TheVariants.{Index, Span}
use Rattle.sd_work.specs.declared.fault.FaultKind.TheVariants.{Division}
use Rattle.sd_num.specs.declared.width.Width.TheVariants.{W64}
use Rattle.sd_work.specs.Memory.{array}
use Rattle.sd_graph.specs.PlainTree.{literal, variable, input, two, no_value, assign, no_act, and_act, task, map_scope, nested_graph, reduction, copy, no_item, and_item, no_state, and_state, GraphTree, graph}
use Rattle.sd_graph.specs.declared.container.ContainerKind.TheVariants.{Argument, Transient}
use Rattle.sd_graph.specs.declared.operator.TwoSign.TheVariants as signs
use Rattle.sd_graph.proofs.examples.ExampleParts.{constant, affine, from_to, of_variable, link_of, port_of, code_of, container_of, condition_of, transition, frame_of, runs_to, done, faulted}

-- ---- rows

abbrev rows_graph : GraphTree
rows_graph =
    graph (codes "rows")
    ((codes "A", container_of (constant (pos 2) ∷ constant (pos 2) ∷ []) Argument) ∷
    (codes "B", container_of (constant (pos 2) ∷ constant (pos 2) ∷ []) Argument) ∷ []) 2
    (codes "M" ∷ codes "r" ∷ []) 0
    (and_state no_item (transition 1 false None [] ∷ [])
    (and_state
    (and_item 9
    (map_scope false ((1, from_to (pos 0) (pos 1)) ∷ []) []
    (and_item 10
    (nested_graph
    (graph (codes "dbl")
    ((codes "X", container_of (constant (pos 2) ∷ []) Argument) ∷
    (codes "Y", container_of (constant (pos 2) ∷ []) Argument) ∷ []) 2
    (codes "M" ∷ codes "i" ∷ []) 0
    (and_state no_item (transition 1 false None [] ∷ [])
    (and_state
    (and_item 5
    (map_scope false ((1, from_to (pos 0) (pos 1)) ∷ []) []
    (and_item 6
    (task
    (code_of (port_of (codes "_in0") 0 ∷ []) (port_of (codes "_out") 0 ∷ []) [] 0
    (and_act
    (assign 1 no_value (two signs.Mul (input 0 no_value) (literal (pos 2)))) no_act))
    (link_of (codes "_in0") 0 (Index (of_variable 1) ∷ []) None ∷ [])
    (link_of (codes "_out") 1 (Index (of_variable 1) ∷ []) None ∷ []))
    no_item)) no_item) [] no_state)))
    (link_of (codes "X") 0 (Index (of_variable 1) ∷ Span (from_to (pos 0) (pos 1)) ∷ []) None ∷
    link_of (codes "Y") 1 (Index (of_variable 1) ∷ Span (from_to (pos 0) (pos 1)) ∷ []) None ∷ []))
    no_item)) no_item) [] no_state))

-- a nested graph sees a row of each array
a_nested_graph_sees_a_row :
    runs_to rows_graph ((pos 1 ∷ pos 2 ∷ pos 3 ∷ pos 4 ∷ []) ∷ (pos 0 ∷ pos 0 ∷ pos 0 ∷ pos 0 ∷ []) ∷ []) 19 20 100
    (done (array W64 (pos 1 ∷ pos 2 ∷ pos 3 ∷ pos 4 ∷ []) ∷ array W64 (pos 2 ∷ pos 4 ∷ pos 6 ∷ pos 8 ∷ []) ∷ []) 96)
unfolding int_wrap
a_nested_graph_sees_a_row = (refl, refl)

-- ---- red

abbrev red_graph : GraphTree
red_graph =
    graph (codes "red")
    ((codes "A", container_of (constant (pos 2) ∷ constant (pos 3) ∷ []) Argument) ∷
    (codes "B", container_of (constant (pos 2) ∷ []) Argument) ∷
    (codes "T", container_of (constant (pos 2) ∷ constant (pos 3) ∷ []) Transient) ∷ []) 2 [] 0
    (and_state no_item (transition 1 false None [] ∷ [])
    (and_state
    (and_item 5
    (copy
    (link_of (codes "from") 0 (Span (from_to (pos 0) (pos 1)) ∷ Span (from_to (pos 0) (pos 2)) ∷ []) None)
    (link_of (codes "to") 2 (Span (from_to (pos 0) (pos 1)) ∷ Span (from_to (pos 0) (pos 2)) ∷ []) None))
    no_item) (transition 2 false None [] ∷ [])
    (and_state
    (and_item 6
    (reduction Sum (Some 1) (Some (pos 0))
    (link_of (codes "from") 2 (Span (from_to (pos 0) (pos 1)) ∷ Span (from_to (pos 0) (pos 2)) ∷ []) None)
    (link_of (codes "to") 1 (Span (from_to (pos 0) (pos 1)) ∷ []) None)) no_item) [] no_state)))

-- rows are summed up in a copy
rows_are_summed_up :
    runs_to red_graph ((pos 1 ∷ pos 2 ∷ pos 3 ∷ pos 4 ∷ pos 5 ∷ pos 6 ∷ []) ∷ (pos 7 ∷ pos 8 ∷ []) ∷ []) 18 20 100
    (done (array W64 (pos 1 ∷ pos 2 ∷ pos 3 ∷ pos 4 ∷ pos 5 ∷ pos 6 ∷ []) ∷ array W64 (pos 6 ∷ pos 15 ∷ []) ∷ array W64 (pos 1 ∷ pos 2 ∷ pos 3 ∷ pos 4 ∷ pos 5 ∷ pos 6 ∷ []) ∷ []) 100)
unfolding int_wrap
rows_are_summed_up = (refl, refl)

-- ---- two

abbrev two_graph : GraphTree
two_graph =
    graph (codes "two")
    ((codes "A", container_of (constant (pos 3) ∷ []) Argument) ∷
    (codes "C", container_of (constant (pos 3) ∷ []) Argument) ∷
    (codes "T", container_of (constant (pos 3) ∷ []) Argument) ∷
    (codes "B", container_of (constant (pos 3) ∷ []) Argument) ∷ []) 4 (codes "i" ∷ codes "i" ∷ []) 0
    (and_state no_item (transition 1 false None [] ∷ [])
    (and_state
    (and_item 4
    (map_scope false ((0, from_to (pos 0) (pos 2)) ∷ []) []
    (and_item 5
    (task
    (code_of (port_of (codes "_in0") 0 ∷ []) (port_of (codes "_out") 0 ∷ []) [] 0
    (and_act (assign 1 no_value (two signs.FloorDiv (literal (pos 10)) (input 0 no_value))) no_act))
    (link_of (codes "_in0") 0 (Index (of_variable 0) ∷ []) None ∷ [])
    (link_of (codes "_out") 2 (Index (of_variable 0) ∷ []) None ∷ [])) no_item)) no_item)
    (transition 2 false None [] ∷ [])
    (and_state
    (and_item 6
    (map_scope false ((1, from_to (pos 0) (pos 2)) ∷ []) []
    (and_item 7
    (task
    (code_of (port_of (codes "_in0") 0 ∷ []) (port_of (codes "_out") 0 ∷ []) [] 0
    (and_act (assign 1 no_value (two signs.FloorDiv (literal (pos 1)) (input 0 no_value))) no_act))
    (link_of (codes "_in0") 1 (Index (of_variable 1) ∷ []) None ∷ [])
    (link_of (codes "_out") 3 (Index (of_variable 1) ∷ []) None ∷ [])) no_item)) no_item)
    [] no_state)))

-- the first fault in the order of items
the_first_division_by_zero :
    runs_to two_graph ((pos 1 ∷ pos 2 ∷ pos 5 ∷ []) ∷ (pos 1 ∷ pos 0 ∷ pos 2 ∷ []) ∷ (pos 0 ∷ pos 0 ∷ pos 0 ∷ []) ∷ (pos 0 ∷ pos 0 ∷ pos 0 ∷ []) ∷ []) 17 20 100
    (faulted (frame_of 7 ((codes "i", pos 1) ∷ []) ∷ []) Division)
unfolding int_wrap
the_first_division_by_zero = (refl, refl)

-- ---- jac

abbrev pub jac_graph : GraphTree
jac_graph =
    graph (codes "jac")
    ((codes "A", container_of (constant (pos 4) ∷ []) Argument) ∷
    (codes "B", container_of (constant (pos 4) ∷ []) Argument) ∷ []) 2
    (codes "N" ∷ codes "t" ∷ codes "i" ∷ codes "i" ∷ []) 0
    (and_state no_item (transition 1 false None ((1, constant (pos 0)) ∷ []) ∷ [])
    (and_state no_item
    (transition 2 false
    (Some
    (condition_of 5 []
    (code_of [] (port_of (codes "_out") 0 ∷ []) (1 ∷ []) 0
    (and_act (assign 0 no_value (two signs.Less (variable 0) (literal (pos 2)))) no_act))))
    [] ∷
    transition 5 false None [] ∷ [])
    (and_state no_item (transition 3 false None [] ∷ [])
    (and_state
    (and_item 6
    (map_scope false ((2, from_to (pos 1) (pos 2)) ∷ []) []
    (and_item 7
    (task
    (code_of
    (port_of (codes "_in0") 0 ∷ port_of (codes "_in1") 0 ∷ port_of (codes "_in2") 0 ∷ [])
    (port_of (codes "_out") 0 ∷ []) [] 0
    (and_act
    (assign 3 no_value
    (two signs.FloorDiv
    (two signs.Add (two signs.Add (input 0 no_value) (input 1 no_value)) (input 2 no_value))
    (literal (pos 3)))) no_act))
    (link_of (codes "_in0") 0 (Index (affine (negsuc 0) ((2, pos 1) ∷ [])) ∷ []) None ∷
    link_of (codes "_in1") 0 (Index (of_variable 2) ∷ []) None ∷
    link_of (codes "_in2") 0 (Index (affine (pos 1) ((2, pos 1) ∷ [])) ∷ []) None ∷ [])
    (link_of (codes "_out") 1 (Index (of_variable 2) ∷ []) None ∷ [])) no_item))
    no_item) (transition 4 false None [] ∷ [])
    (and_state
    (and_item 8
    (map_scope false ((3, from_to (pos 1) (pos 2)) ∷ []) []
    (and_item 9
    (task
    (code_of (port_of (codes "_in0") 0 ∷ []) (port_of (codes "_out") 0 ∷ []) [] 0
    (and_act (assign 1 no_value (input 0 no_value)) no_act))
    (link_of (codes "_in0") 1 (Index (of_variable 3) ∷ []) None ∷ [])
    (link_of (codes "_out") 0 (Index (of_variable 3) ∷ []) None ∷ []))
    no_item)) no_item)
    (transition 1 true None ((1, affine (pos 1) ((1, pos 1) ∷ [])) ∷ []) ∷ [])
    (and_state no_item [] no_state))))))

-- a loop with two maps in it
a_loop_goes_round :
    runs_to jac_graph ((pos 0 ∷ pos 3 ∷ pos 6 ∷ pos 9 ∷ []) ∷ (pos 0 ∷ pos 0 ∷ pos 0 ∷ pos 0 ∷ []) ∷ []) 44 20 100
    (done (array W64 (pos 0 ∷ pos 3 ∷ pos 6 ∷ pos 9 ∷ []) ∷ array W64 (pos 0 ∷ pos 3 ∷ pos 6 ∷ pos 0 ∷ []) ∷ []) 90)
unfolding int_wrap
a_loop_goes_round = (refl, refl)

-- ---- down

abbrev down_graph : GraphTree
down_graph =
    graph (codes "down")
    ((codes "A", container_of (constant (pos 1) ∷ []) Argument) ∷ []) 1 [] 0
    (and_state no_item (transition 1 false None [] ∷ [])
    (and_state no_item
    (transition 2 false
    (Some
    (condition_of 4
    (link_of (codes "_in0") 0 (Index (constant (pos 0)) ∷ []) None ∷ [])
    (code_of (port_of (codes "_in0") 0 ∷ []) (port_of (codes "_out") 0 ∷ []) [] 0
    (and_act (assign 1 no_value (two signs.Greater (input 0 no_value) (literal (pos 0)))) no_act))))
    [] ∷
    transition 4 false None [] ∷ [])
    (and_state no_item (transition 3 false None [] ∷ [])
    (and_state
    (and_item 5
    (task
    (code_of (port_of (codes "_in0") 0 ∷ []) (port_of (codes "_out") 0 ∷ []) [] 0
    (and_act (assign 1 no_value (two signs.Sub (input 0 no_value) (literal (pos 3)))) no_act))
    (link_of (codes "_in0") 0 (Index (constant (pos 0)) ∷ []) None ∷ [])
    (link_of (codes "_out") 0 (Index (constant (pos 0)) ∷ []) None ∷ [])) no_item)
    (transition 1 true None [] ∷ []) (and_state no_item [] no_state)))))

-- a loop while a condition holds
a_loop_goes_on_while_it_holds : runs_to down_graph ((pos 7 ∷ []) ∷ []) 22 20 100 (done (array W64 (negsuc 1 ∷ []) ∷ []) 94)
unfolding int_wrap
a_loop_goes_on_while_it_holds = (refl, refl)
