-- Which items wait for which: runs by picks, with the moves that there are at each step.
use Rattle.std.proofs.Common.{◌≡◌, pos, negsuc, [], ◌∷◌, Some, None, false, refl, codes}
use Rattle.std.specs.Int.{int_wrap}
use Rattle.sd_num.specs.declared.resolution.Resolution.TheVariants.{Sum}
use Rattle.sd_range.specs.declared.subset.Dim.TheVariants.{Index, Span}
use Rattle.sd_num.specs.declared.width.Width.TheVariants.{W64}
use Rattle.sd_work.specs.Memory.{array, stream}
use Rattle.sd_graph.specs.PlainTree.{literal, input, two, no_value, assign, no_act, and_act, task, map_scope, nested_graph, no_item, and_item, no_state, and_state, GraphTree, graph}
use Rattle.sd_graph.specs.declared.container.ContainerKind.TheVariants.{Argument, Stream}
use Rattle.sd_graph.specs.declared.operator.TwoSign.TheVariants as signs
use Rattle.sd_graph.proofs.examples.ExampleParts.{constant, from_to, link_of, port_of, code_of, container_of, condition_of, transition, picked_from, trace_of, done}

-- ---- pushes

abbrev pushes_graph : GraphTree
pushes_graph =
    graph (codes "pushes")
    ((codes "A", container_of (constant (pos 2) ∷ []) Argument) ∷
    (codes "R", container_of (constant (pos 1) ∷ []) Argument) ∷
    (codes "S", container_of [] Stream) ∷ []) 2 (codes "i" ∷ []) 0
    (and_state no_item (transition 1 false None [] ∷ [])
    (and_state
    (and_item 5
    (map_scope false ((0, from_to (pos 0) (pos 0)) ∷ []) []
    (and_item 6
    (task
    (code_of (port_of (codes "a") 0 ∷ []) (port_of (codes "s") 0 ∷ []) [] 0
    (and_act (assign 1 no_value (input 0 no_value)) no_act))
    (link_of (codes "a") 0 (Index (constant (pos 0)) ∷ []) None ∷ [])
    (link_of (codes "s") 2 [] None ∷ []))
    (and_item 10
    (task
    (code_of (port_of (codes "b") 0 ∷ []) (port_of (codes "s") 0 ∷ []) [] 0
    (and_act (assign 1 no_value (input 0 no_value)) no_act))
    (link_of (codes "b") 0 (Index (constant (pos 1)) ∷ []) None ∷ [])
    (link_of (codes "s") 2 [] None ∷ [])) no_item))) no_item) [] no_state))

-- two items that push into one stream are two moves
two_pushes_are_in_no_order :
    picked_from pushes_graph ((pos 4 ∷ pos 5 ∷ []) ∷ (pos 0 ∷ []) ∷ []) 9 (0 ∷ 1 ∷ 1 ∷ 1 ∷ []) 100
    ≡ done (array W64 (pos 4 ∷ pos 5 ∷ []) ∷ array W64 (pos 0 ∷ []) ∷ stream W64 (pos 5 ∷ pos 4 ∷ []) ∷ []) 98
unfolding int_wrap
two_pushes_are_in_no_order = refl

two_pushes_are_in_no_order_as_traced :
    trace_of pushes_graph ((pos 4 ∷ pos 5 ∷ []) ∷ (pos 0 ∷ []) ∷ []) 9 (0 ∷ 1 ∷ 1 ∷ 1 ∷ []) 100
    ≡ (0, 1) ∷ (1, 2) ∷ (1, 2) ∷ (1, 2) ∷ (0, 1) ∷ (0, 1) ∷ (0, 1) ∷ (0, 1) ∷ []
unfolding int_wrap
two_pushes_are_in_no_order_as_traced = refl

-- ---- sums

abbrev sums_graph : GraphTree
sums_graph =
    graph (codes "sums")
    ((codes "A", container_of (constant (pos 2) ∷ []) Argument) ∷
    (codes "R", container_of (constant (pos 1) ∷ []) Argument) ∷ []) 2 (codes "i" ∷ []) 0
    (and_state no_item (transition 1 false None [] ∷ [])
    (and_state
    (and_item 4
    (map_scope false ((0, from_to (pos 0) (pos 0)) ∷ []) []
    (and_item 5
    (task
    (code_of (port_of (codes "_in0") 0 ∷ []) (port_of (codes "_out") 0 ∷ []) [] 0
    (and_act (assign 1 no_value (input 0 no_value)) no_act))
    (link_of (codes "_in0") 0 (Index (constant (pos 0)) ∷ []) None ∷ [])
    (link_of (codes "_out") 1 (Index (constant (pos 0)) ∷ []) (Some Sum) ∷ []))
    (and_item 6
    (task
    (code_of (port_of (codes "_in0") 0 ∷ []) (port_of (codes "_out") 0 ∷ []) [] 0
    (and_act (assign 1 no_value (input 0 no_value)) no_act))
    (link_of (codes "_in0") 0 (Index (constant (pos 1)) ∷ []) None ∷ [])
    (link_of (codes "_out") 1 (Index (constant (pos 0)) ∷ []) (Some Sum) ∷ []))
    (and_item 7
    (task
    (code_of [] (port_of (codes "_out") 0 ∷ []) [] 0
    (and_act (assign 0 no_value (literal (pos 7))) no_act)) []
    (link_of (codes "_out") 1 (Index (constant (pos 0)) ∷ []) None ∷ []))
    no_item)))) no_item) [] no_state))

-- two items that resolve by one resolution are two moves, and what replaces waits for both
sums_are_in_no_order :
    picked_from sums_graph ((pos 4 ∷ pos 5 ∷ []) ∷ (pos 1 ∷ []) ∷ []) 11 (0 ∷ 1 ∷ 1 ∷ 1 ∷ 1 ∷ 1 ∷ []) 100
    ≡ done (array W64 (pos 4 ∷ pos 5 ∷ []) ∷ array W64 (pos 7 ∷ []) ∷ []) 97
unfolding int_wrap
sums_are_in_no_order = refl

sums_are_in_no_order_as_traced :
    trace_of sums_graph ((pos 4 ∷ pos 5 ∷ []) ∷ (pos 1 ∷ []) ∷ []) 11 (0 ∷ 1 ∷ 1 ∷ 1 ∷ 1 ∷ 1 ∷ []) 100
    ≡ (0, 1) ∷ (1, 2) ∷ (1, 2) ∷ (1, 2) ∷ (0, 1) ∷ (0, 1) ∷ (0, 1) ∷ (0, 1) ∷ (0, 1) ∷ (0, 1) ∷ []
unfolding int_wrap
sums_are_in_no_order_as_traced = refl

-- ---- middle

abbrev middle_graph : GraphTree
middle_graph =
    graph (codes "middle")
    ((codes "A", container_of (constant (pos 2) ∷ []) Argument) ∷
    (codes "B", container_of (constant (pos 2) ∷ []) Argument) ∷
    (codes "C", container_of (constant (pos 2) ∷ []) Argument) ∷ []) 3 (codes "i" ∷ codes "j" ∷ []) 0
    (and_state no_item (transition 1 false None [] ∷ [])
    (and_state
    (and_item 4
    (map_scope false ((0, from_to (pos 0) (pos 0)) ∷ []) []
    (and_item 5
    (task
    (code_of [] (port_of (codes "_out") 0 ∷ []) [] 0
    (and_act (assign 0 no_value (literal (pos 5))) no_act)) []
    (link_of (codes "_out") 0 (Index (constant (pos 0)) ∷ []) None ∷ []))
    (and_item 6
    (map_scope false ((1, from_to (pos 0) (negsuc 0)) ∷ []) []
    (and_item 7
    (task
    (code_of (port_of (codes "_in0") 0 ∷ []) (port_of (codes "_out") 0 ∷ []) [] 0
    (and_act (assign 1 no_value (input 0 no_value)) no_act))
    (link_of (codes "_in0") 0 (Index (constant (pos 0)) ∷ []) None ∷ [])
    (link_of (codes "_out") 1 (Index (constant (pos 1)) ∷ []) None ∷ []))
    no_item))
    (and_item 8
    (task
    (code_of (port_of (codes "_in0") 0 ∷ []) (port_of (codes "_out") 0 ∷ []) [] 0
    (and_act (assign 1 no_value (two signs.Add (input 0 no_value) (literal (pos 2)))) no_act))
    (link_of (codes "_in0") 1 (Index (constant (pos 1)) ∷ []) None ∷ [])
    (link_of (codes "_out") 2 (Index (constant (pos 1)) ∷ []) None ∷ []))
    no_item)))) no_item) [] no_state))

-- an item waits for one before an item between them, also where that has nothing to do
an_item_waits_over_one_between :
    picked_from middle_graph ((pos 1 ∷ pos 2 ∷ []) ∷ (pos 3 ∷ pos 4 ∷ []) ∷ (pos 0 ∷ pos 0 ∷ []) ∷ []) 8 (0 ∷ 1 ∷ 1 ∷ 1 ∷ 1 ∷ []) 100
    ≡ done (array W64 (pos 5 ∷ pos 2 ∷ []) ∷ array W64 (pos 3 ∷ pos 4 ∷ []) ∷ array W64 (pos 0 ∷ pos 6 ∷ []) ∷ []) 98
unfolding int_wrap
an_item_waits_over_one_between = refl

an_item_waits_over_one_between_as_traced :
    trace_of middle_graph ((pos 1 ∷ pos 2 ∷ []) ∷ (pos 3 ∷ pos 4 ∷ []) ∷ (pos 0 ∷ pos 0 ∷ []) ∷ []) 8 (0 ∷ 1 ∷ 1 ∷ 1 ∷ 1 ∷ []) 100
    ≡ (0, 1) ∷ (0, 1) ∷ (0, 1) ∷ (0, 1) ∷ (0, 1) ∷ (0, 1) ∷ (0, 1) ∷ []
unfolding int_wrap
an_item_waits_over_one_between_as_traced = refl

-- ---- nest

abbrev nest_graph : GraphTree
nest_graph =
    graph (codes "nest")
    ((codes "A", container_of (constant (pos 2) ∷ []) Argument) ∷
    (codes "B", container_of (constant (pos 2) ∷ []) Argument) ∷
    (codes "C", container_of (constant (pos 2) ∷ []) Argument) ∷ []) 3 (codes "i" ∷ []) 0
    (and_state no_item (transition 1 false None [] ∷ [])
    (and_state
    (and_item 8
    (map_scope false ((0, from_to (pos 0) (pos 0)) ∷ []) []
    (and_item 9
    (task
    (code_of [] (port_of (codes "_out") 0 ∷ []) [] 0
    (and_act (assign 0 no_value (literal (pos 5))) no_act)) []
    (link_of (codes "_out") 0 (Index (constant (pos 0)) ∷ []) None ∷ []))
    (and_item 10
    (nested_graph
    (graph (codes "reads")
    ((codes "X", container_of (constant (pos 2) ∷ []) Argument) ∷
    (codes "Y", container_of (constant (pos 2) ∷ []) Argument) ∷ []) 2 [] 0
    (and_state no_item
    (transition 1 false
    (Some
    (condition_of 4
    (link_of (codes "_in0") 0 (Index (constant (pos 0)) ∷ []) None ∷ [])
    (code_of (port_of (codes "_in0") 0 ∷ []) (port_of (codes "_out") 0 ∷ []) [] 0
    (and_act
    (assign 1 no_value (two signs.Greater (input 0 no_value) (literal (pos 0))))
    no_act)))) [] ∷
    transition 3 false None [] ∷ [])
    (and_state no_item (transition 2 false None [] ∷ [])
    (and_state
    (and_item 5
    (task
    (code_of [] (port_of (codes "_out") 0 ∷ []) [] 0
    (and_act (assign 0 no_value (literal (pos 1))) no_act))
    []
    (link_of (codes "_out") 1 (Index (constant (pos 0)) ∷ []) None ∷ []))
    no_item) (transition 3 false None [] ∷ [])
    (and_state no_item [] no_state)))))
    (link_of (codes "X") 0 (Span (from_to (pos 0) (pos 1)) ∷ []) None ∷
    link_of (codes "Y") 1 (Span (from_to (pos 0) (pos 1)) ∷ []) None ∷ []))
    (and_item 11
    (task
    (code_of [] (port_of (codes "_out") 0 ∷ []) [] 0
    (and_act (assign 0 no_value (literal (pos 3))) no_act)) []
    (link_of (codes "_out") 2 (Index (constant (pos 0)) ∷ []) None ∷ []))
    no_item)))) no_item) [] no_state))

-- a nested graph waits for what its condition reads, and others do not
a_condition_reads_its_parameter :
    picked_from nest_graph ((pos 0 ∷ pos 0 ∷ []) ∷ (pos 0 ∷ pos 0 ∷ []) ∷ (pos 0 ∷ pos 0 ∷ []) ∷ []) 13 (0 ∷ 1 ∷ 1 ∷ 1 ∷ 1 ∷ 1 ∷ 1 ∷ []) 100
    ≡ done (array W64 (pos 5 ∷ pos 0 ∷ []) ∷ array W64 (pos 1 ∷ pos 0 ∷ []) ∷ array W64 (pos 3 ∷ pos 0 ∷ []) ∷ []) 97
unfolding int_wrap
a_condition_reads_its_parameter = refl

a_condition_reads_its_parameter_as_traced :
    trace_of nest_graph ((pos 0 ∷ pos 0 ∷ []) ∷ (pos 0 ∷ pos 0 ∷ []) ∷ (pos 0 ∷ pos 0 ∷ []) ∷ []) 13 (0 ∷ 1 ∷ 1 ∷ 1 ∷ 1 ∷ 1 ∷ 1 ∷ []) 100
    ≡ (0, 1) ∷ (1, 2) ∷ (1, 2) ∷ (0, 1) ∷ (0, 1) ∷ (0, 1) ∷ (0, 1) ∷ (0, 1) ∷ (0, 1) ∷ (0, 1) ∷ (0, 1) ∷ (0, 1) ∷ []
unfolding int_wrap
a_condition_reads_its_parameter_as_traced = refl
