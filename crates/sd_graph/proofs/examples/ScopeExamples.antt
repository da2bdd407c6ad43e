-- Graphs of one map or pool: what their runs leave.
use Rattle.std.proofs.Common.{pos, negsuc, [], ◌∷◌, Some, None, false, refl, codes}
use Rattle.std.specs.Int.{int_wrap}
use Rattle.sd_num.specs.declared.resolution.Resolution.TheVariants.{Sum}
use Rattle.sd_range.specs.declared.subset.Dim.TheVariants.{Index, Span}
use Rattle.sd_work.specs.declared.fault.FaultKind.TheVariants.{Subscript}
use Rattle.sd_num.specs.declared.width.Width.TheVariants.{W64}
use Rattle.sd_work.specs.Memory.{array, stream}
use Rattle.sd_graph.specs.PlainTree.{literal, input, two, no_value, and_value, assign, branch, no_act, and_act, task, map_scope, consume_scope, no_item, and_item, no_state, and_state, GraphTree, graph}
use Rattle.sd_graph.specs.declared.container.ContainerKind.TheVariants.{Argument, Private, Stream, PrivateStream}
use Rattle.sd_graph.specs.declared.operator.TwoSign.TheVariants as signs
use Rattle.sd_graph.proofs.examples.ExampleParts.{constant, from_to, of_variable, link_of, port_of, code_of, container_of, transition, frame_of, runs_to, done, faulted, spent}

-- ---- inc

abbrev inc_graph : GraphTree
inc_graph =
    graph (codes "inc")
    ((codes "A", container_of (constant (pos 3) ∷ []) Argument) ∷
    (codes "B", container_of (constant (pos 3) ∷ []) Argument) ∷ []) 2 (codes "N" ∷ codes "i" ∷ []) 0
    (and_state no_item (transition 1 false None [] ∷ [])
    (and_state
    (and_item 6
    (map_scope false ((1, from_to (pos 0) (pos 2)) ∷ []) []
    (and_item 7
    (task
    (code_of (port_of (codes "_in0") 0 ∷ []) (port_of (codes "_out") 0 ∷ []) [] 0
    (and_act (assign 1 no_value (two signs.Add (input 0 no_value) (literal (pos 1)))) no_act))
    (link_of (codes "_in0") 0 (Index (of_variable 1) ∷ []) None ∷ [])
    (link_of (codes "_out") 1 (Index (of_variable 1) ∷ []) None ∷ [])) no_item)) no_item) []
    no_state))

-- each element of B is that of A and 1 more
one_is_added_to_each :
    runs_to inc_graph ((pos 1 ∷ pos 2 ∷ pos 9223372036854775807 ∷ []) ∷ (pos 0 ∷ pos 0 ∷ pos 0 ∷ []) ∷ []) 12 20 100
    (done (array W64 (pos 1 ∷ pos 2 ∷ pos 9223372036854775807 ∷ []) ∷ array W64 (pos 2 ∷ pos 3 ∷ negsuc 9223372036854775807 ∷ []) ∷ []) 97)
unfolding int_wrap
one_is_added_to_each = (refl, refl)

-- ---- hist

abbrev hist_graph : GraphTree
hist_graph =
    graph (codes "hist")
    ((codes "A", container_of (constant (pos 5) ∷ []) Argument) ∷
    (codes "H", container_of (constant (pos 4) ∷ []) Argument) ∷ []) 2 (codes "N" ∷ codes "i" ∷ []) 0
    (and_state no_item (transition 1 false None [] ∷ [])
    (and_state
    (and_item 5
    (map_scope false ((1, from_to (pos 0) (pos 4)) ∷ []) []
    (and_item 6
    (task
    (code_of (port_of (codes "a") 0 ∷ []) (port_of (codes "h") 1 ∷ []) [] 0
    (and_act (assign 1 (and_value (input 0 no_value) no_value) (literal (pos 1))) no_act))
    (link_of (codes "a") 0 (Index (of_variable 1) ∷ []) None ∷ [])
    (link_of (codes "h") 1 (Span (from_to (pos 0) (pos 3)) ∷ []) (Some Sum) ∷ []))
    no_item)) no_item) [] no_state))

-- a value says which element is counted
values_are_counted :
    runs_to hist_graph ((pos 1 ∷ pos 3 ∷ pos 3 ∷ pos 0 ∷ pos 3 ∷ []) ∷ (pos 0 ∷ pos 0 ∷ pos 0 ∷ pos 0 ∷ []) ∷ []) 18 20 100
    (done (array W64 (pos 1 ∷ pos 3 ∷ pos 3 ∷ pos 0 ∷ pos 3 ∷ []) ∷ array W64 (pos 1 ∷ pos 1 ∷ pos 0 ∷ pos 3 ∷ []) ∷ []) 95)
unfolding int_wrap
values_are_counted = (refl, refl)

-- a value that is outside is a fault of its point
a_value_outside_is_a_fault :
    runs_to hist_graph ((pos 1 ∷ pos 4 ∷ pos 3 ∷ pos 0 ∷ pos 0 ∷ []) ∷ (pos 0 ∷ pos 0 ∷ pos 0 ∷ pos 0 ∷ []) ∷ []) 7 20 100
    (faulted (frame_of 6 ((codes "i", pos 1) ∷ []) ∷ []) Subscript)
unfolding int_wrap
a_value_outside_is_a_fault = (refl, refl)

-- ---- fib

abbrev fib_graph : GraphTree
fib_graph =
    graph (codes "fib")
    ((codes "iv", container_of (constant (pos 1) ∷ []) Argument) ∷
    (codes "res", container_of (constant (pos 1) ∷ []) Argument) ∷
    (codes "S", container_of [] Stream) ∷
    (codes "elem", container_of (constant (pos 1) ∷ []) Private) ∷ []) 2 [] 0
    (and_state no_item (transition 1 false None [] ∷ [])
    (and_state
    (and_item 5
    (task
    (code_of (port_of (codes "inp") 0 ∷ []) (port_of (codes "out") 0 ∷ []) [] 0
    (and_act (assign 1 no_value (input 0 no_value)) no_act))
    (link_of (codes "inp") 0 (Index (constant (pos 0)) ∷ []) None ∷ [])
    (link_of (codes "out") 2 [] None ∷ [])) no_item) (transition 2 false None [] ∷ [])
    (and_state
    (and_item 9
    (consume_scope 2 3 []
    (and_item 9
    (task
    (code_of (port_of (codes "elem") 0 ∷ []) (port_of (codes "sout") 0 ∷ port_of (codes "val") 0 ∷ [])
    [] 0
    (and_act
    (branch (two signs.Equal (input 0 no_value) (literal (pos 1)))
    (and_act (assign 2 no_value (literal (pos 1))) no_act)
    (and_act
    (branch (two signs.Greater (input 0 no_value) (literal (pos 1)))
    (and_act
    (assign 1 no_value (two signs.Sub (input 0 no_value) (literal (pos 1))))
    (and_act
    (assign 1 no_value (two signs.Sub (input 0 no_value) (literal (pos 2)))) no_act))
    no_act) no_act)) no_act))
    (link_of (codes "elem") 3 (Index (constant (pos 0)) ∷ []) None ∷ [])
    (link_of (codes "sout") 2 [] None ∷
    link_of (codes "val") 1 (Index (constant (pos 0)) ∷ []) (Some Sum) ∷ []))
    no_item)) no_item) [] no_state)))

-- a pool fills its own stream
a_pool_fills_its_stream :
    runs_to fib_graph ((pos 5 ∷ []) ∷ (pos 0 ∷ []) ∷ []) 71 20 100
    (done (array W64 (pos 5 ∷ []) ∷ array W64 (pos 5 ∷ []) ∷ stream W64 [] ∷ array W64 [] ∷ []) 84)
unfolding int_wrap
a_pool_fills_its_stream = (refl, refl)

-- each element spends a turn
each_element_spends_a_turn : runs_to fib_graph ((pos 5 ∷ []) ∷ (pos 0 ∷ []) ∷ []) 51 20 10 spent
unfolding int_wrap
each_element_spends_a_turn = (refl, refl)

-- ---- priv

abbrev priv_graph : GraphTree
priv_graph =
    graph (codes "priv")
    ((codes "A", container_of (constant (pos 2) ∷ []) Argument) ∷
    (codes "B", container_of (constant (pos 2) ∷ []) Argument) ∷
    (codes "T", container_of (constant (pos 2) ∷ []) Private) ∷
    (codes "S", container_of [] PrivateStream) ∷
    (codes "e", container_of (constant (pos 1) ∷ []) Private) ∷ []) 2 (codes "i" ∷ []) 0
    (and_state no_item (transition 1 false None [] ∷ [])
    (and_state
    (and_item 4
    (map_scope false ((0, from_to (pos 0) (pos 1)) ∷ []) (2 ∷ 3 ∷ [])
    (and_item 7
    (task
    (code_of (port_of (codes "_in0") 0 ∷ port_of (codes "_in1") 0 ∷ []) (port_of (codes "_out") 0 ∷ [])
    [] 0
    (and_act (assign 2 no_value (two signs.Mul (input 0 no_value) (input 1 no_value))) no_act))
    (link_of (codes "_in0") 0 (Index (of_variable 0) ∷ []) None ∷
    link_of (codes "_in1") 0 (Index (of_variable 0) ∷ []) None ∷ [])
    (link_of (codes "_out") 2 (Index (constant (pos 1)) ∷ []) None ∷ []))
    (and_item 8
    (task
    (code_of (port_of (codes "t") 0 ∷ []) (port_of (codes "s") 0 ∷ []) [] 0
    (and_act (assign 1 no_value (input 0 no_value))
    (and_act (assign 1 no_value (two signs.Add (input 0 no_value) (literal (pos 1)))) no_act)))
    (link_of (codes "t") 2 (Index (constant (pos 1)) ∷ []) None ∷ [])
    (link_of (codes "s") 3 [] None ∷ []))
    (and_item 13
    (consume_scope 3 4 []
    (and_item 13
    (task
    (code_of (port_of (codes "e") 0 ∷ []) (port_of (codes "b") 0 ∷ []) [] 0
    (and_act (assign 1 no_value (input 0 no_value)) no_act))
    (link_of (codes "e") 4 (Index (constant (pos 0)) ∷ []) None ∷ [])
    (link_of (codes "b") 1 (Index (of_variable 0) ∷ []) (Some Sum) ∷ []))
    no_item)) no_item)))) no_item) [] no_state))

-- private containers of points
points_have_containers_of_their_own :
    runs_to priv_graph ((pos 2 ∷ pos 3 ∷ []) ∷ (pos 0 ∷ pos 0 ∷ []) ∷ []) 35 20 100
    (done (array W64 (pos 2 ∷ pos 3 ∷ []) ∷ array W64 (pos 9 ∷ pos 19 ∷ []) ∷ array W64 [] ∷ array W64 [] ∷ array W64 [] ∷ []) 92)
unfolding int_wrap
points_have_containers_of_their_own = (refl, refl)
