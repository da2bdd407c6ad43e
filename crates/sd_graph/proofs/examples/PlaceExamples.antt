-- The places of faults: lines, loop variables, parameters and elements.
use Rattle.std.proofs.Common.{◌≡◌, pos, [], ◌∷◌, Some, None, true, false, refl, codes}
use Rattle.std.specs.Int.{int_wrap}
use Rattle.sd_num.specs.declared.resolution.Resolution.TheVariants.{Sum}
use Rattle.sd_range.specs.declared.subset.Dim.TheVariants.{Index, Span}
use Rattle.sd_work.specs.declared.fault.FaultKind.TheVariants.{Division}
use Rattle.sd_graph.specs.PlainTree.{literal, variable, input, two, no_value, assign, no_act, and_act, task, map_scope, consume_scope, nested_graph, no_item, and_item, no_state, and_state, GraphTree, graph}
use Rattle.sd_graph.specs.declared.container.ContainerKind.TheVariants.{Argument, Private, Stream}
use Rattle.sd_graph.specs.declared.operator.TwoSign.TheVariants as signs
use Rattle.sd_graph.proofs.examples.ExampleParts.{constant, affine, from_to, of_variable, link_of, port_of, code_of, container_of, condition_of, transition, frame_of, runs_to, picked_from, faulted}

-- ---- loops

abbrev loops_graph : GraphTree
loops_graph =
    graph (codes "loops")
    ((codes "A", container_of (constant (pos 1) ∷ []) Argument) ∷ []) 1 (codes "k" ∷ codes "j" ∷ []) 0
    (and_state no_item (transition 1 false None ((0, constant (pos 0)) ∷ []) ∷ [])
    (and_state no_item
    (transition 2 false
    (Some
    (condition_of 4 []
    (code_of [] (port_of (codes "_out") 0 ∷ []) (0 ∷ []) 0
    (and_act (assign 0 no_value (two signs.Less (variable 0) (literal (pos 2)))) no_act))))
    [] ∷
    transition 8 false None [] ∷ [])
    (and_state no_item (transition 3 false None ((1, of_variable 0) ∷ []) ∷ [])
    (and_state no_item
    (transition 4 false
    (Some
    (condition_of 5 []
    (code_of [] (port_of (codes "_out") 0 ∷ []) (1 ∷ 0 ∷ []) 0
    (and_act
    (assign 0 no_value
    (two signs.Less (variable 0) (two signs.Add (variable 1) (literal (pos 2)))))
    no_act)))) [] ∷
    transition 6 false None [] ∷ [])
    (and_state no_item (transition 5 false None [] ∷ [])
    (and_state
    (and_item 6
    (task
    (code_of (port_of (codes "_in0") 0 ∷ []) (port_of (codes "_out") 0 ∷ []) [] 0
    (and_act (assign 1 no_value (two signs.Add (input 0 no_value) (literal (pos 1)))) no_act))
    (link_of (codes "_in0") 0 (Index (constant (pos 0)) ∷ []) None ∷ [])
    (link_of (codes "_out") 0 (Index (constant (pos 0)) ∷ []) None ∷ []))
    no_item)
    (transition 3 true None ((1, affine (pos 1) ((1, pos 1) ∷ [])) ∷ []) ∷ [])
    (and_state no_item (transition 7 false None [] ∷ [])
    (and_state
    (and_item 7
    (task
    (code_of [] (port_of (codes "_out") 0 ∷ []) (0 ∷ []) 0
    (and_act
    (assign 0 no_value
    (two signs.FloorDiv (literal (pos 10)) (two signs.Sub (literal (pos 1)) (variable 0))))
    no_act)) []
    (link_of (codes "_out") 0 (Index (constant (pos 0)) ∷ []) None ∷ []))
    no_item)
    (transition 1 true None ((0, affine (pos 1) ((0, pos 1) ∷ [])) ∷ []) ∷ [])
    (and_state no_item [] no_state)))))))))

-- behind an inner loop its variable is in force no more
a_loop_is_left_for_the_outer_one :
    picked_from loops_graph ((pos 1 ∷ []) ∷ []) 38 [] 100
    ≡ faulted (frame_of 7 ((codes "k", pos 1) ∷ []) ∷ []) Division
unfolding int_wrap
a_loop_is_left_for_the_outer_one = refl

-- ---- inner

abbrev inner_graph : GraphTree
inner_graph =
    graph (codes "inner")
    ((codes "A", container_of (constant (pos 1) ∷ []) Argument) ∷ []) 1 (codes "k" ∷ codes "j" ∷ []) 0
    (and_state no_item (transition 1 false None ((0, constant (pos 0)) ∷ []) ∷ [])
    (and_state no_item
    (transition 2 false
    (Some
    (condition_of 4 []
    (code_of [] (port_of (codes "_out") 0 ∷ []) (0 ∷ []) 0
    (and_act (assign 0 no_value (two signs.Less (variable 0) (literal (pos 2)))) no_act))))
    [] ∷
    transition 7 false None [] ∷ [])
    (and_state no_item (transition 3 false None ((1, constant (pos 1)) ∷ []) ∷ [])
    (and_state no_item
    (transition 4 false
    (Some
    (condition_of 5 []
    (code_of [] (port_of (codes "_out") 0 ∷ []) (1 ∷ []) 0
    (and_act (assign 0 no_value (two signs.Less (variable 0) (literal (pos 3)))) no_act))))
    [] ∷
    transition 6 false None [] ∷ [])
    (and_state no_item (transition 5 false None [] ∷ [])
    (and_state
    (and_item 6
    (task
    (code_of [] (port_of (codes "_out") 0 ∷ []) (0 ∷ 1 ∷ []) 0
    (and_act
    (assign 0 no_value
    (two signs.FloorDiv (literal (pos 10))
    (two signs.Sub (two signs.Sub (literal (pos 3)) (variable 0)) (variable 1))))
    no_act)) []
    (link_of (codes "_out") 0 (Index (constant (pos 0)) ∷ []) None ∷ []))
    no_item)
    (transition 3 true None ((1, affine (pos 1) ((1, pos 1) ∷ [])) ∷ []) ∷ [])
    (and_state no_item
    (transition 1 true None ((0, affine (pos 1) ((0, pos 1) ∷ [])) ∷ []) ∷ [])
    (and_state no_item [] no_state))))))))

-- in an inner loop the outer variable comes first
the_outer_loop_comes_first :
    picked_from inner_graph ((pos 1 ∷ []) ∷ []) 26 [] 100
    ≡ faulted (frame_of 6 ((codes "k", pos 1) ∷ (codes "j", pos 2) ∷ []) ∷ []) Division
unfolding int_wrap
the_outer_loop_comes_first = refl

-- ---- after

abbrev after_graph : GraphTree
after_graph =
    graph (codes "after")
    ((codes "A", container_of (constant (pos 1) ∷ []) Argument) ∷ []) 1 (codes "k" ∷ []) 0
    (and_state no_item (transition 1 false None ((0, constant (pos 0)) ∷ []) ∷ [])
    (and_state no_item
    (transition 2 false
    (Some
    (condition_of 4 []
    (code_of [] (port_of (codes "_out") 0 ∷ []) (0 ∷ []) 0
    (and_act (assign 0 no_value (two signs.Less (variable 0) (literal (pos 2)))) no_act))))
    [] ∷
    transition 4 false None [] ∷ [])
    (and_state no_item (transition 3 false None [] ∷ [])
    (and_state
    (and_item 5
    (task
    (code_of (port_of (codes "_in0") 0 ∷ []) (port_of (codes "_out") 0 ∷ []) (0 ∷ []) 0
    (and_act (assign 1 no_value (two signs.Add (input 0 no_value) (variable 0))) no_act))
    (link_of (codes "_in0") 0 (Index (constant (pos 0)) ∷ []) None ∷ [])
    (link_of (codes "_out") 0 (Index (constant (pos 0)) ∷ []) None ∷ [])) no_item)
    (transition 1 true None ((0, affine (pos 1) ((0, pos 1) ∷ [])) ∷ []) ∷ [])
    (and_state no_item (transition 5 false None [] ∷ [])
    (and_state
    (and_item 6
    (task
    (code_of (port_of (codes "_in0") 0 ∷ []) (port_of (codes "_out") 0 ∷ []) [] 0
    (and_act (assign 1 no_value (two signs.FloorDiv (input 0 no_value) (literal (pos 0)))) no_act))
    (link_of (codes "_in0") 0 (Index (constant (pos 0)) ∷ []) None ∷ [])
    (link_of (codes "_out") 0 (Index (constant (pos 0)) ∷ []) None ∷ []))
    no_item) [] no_state))))))

-- behind a loop its variable is in force no more
behind_a_loop_nothing_is_in_force : picked_from after_graph ((pos 1 ∷ []) ∷ []) 18 [] 100 ≡ faulted (frame_of 6 [] ∷ []) Division
unfolding int_wrap
behind_a_loop_nothing_is_in_force = refl

-- ---- guarded

abbrev guarded_graph : GraphTree
guarded_graph =
    graph (codes "guarded")
    ((codes "A", container_of (constant (pos 2) ∷ []) Argument) ∷ []) 1 (codes "k" ∷ []) 0
    (and_state no_item (transition 1 false None ((0, constant (pos 0)) ∷ []) ∷ [])
    (and_state no_item
    (transition 2 false
    (Some
    (condition_of 4 []
    (code_of [] (port_of (codes "_out") 0 ∷ []) (0 ∷ []) 0
    (and_act (assign 0 no_value (two signs.Less (variable 0) (literal (pos 2)))) no_act))))
    [] ∷
    transition 6 false None [] ∷ [])
    (and_state no_item
    (transition 3 false
    (Some
    (condition_of 5
    (link_of (codes "_in0") 0 (Index (of_variable 0) ∷ []) None ∷
    link_of (codes "_in1") 0 (Index (constant (pos 1)) ∷ []) None ∷ [])
    (code_of (port_of (codes "_in0") 0 ∷ port_of (codes "_in1") 0 ∷ [])
    (port_of (codes "_out") 0 ∷ []) [] 0
    (and_act
    (assign 2 no_value
    (two signs.Greater (two signs.FloorDiv (input 0 no_value) (input 1 no_value))
    (literal (pos 0)))) no_act)))) [] ∷
    transition 5 false None [] ∷ [])
    (and_state no_item (transition 4 false None [] ∷ [])
    (and_state
    (and_item 6
    (task
    (code_of [] (port_of (codes "_out") 0 ∷ []) [] 0
    (and_act (assign 0 no_value (literal (pos 9))) no_act)) []
    (link_of (codes "_out") 0 (Index (constant (pos 0)) ∷ []) None ∷ [])) no_item)
    (transition 5 false None [] ∷ [])
    (and_state no_item
    (transition 1 true None ((0, affine (pos 1) ((0, pos 1) ∷ [])) ∷ []) ∷ [])
    (and_state no_item [] no_state)))))))

-- a fault of a condition has its line, with the loop variables
a_condition_has_a_place :
    picked_from guarded_graph ((pos 1 ∷ pos 0 ∷ []) ∷ []) 4 [] 100
    ≡ faulted (frame_of 5 ((codes "k", pos 0) ∷ []) ∷ []) Division
unfolding int_wrap
a_condition_has_a_place = refl

-- ---- element

abbrev element_graph : GraphTree
element_graph =
    graph (codes "element")
    ((codes "A", container_of (constant (pos 2) ∷ []) Argument) ∷
    (codes "S", container_of [] Stream) ∷
    (codes "T", container_of [] Stream) ∷
    (codes "e", container_of (constant (pos 1) ∷ []) Private) ∷
    (codes "e$1", container_of (constant (pos 1) ∷ []) Private) ∷ []) 1 [] 0
    (and_state no_item (transition 1 false None [] ∷ [])
    (and_state
    (and_item 6
    (task
    (code_of (port_of (codes "a") 0 ∷ []) (port_of (codes "s") 0 ∷ port_of (codes "t") 0 ∷ []) [] 0
    (and_act (assign 1 no_value (input 0 no_value))
    (and_act (assign 2 no_value (input 0 no_value)) no_act)))
    (link_of (codes "a") 0 (Index (constant (pos 0)) ∷ []) None ∷ [])
    (link_of (codes "s") 1 [] None ∷ link_of (codes "t") 2 [] None ∷ [])) no_item)
    (transition 2 false None [] ∷ [])
    (and_state
    (and_item 12
    (consume_scope 1 3 []
    (and_item 12
    (task
    (code_of (port_of (codes "e") 0 ∷ []) (port_of (codes "r") 0 ∷ []) [] 0
    (and_act (assign 1 no_value (input 0 no_value)) no_act))
    (link_of (codes "e") 3 (Index (constant (pos 0)) ∷ []) None ∷ [])
    (link_of (codes "r") 0 (Index (constant (pos 1)) ∷ []) None ∷ [])) no_item)) no_item)
    (transition 3 false None [] ∷ [])
    (and_state
    (and_item 16
    (consume_scope 2 4 []
    (and_item 16
    (task
    (code_of (port_of (codes "e") 0 ∷ []) (port_of (codes "r") 0 ∷ []) [] 0
    (and_act
    (assign 1 no_value
    (two signs.FloorDiv (literal (pos 1)) (two signs.Sub (input 0 no_value) (literal (pos 3)))))
    no_act))
    (link_of (codes "e") 4 (Index (constant (pos 0)) ∷ []) None ∷ [])
    (link_of (codes "r") 0 (Index (constant (pos 1)) ∷ []) None ∷ [])) no_item))
    no_item) [] no_state))))

-- a place shows an element by its name in the source
an_element_has_its_source_name :
    picked_from element_graph ((pos 3 ∷ pos 0 ∷ []) ∷ []) 15 [] 100
    ≡ faulted (frame_of 16 ((codes "e", pos 3) ∷ []) ∷ []) Division
unfolding int_wrap
an_element_has_its_source_name = refl

-- ---- outer

abbrev outer_graph : GraphTree
outer_graph =
    graph (codes "outer")
    ((codes "A", container_of (constant (pos 3) ∷ constant (pos 2) ∷ []) Argument) ∷
    (codes "B", container_of (constant (pos 3) ∷ []) Argument) ∷ []) 2 (codes "t" ∷ codes "r" ∷ []) 0
    (and_state no_item (transition 1 false None ((0, constant (pos 1)) ∷ []) ∷ [])
    (and_state no_item
    (transition 2 false
    (Some
    (condition_of 9 []
    (code_of [] (port_of (codes "_out") 0 ∷ []) (0 ∷ []) 0
    (and_act (assign 0 no_value (two signs.Less (variable 0) (literal (pos 3)))) no_act))))
    [] ∷
    transition 4 false None [] ∷ [])
    (and_state no_item (transition 3 false None [] ∷ [])
    (and_state
    (and_item 10
    (map_scope false ((1, from_to (pos 0) (pos 2)) ∷ []) []
    (and_item 11
    (nested_graph
    (graph (codes "inner")
    ((codes "X", container_of (constant (pos 2) ∷ []) Argument) ∷
    (codes "Y", container_of (constant (pos 1) ∷ []) Argument) ∷ []) 2
    (codes "k" ∷ codes "j" ∷ []) 0
    (and_state no_item (transition 1 false None ((0, constant (pos 0)) ∷ []) ∷ [])
    (and_state no_item
    (transition 2 false
    (Some
    (condition_of 4 []
    (code_of [] (port_of (codes "_out") 0 ∷ []) (0 ∷ []) 0
    (and_act
    (assign 0 no_value (two signs.Less (variable 0) (literal (pos 2)))) no_act))))
    [] ∷
    transition 4 false None [] ∷ [])
    (and_state no_item (transition 3 false None [] ∷ [])
    (and_state
    (and_item 5
    (map_scope false ((1, from_to (pos 0) (pos 1)) ∷ []) []
    (and_item 6
    (task
    (code_of (port_of (codes "_in0") 0 ∷ []) (port_of (codes "_out") 0 ∷ [])
    (0 ∷ []) 0
    (and_act
    (assign 1 no_value
    (two signs.FloorDiv (input 0 no_value)
    (two signs.Sub (variable 0) (literal (pos 1)))))
    no_act))
    (link_of (codes "_in0") 0 (Index (of_variable 1) ∷ []) None ∷ [])
    (link_of (codes "_out") 1 (Index (constant (pos 0)) ∷ []) (Some Sum) ∷ []))
    no_item)) no_item)
    (transition 1 true None ((0, affine (pos 1) ((0, pos 1) ∷ [])) ∷ []) ∷ [])
    (and_state no_item [] no_state))))))
    (link_of (codes "X") 0 (Index (of_variable 1) ∷ Span (from_to (pos 0) (pos 1)) ∷ []) None ∷
    link_of (codes "Y") 1 (Index (of_variable 1) ∷ []) None ∷ [])) no_item))
    no_item)
    (transition 1 true None ((0, affine (pos 1) ((0, pos 1) ∷ [])) ∷ []) ∷ [])
    (and_state no_item [] no_state)))))

-- a place has a frame for each graph, with loop variables first
a_place_has_a_frame_for_each_graph :
    runs_to outer_graph ((pos 1 ∷ pos 2 ∷ pos 3 ∷ pos 4 ∷ pos 5 ∷ pos 6 ∷ []) ∷ (pos 0 ∷ pos 0 ∷ pos 0 ∷ []) ∷ []) 18 20 100
    (faulted (frame_of 11 ((codes "t", pos 1) ∷ (codes "r", pos 0) ∷ []) ∷ frame_of 6 ((codes "k", pos 1) ∷ (codes "j", pos 0) ∷ []) ∷ []) Division)
unfolding int_wrap
a_place_has_a_frame_for_each_graph = (refl, refl)
