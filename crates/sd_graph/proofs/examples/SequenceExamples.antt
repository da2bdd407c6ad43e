-- A map whose points read what the next one writes, in order and in any order.
use Rattle.std.proofs.Common.{◌≡◌, ℕ, pos, List, [], ◌∷◌, None, Bool, true, false, refl, codes}
use Rattle.std.specs.Int.{int_wrap}
use Rattle.sd_range.specs.declared.subset.Dim.TheVariants.{Index}
use Rattle.sd_num.specs.declared.width.Width.TheVariants.{W64}
use Rattle.sd_work.specs.Memory.{array}
use Rattle.sd_graph.specs.PlainTree.{GraphTree, graph, and_state, no_state, and_item, no_item, map_scope, task, and_act, no_act, assign, no_value, input}
use Rattle.sd_graph.specs.declared.container.ContainerKind.TheVariants.{Argument}
use Rattle.sd_graph.proofs.examples.ExampleParts.{constant, affine, from_to, of_variable, link_of, port_of, code_of, container_of, picked_from, trace_of, done}

-- A[i] = A[i + 1] for i from 0 to 1
abbrev shift_graph : (sequential : Bool) → GraphTree
shift_graph sequential =
    graph (codes "shift") ((codes "A", container_of (constant (pos 3) ∷ []) Argument) ∷ []) 1 (codes "i" ∷ []) 0
    (and_state
    (and_item 5
    (map_scope sequential ((0, from_to (pos 0) (pos 1)) ∷ []) []
    (and_item 6
    (task
    (code_of (port_of (codes "_in0") 0 ∷ []) (port_of (codes "_out") 0 ∷ []) [] 0
    (and_act (assign 1 no_value (input 0 no_value)) no_act))
    (link_of (codes "_in0") 0 (Index (affine (pos 1) ((0, pos 1) ∷ [])) ∷ []) None ∷ [])
    (link_of (codes "_out") 0 (Index (of_variable 0) ∷ []) None ∷ []))
    no_item)) no_item) [] no_state)

abbrev picks : List ℕ
picks = 1 ∷ 1 ∷ 1 ∷ 0 ∷ 5 ∷ 2 ∷ 3 ∷ []

-- where nothing orders its points, the second may be done first
points_may_be_done_in_any_order : picked_from (shift_graph false) ((pos 1 ∷ pos 2 ∷ pos 3 ∷ []) ∷ []) 9 picks 100 ≡ done (array W64 (pos 3 ∷ pos 3 ∷ pos 3 ∷ []) ∷ []) 98
unfolding int_wrap
points_may_be_done_in_any_order = refl

-- in a sequential map the same picks find the first point alone until it is finished
points_come_one_after_another : picked_from (shift_graph true) ((pos 1 ∷ pos 2 ∷ pos 3 ∷ []) ∷ []) 9 picks 100 ≡ done (array W64 (pos 2 ∷ pos 3 ∷ pos 3 ∷ []) ∷ []) 98
unfolding int_wrap
points_come_one_after_another = refl

one_point_moves_at_a_time :
    trace_of (shift_graph true) ((pos 1 ∷ pos 2 ∷ pos 3 ∷ []) ∷ []) 9 picks 100
    ≡ (0, 1) ∷ (0, 1) ∷ (0, 1) ∷ (0, 1) ∷ (0, 1) ∷ (0, 1) ∷ (0, 1) ∷ []
unfolding int_wrap
one_point_moves_at_a_time = refl
