use Rattle.std.proofs.Common.{◌≡◌, ◌∷◌, refl, sym, ap, ◌∙◌, rules, ℕ, List, true, false, subst, arith, FitsSigned, to_z, of_z, w64, Box}
use Rattle.std.specs.declared.alloc.Global.{Global}
use Rattle.std.proofs.lemmas.Int.{to_z-of_z}
use Rattle.std.proofs.lemmas.Result.{IfOk-weaker}
use Rattle.sd_work.specs.Moves.{Path}
use Rattle.sd_work.specs.Exit.{Values}
use Rattle.sd_graph.specs.PlainTree.{consume_scope}
use Rattle.sd_graph.specs.TreeFold.{graph_tree, kind_tree, item_trees}
use Rattle.sd_graph.specs.TreeParts.{containers_of, states_of_graph, items_at}
use Rattle.sd_graph.specs.Unfold.{at_point, at_element}
use Rattle.sd_mem.specs.machine.Coming.{state_context}
use Rattle.sd_mem.specs.declared.machine.end.End.TheVariants.{Finished}
use Rattle.sd_scope.specs.scope.Standing.{context_of, opening_reach, IsInside}
use Rattle.sd_left.specs.tree.Standing.{value_at}
use Rattle.sd_left.specs.declared.left.left.Left as shape
use Rattle.sd_left.specs.declared.left.left.Run.{Run as RunNow}
use Rattle.sd_left.specs.declared.left.left.Left.TheViews.{out-Bodies, out-Body}
use Rattle.sd_left.specs.left.Kept.{body_kept}
use Rattle.sd_left.specs.left.Tells.{run_tells}
use Rattle.sd_fire.proofs.begin_lemmas.Bodies.{items_here}
use Rattle.sd_fire.specs.advance.Right.{ArePointsFired, ArePartsFired, IsNestedFired}
use Rattle.sd_fire.proofs.fire_lemmas.PlainKinds.{map_here, consume_here}
use Rattle.sd_fire.proofs.fire_lemmas.Levels.{sparse_arm, nested_fired}
use Rattle.sd_fire.proofs.fire_lemmas.Choices.{another_choice, elements_moved}
use Rattle.sd_fire.proofs.fire_lemmas.Lists.{body_put, part_put, no_point, no_element, no_item, point_counted, element_counted, item_counted}
use Rattle.sd_fire.proofs.fire_lemmas.Bodies.{items_moved, map_moves, numbers_of}
use Rattle.sd_fire.proofs.fire_lemmas.Runs.{run_over, state_over, run_moves}
use Rattle.sd_fire.proofs.fire.fire.+fire.Goals as goal

-- ---- items

pub fire_left-returns-in-Nested : goal.fire_left-returns-in-Nested
unfolding shape.out-Left denote.Hole.Carrier.out
fire_left-returns-in-Nested t c = rw c.in-Nested.is (IfOk-weaker c.fire_nested.result _ _ (λ end fires right.
    let kind = kind_tree c.args.kind.now in
    let context = context_of (graph_tree c.args.graph.now) c.args.base.now c.args.scope.now in
    nested_fired kind c.args.line context c.args.path.now c.args.machine.now c.fire_nested.new.machine end (shape.Nested c.in-Nested.run') right
    c.in-Nested.run' (record c.in-Nested.run' { value = c.fire_nested.new.run }) refl
    (subst (λ (run : RunNow). (run_tells run).is_right ≡ true → IsNestedFired run kind c.args.line context c.args.path.now c.args.machine.now end c.fire_nested.new.machine c.fire_nested.new.run) (c.deref_mut.ensures.value ∙ ap (λ (b : Box RunNow Global). b.value) c.in-Nested.run-is) fires)) c.fire_nested.ensures)

pub fire_left-returns-in-Sparse : goal.fire_left-returns-in-Sparse
unfolding shape.out-Left denote.Hole.Carrier.out
fire_left-returns-in-Sparse t c = rw c.in-Sparse.is (IfOk-weaker c.fire_sparse.result _ _ (λ end fires right.
    sparse_arm (kind_tree c.args.kind.now) c.args.line (context_of (graph_tree c.args.graph.now) c.args.base.now c.args.scope.now) c.args.path.now c.args.machine.now c.fire_sparse.new.machine end
    (shape.Sparse c.in-Sparse.sequential c.in-Sparse.tasks c.in-Sparse.points) right c.in-Sparse.sequential c.in-Sparse.tasks _ c.in-Sparse.points _ c.fire_sparse.new.points refl c.in-Sparse.tasks-is c.in-Sparse.points-is fires) c.fire_sparse.ensures)

-- ---- points

pub fire_points-returns-then-number-len : goal.fire_points-returns-then-number-len
fire_points-returns-then-number-len t c = λ right.
    let kind = kind_tree c.args.kind.now in
    let context = context_of (graph_tree c.args.graph.now) c.args.base.now c.args.scope.now in
    subst (λ (path : Path). ArePointsFired c.args.points.now kind context path c.args.machine.now Finished c.args.machine.now c.args.points.now) (sym c.in-Some.ensures.cases.0)
    (no_point kind context c.args.points.now c.in-Some.number.now c.in-Some.inner.now c.args.machine.now (omega (arith, c.if-number-len.true, c.len.ensures, (out-Bodies c.args.points.now).bodies.ok.0)) right)

pub fire_points-returns : goal.fire_points-returns
fire_points-returns t c = λ right.
    let points = c.args.points.now in
    let number = c.in-Some.number.now in
    let point = c.index_mut-point.result.now in
    let kind = kind_tree c.args.kind.now in
    let context = context_of (graph_tree c.args.graph.now) c.args.base.now c.args.scope.now in
    subst (λ (path : Path). ArePointsFired points kind context path c.args.machine.now c.in_ok-end.end c.fire_point.new.machine c.count_again.new.self) (sym c.in-Some.ensures.cases.0)
    (point_counted kind context c.in-Some.inner.now c.args.machine.now c.fire_point.new.machine c.in_ok-end.end points _ c.count_again.new.self number point c.fire_point.new.point
    (omega (arith, c.if-number-len.false, c.len.ensures, (out-Bodies points).bodies.ok.0)) c.index_mut-point.ensures.value
    (body_put points number c.fire_point.new.point _ refl refl refl refl) c.in_ok-count_again.ensures.bodies c.in_ok-count_again.ensures.right right
    (λ one. map_moves kind c.in-Map.sequential c.deref-2.result.now c.deref-3.result.now (item_trees c.deref.result.now) context (body_kept point).at point c.fire_point.new.point c.in-Some.inner.now c.args.machine.now c.fire_point.new.machine c.in_ok-end.end
    (map_here c.args.kind.now c.in-Map.params c.in-Map.private c.in-Map.body c.in-Map.sequential c.deref-2.result.now c.deref-3.result.now c.deref.result.now c.in-Map.is c.deref-2.ensures.value c.deref-3.ensures.value c.deref.ensures.value)
    (c.in_ok-end.ensures one)))

pub fire_point-returns : goal.fire_point-returns
fire_point-returns t c = IfOk-weaker c.fire_body.result _ _ (λ end fired right.
    let tree = graph_tree c.args.graph.now in
    let context = context_of tree c.args.base.now c.args.scope.now in
    let items = item_trees c.args.body.now in
    items_moved c.args.point.now c.fire_body.new.body items items (context_of tree c.args.base.now c.at_point.new.self) (at_point context c.args.params.now c.args.private.now (body_kept c.args.point.now).at) c.args.path.now c.args.machine.now c.fire_body.new.machine end refl
    (c.in_ok-at_point.ensures.context tree c.args.base.now c.args.private.now c.in_ok-inside.ensures
    ∙ ap (at_point context c.args.params.now c.args.private.now) (c.as_slice.ensures.value ∙ numbers_of c.args.point.now))
    (fired right)) c.fire_body.ensures

-- ---- elements

pub fire_pool-returns-then-choice-eq0 : goal.fire_pool-returns-then-choice-eq0
fire_pool-returns-then-choice-eq0 t c = IfOk-weaker c.take_element.result _ _ (λ end taken right.
    let number = c.in-Some-split_first.number.now in
    let inner = c.in-Some-split_first.inner.now in
    elements_moved c.args.stream (kind_tree c.args.kind.now) (consume_scope c.in-Consume.stream c.in-Consume.element c.deref-then-choice-eq0.result.now (item_trees c.deref.result.now))
    (context_of (graph_tree c.args.graph.now) c.args.base.now c.args.scope.now) c.args.active.now c.take_element.new.active c.args.path.now (0 ∷ number ∷ inner) c.args.machine.now c.take_element.new.machine end
    (consume_here c.args.kind.now c.in-Consume.stream c.in-Consume.element c.in-Consume.private c.in-Consume.body c.deref-then-choice-eq0.result.now c.deref.result.now c.in-Consume.is c.deref-then-choice-eq0.ensures.value c.deref.ensures.value)
    (c.in-Some.ensures.cases.0 ∙ ap (λ (rest : Path). c.in-Some.choice.now ∷ rest) c.in-Some-split_first.ensures.cases.0 ∙ ap (λ (choice : ℕ). choice ∷ number ∷ inner) c.if-choice-eq0.true)
    (taken c.in-Consume.stream inner right)) c.take_element.ensures

pub fire_pool-returns : goal.fire_pool-returns
fire_pool-returns t c = IfOk-weaker c.fire_active.result _ _ (λ end fires right.
    let choice = c.in-Some.choice.now in
    let number = c.in-Some-split_first.number.now in
    let inner = c.in-Some-split_first.inner.now in
    let context = context_of (graph_tree c.args.graph.now) c.args.base.now c.args.scope.now in
    let scope = consume_scope c.in-Consume.stream c.in-Consume.element c.deref-3.result.now (item_trees c.deref-2.result.now) in
    elements_moved c.args.stream (kind_tree c.args.kind.now) scope context c.args.active.now c.fire_active.new.active c.args.path.now (choice ∷ number ∷ inner) c.args.machine.now c.fire_active.new.machine end
    (consume_here c.args.kind.now c.in-Consume.stream c.in-Consume.element c.in-Consume.private c.in-Consume.body c.deref-3.result.now c.deref-2.result.now c.in-Consume.is c.deref-3.ensures.value c.deref-2.ensures.value)
    (c.in-Some.ensures.cases.0 ∙ ap (λ (rest : Path). choice ∷ rest) c.in-Some-split_first.ensures.cases.0)
    (another_choice c.args.stream scope context c.args.active.now c.fire_active.new.active choice number inner c.args.machine.now c.fire_active.new.machine end c.if-choice-eq0.false
    (fires c.in-Consume.stream right))) c.fire_active.ensures

pub fire_active-returns-then-number-len : goal.fire_active-returns-then-number-len
fire_active-returns-then-number-len t c = λ from right.
    no_element (consume_scope from c.args.element c.args.private.now (item_trees c.args.body.now)) (context_of (graph_tree c.args.graph.now) c.args.base.now c.args.scope.now) c.args.active.now c.args.number c.args.path.now c.args.machine.now
    (omega (arith, c.if-number-len.true, c.len.ensures, (out-Bodies c.args.active.now).bodies.ok.0)) right c.args.stream

pub fire_active-returns : goal.fire_active-returns
fire_active-returns t c = λ from right.
    let active = c.args.active.now in
    let now = c.index_mut-now.result.now in
    element_counted (consume_scope from c.args.element c.args.private.now (item_trees c.args.body.now)) (context_of (graph_tree c.args.graph.now) c.args.base.now c.args.scope.now) c.args.path.now c.args.machine.now c.fire_element.new.machine c.in_ok-end.end
    active _ c.count_again.new.self c.args.number now c.fire_element.new.now
    (omega (arith, c.if-number-len.false, c.len.ensures, (out-Bodies active).bodies.ok.0)) c.index_mut-now.ensures.value
    (body_put active c.args.number c.fire_element.new.now _ refl refl refl refl) c.in_ok-count_again.ensures.bodies c.in_ok-count_again.ensures.right right c.args.stream c.in_ok-end.ensures

pub fire_element-returns : goal.fire_element-returns
fire_element-returns t c = IfOk-weaker c.fire_body.result _ _ (λ end fired right.
    let tree = graph_tree c.args.graph.now in
    let context = context_of tree c.args.base.now c.args.scope.now in
    let items = item_trees c.args.body.now in
    let numbers : c.as_slice-2.result.now ≡ c.args.element ∷ c.args.private.now = search rules in
    let fits : FitsSigned w64 c.in_ok-value.value = search rules in
    let value : to_z w64 (of_z w64 c.in_ok-value.value) ≡ value_at (body_kept c.args.now.now).at = to_z-of_z w64 c.in_ok-value.value fits ∙ c.in_ok-value.ensures ∙ ap value_at (c.as_slice.ensures.value ∙ numbers_of c.args.now.now) in
    items_moved c.args.now.now c.fire_body.new.body items items (context_of tree c.args.base.now c.at_element.new.self) (at_element context c.args.element c.args.private.now (value_at (body_kept c.args.now.now).at)) c.args.path.now c.args.machine.now c.fire_body.new.machine end refl
    (c.in_ok-at_element.ensures.context tree c.args.base.now c.args.private.now
    (subst (λ (ns : List ℕ). IsInside ns c.args.scope.now c.in_ok-inside.inside) numbers c.in_ok-inside.ensures)
    ∙ ap (at_element context c.args.element c.args.private.now) value)
    (fired right)) c.fire_body.ensures

-- ---- items of a body

pub fire_parts-returns-then-number-len : goal.fire_parts-returns-then-number-len
fire_parts-returns-then-number-len t c = λ right.
    let context = context_of (graph_tree c.args.graph.now) c.args.base.now c.args.scope.now in
    subst (λ (path : Path). ArePartsFired c.args.body.now (item_trees c.args.items.now) context path c.args.machine.now Finished c.args.machine.now c.args.body.now) (sym c.in-Some.ensures.cases.0)
    (no_item c.args.items.now context c.args.body.now c.in-Some.number.now c.in-Some.inner.now c.args.machine.now (omega (arith, c.if-number-len.true, c.len.ensures, (out-Body c.args.body.now).parts.ok.0)) right)

pub fire_parts-returns : goal.fire_parts-returns
fire_parts-returns t c = λ right.
    let body = c.args.body.now in
    let number = c.in-Some.number.now in
    let part = c.index_mut-part.result.now in
    let context = context_of (graph_tree c.args.graph.now) c.args.base.now c.args.scope.now in
    subst (λ (path : Path). ArePartsFired body (item_trees c.args.items.now) context path c.args.machine.now c.in_ok-end.end c.fire_left.new.machine c.count_again.new.self) (sym c.in-Some.ensures.cases.0)
    (item_counted c.args.items.now c.index-items-number.result context c.in-Some.inner.now c.args.machine.now c.fire_left.new.machine c.in_ok-end.end body c.count_again.new.self _ number part c.fire_left.new.left
    (omega (arith, c.if-number-len.false, c.len.ensures, (out-Body body).parts.ok.0)) c.index_mut-part.ensures.value
    (omega (arith, c.if-number-items.false)) c.index-items-number.is
    (part_put body number c.fire_left.new.left _ refl refl refl refl refl) refl
    c.in_ok-count_again.ensures.at c.in_ok-count_again.ensures.order c.in_ok-count_again.ensures.parts c.in_ok-count_again.ensures.right right
    c.in_ok-end.ensures)

-- ---- runs

pub fire_run-returns-then-is_body_finished : goal.fire_run-returns-then-is_body_finished
fire_run-returns-then-is_body_finished t c = IfOk-weaker c.go_on_run.result _ _ (λ end going right.
    let tree = graph_tree c.args.graph.now in
    going c.args.path.now (run_over c.args.run.now false c.if-run.false)
    (state_over c.args.run.now tree (opening_reach (containers_of tree) c.args.base.now) c.args.base.now.around c.args.path.now right true (sym c.if-is_body_finished.true ∙ c.is_body_finished.ensures))
    right) c.go_on_run.ensures

pub fire_run-returns : goal.fire_run-returns
fire_run-returns t c = IfOk-weaker c.fire_state.result _ _ (λ end fires right.
    let tree = graph_tree c.args.graph.now in
    let reach = opening_reach (containers_of tree) c.args.base.now in
    run_moves c.args.run.now tree reach c.args.base.now.around c.args.path.now _ c.args.machine.now c.fire_state.new.machine end refl refl c.if-run.false
    (state_over c.args.run.now tree reach c.args.base.now.around c.args.path.now right false (sym c.if-is_body_finished.false ∙ c.is_body_finished.ensures))
    right fires) c.fire_state.ensures

pub fire_state-returns : goal.fire_state-returns
fire_state-returns t c = IfOk-weaker c.fire_body.result _ _ (λ end fired right.
    let tree = graph_tree c.args.graph.now in
    let reach = opening_reach (containers_of tree) c.args.base.now in
    items_moved c.args.body.now c.fire_body.new.body (item_trees c.as_slice-2.result.now) (items_at (states_of_graph tree) c.args.state) (context_of tree c.args.base.now c.in_ok-scope.scope)
    (state_context tree reach c.args.base.now.around c.args.state (body_kept c.args.body.now).at) c.args.path.now c.args.machine.now c.fire_body.new.machine end
    (items_here c.args.graph.now c.as_slice-states.result.now c.args.state c.index-states-state.result (item_trees c.as_slice-2.result.now) c.as_slice-states.ensures.value (omega (arith, c.if-state-states.false)) c.index-states-state.is
    (ap item_trees c.as_slice-2.ensures.value))
    (c.in_ok-scope.ensures tree c.args.base.now ∙ ap (λ (values : Values). state_context tree reach c.args.base.now.around c.args.state values) (c.as_slice.ensures.value ∙ numbers_of c.args.body.now))
    (fired right)) c.fire_body.ensures
