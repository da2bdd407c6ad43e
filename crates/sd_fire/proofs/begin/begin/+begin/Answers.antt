use Rattle.std.proofs.Common.{rules, ℕ, ◌+◌, List, [], map, drop, IfOk, refl, sym, ap, ◌∙◌, subst, arith, replicate, pos}
use Rattle.std.proofs.lemmas.Result.{IfOk-weaker}
use Rattle.sd_range.specs.Points.{Walk, points, ranges_of}
use Rattle.sd_work.specs.Memory.{Memories}
use Rattle.sd_work.specs.BigStep.{Reached}
use Rattle.sd_work.specs.Exit.{Values}
use Rattle.sd_graph.specs.PlainTree.{task, map_scope, consume_scope, nested_graph, reduction, copy}
use Rattle.sd_graph.specs.TreeFold.{graph_tree, kind_tree, item_trees, tasklet_tree, named_container}
use Rattle.sd_graph.specs.TreeParts.{containers_of, states_of_graph, items_at}
use Rattle.sd_graph.specs.ContainerParts.{Containers}
use Rattle.sd_graph.specs.Wiring.{before}
use Rattle.sd_graph.specs.Unfold.{run_memory}
use Rattle.sd_order.specs.table.Told.{told}
use Rattle.sd_graph.specs.declared.graph.ItemKind.TheViews.{out-Sdfg, out-State}
use Rattle.sd_graph.specs.declared.graph.State.{State}
use Rattle.sd_graph.specs.declared.link.Link.{Link}
use Rattle.sd_mem.specs.machine.Coming.{state_context}
use Rattle.sd_scope.specs.scope.Standing.{context_of, opening_reach}
use Rattle.sd_left.specs.declared.left.left.Left.{Left as LeftNow}
use Rattle.sd_left.specs.declared.left.left.Body.{Body as BodyNow}
use Rattle.sd_left.specs.left.Kept.{left_of, body_kept, run_kept}
use Rattle.sd_left.specs.left.Telling.{all_right}
use Rattle.sd_left.specs.left.Tells.{tells, body_tells}
use Rattle.sd_left.specs.left.Waits.{is_counted, is_body_counted, all_hold}
use Rattle.sd_fire.specs.begin.Begun.{IsItemBegun}
use Rattle.sd_fire.proofs.begin_lemmas.ItemKinds.{task_kind, map_kind, consume_kind, nested_kind, reduce_kind, copy_kind, as-kind}
use Rattle.sd_fire.proofs.begin_lemmas.Rolled.{map-begins}
use Rattle.sd_fire.proofs.begin_lemmas.Parts.{AreBegunSoFar, ArePointsBegunSoFar, items-more, items-all, point-first, none-left, points-first, points-more, points-all, all-hold-more, all-right-more}
use Rattle.sd_fire.proofs.begin_lemmas.Bodies.{given-back, left-behind, containers_in, body-begins, body-counted, point-begins, items_here, nothing_here, state-body, as_many, values-begin, started-run, nested-run}
use Rattle.sd_fire.proofs.begin.begin.+begin.Goals as goal

-- ---- items

pub begin_item-returns-in-Task-clause-begun : goal.begin_item-returns-in-Task-clause-begun
begin_item-returns-in-Task-clause-begun t c =
    let context = context_of (graph_tree c.args.graph.now) c.args.base.now c.args.scope.now in
    as-kind c.begin_task.result (kind_tree c.args.kind.now) (task (tasklet_tree c.in-Task.code) c.in-Task.ins.items c.in-Task.outs.items) c.args.line context
    (ap kind_tree c.in-Task.is ∙ task_kind c.in-Task.code c.in-Task.ins c.in-Task.outs)
    (subst (λ (ins : List Link). IfOk c.begin_task.result (IsItemBegun (task (tasklet_tree c.in-Task.code) ins c.in-Task.outs.items) c.args.line context)) c.deref.ensures.value
    (IfOk-weaker c.begin_task.result _ _ (λ left begun. begun (tasklet_tree c.in-Task.code) c.in-Task.outs.items c.args.line) c.begin_task.ensures.begun))

pub begin_item-returns-in-Task-clause-counted : goal.begin_item-returns-in-Task-clause-counted
begin_item-returns-in-Task-clause-counted t c = IfOk-weaker c.begin_task.result _ _ (λ left counted. counted c.args.machine.now.memories) c.begin_task.ensures.counted

pub begin_item-returns-in-Map-clause-begun : goal.begin_item-returns-in-Map-clause-begun
begin_item-returns-in-Map-clause-begun t c =
    as-kind c.begin_map.result (kind_tree c.args.kind.now) (map_scope c.in-Map.marked c.in-Map.params.items c.in-Map.private.items (item_trees c.in-Map.body.items)) c.args.line (context_of (graph_tree c.args.graph.now) c.args.base.now c.args.scope.now)
    (ap kind_tree c.in-Map.is ∙ map_kind c.in-Map.params c.in-Map.private c.in-Map.body c.in-Map.marked)
    (rw (sym c.deref-in-Map-2.ensures.value, sym c.deref-in-Map-3.ensures.value, sym c.deref-in-Map.ensures.value) (IfOk-weaker c.begin_map.result _ _ (λ left begun. begun c.args.line) c.begin_map.ensures.begun))

pub begin_item-returns-in-Consume-clause-begun : goal.begin_item-returns-in-Consume-clause-begun
begin_item-returns-in-Consume-clause-begun t c =
    as-kind c.begin_pool.result (kind_tree c.args.kind.now) (consume_scope c.in-Consume.stream c.in-Consume.element c.in-Consume.private.items (item_trees c.in-Consume.body.items)) c.args.line (context_of (graph_tree c.args.graph.now) c.args.base.now c.args.scope.now)
    (ap kind_tree c.in-Consume.is ∙ consume_kind c.in-Consume.stream c.in-Consume.element c.in-Consume.private c.in-Consume.body)
    (IfOk-weaker c.begin_pool.result _ _ (λ left begun. begun (graph_tree c.args.graph.now) c.in-Consume.element c.args.line c.in-Consume.private.items (item_trees c.in-Consume.body.items)) c.begin_pool.ensures.begun)

pub begin_item-returns-in-Nested-clause-begun : goal.begin_item-returns-in-Nested-clause-begun
begin_item-returns-in-Nested-clause-begun t c =
    let context = context_of (graph_tree c.args.graph.now) c.args.base.now c.args.scope.now in
    as-kind c.begin_nested.result (kind_tree c.args.kind.now) (nested_graph (graph_tree c.in-Nested.inner.value) c.in-Nested.links.items) c.args.line context
    (ap kind_tree c.in-Nested.is ∙ nested_kind c.in-Nested.inner c.in-Nested.links)
    (rw (sym c.deref-in-Nested-2.ensures.value, sym c.deref-in-Nested.ensures) c.begin_nested.ensures.begun)

pub begin_item-returns-in-Reduce-clause-begun : goal.begin_item-returns-in-Reduce-clause-begun
begin_item-returns-in-Reduce-clause-begun t c =
    as-kind c.begin_reduction.result (kind_tree c.args.kind.now) (reduction c.in-Reduce.resolution c.in-Reduce.axis c.in-Reduce.identity c.in-Reduce.from c.in-Reduce.to) c.args.line (context_of (graph_tree c.args.graph.now) c.args.base.now c.args.scope.now)
    (ap kind_tree c.in-Reduce.is ∙ reduce_kind c.in-Reduce.resolution c.in-Reduce.axis c.in-Reduce.identity c.in-Reduce.from c.in-Reduce.to)
    (IfOk-weaker c.begin_reduction.result _ _ (λ left begun. begun c.args.line) c.begin_reduction.ensures.begun)

pub begin_item-returns-in-Reduce-clause-counted : goal.begin_item-returns-in-Reduce-clause-counted
begin_item-returns-in-Reduce-clause-counted t c = IfOk-weaker c.begin_reduction.result _ _ (λ left counted. counted c.args.machine.now.memories) c.begin_reduction.ensures.counted

pub begin_item-returns-in-Copy-clause-begun : goal.begin_item-returns-in-Copy-clause-begun
begin_item-returns-in-Copy-clause-begun t c =
    as-kind c.begin_copy.result (kind_tree c.args.kind.now) (copy c.in-Copy.from c.in-Copy.to) c.args.line (context_of (graph_tree c.args.graph.now) c.args.base.now c.args.scope.now)
    (ap kind_tree c.in-Copy.is ∙ copy_kind c.in-Copy.from c.in-Copy.to)
    (IfOk-weaker c.begin_copy.result _ _ (λ left begun. begun c.args.line) c.begin_copy.ensures.begun)

pub begin_item-returns-in-Copy-clause-counted : goal.begin_item-returns-in-Copy-clause-counted
begin_item-returns-in-Copy-clause-counted t c = IfOk-weaker c.begin_copy.result _ _ (λ left counted. counted c.args.machine.now.memories) c.begin_copy.ensures.counted

-- ---- lists of items

pub begin_items-loop-item-preserved : goal.begin_items-loop-item-preserved
begin_items-loop-item-preserved t c = record {
  begun = subst (λ (parts : List LeftNow). AreBegunSoFar (item_trees c.args.items.now) (context_of (graph_tree c.args.graph.now) c.args.base.now c.args.scope.now) (map left_of parts) (item_trees (drop (c.loop-item.item-index + 1) c.args.items.now)))
      (sym c.in_ok-push.ensures.items)
      (items-more left_of (context_of (graph_tree c.args.graph.now) c.args.base.now c.args.scope.now) (item_trees c.args.items.now) c.loop-item.parts.items c.in_ok-part.part c.args.items.now c.loop-item.item-index c.item-item.result
      c.loop-item-test.true c.item-item.is c.in_ok-part.ensures.begun c.loop-item.invariant.begun);
  counted = ap (λ (parts : List LeftNow). all_hold (map is_counted parts) c.args.machine.now.memories) c.in_ok-push.ensures.items
      ∙ all-hold-more is_counted c.loop-item.parts.items c.in_ok-part.part c.args.machine.now.memories c.loop-item.invariant.counted
      (ap (λ (now : Reached). is_counted c.in_ok-part.part now.memories) (sym c.loop-item.invariant.stays) ∙ c.in_ok-part.ensures.counted);
  right = ap (λ (parts : List LeftNow). all_right (map tells parts)) c.in_ok-push.ensures.items
      ∙ all-right-more tells c.loop-item.parts.items c.in_ok-part.part c.loop-item.invariant.right c.in_ok-part.ensures.right;
  stays = c.begin_item.ensures.stays ∙ c.loop-item.invariant.stays;
}

pub begin_items-returns-clause-begun : goal.begin_items-returns-clause-begun
begin_items-returns-clause-begun t c =
    items-all (context_of (graph_tree c.args.graph.now) c.args.base.now c.args.scope.now) (item_trees c.args.items.now) (map left_of c.loop-item.parts.items) c.args.items.now c.loop-item.item-index c.loop-item-test.false c.loop-item.invariant.begun

-- ---- maps

pub begin_each-returns-clause-begun : goal.begin_each-returns-clause-begun
begin_each-returns-clause-begun t c = IfOk-weaker c.points.result _ _ (λ left kept line.
    map-begins (context_of (graph_tree c.args.graph.now) c.args.base.now c.args.scope.now) line c.args.sequential c.args.params.now c.args.private.now (item_trees c.args.body.now) (map body_kept c.in_ok-points.points.items) left
    (kept (map_scope c.args.sequential c.args.params.now c.args.private.now (item_trees c.args.body.now)) line (context_of (graph_tree c.args.graph.now) c.args.base.now c.args.scope.now)) c.in_ok-points.ensures.begun) c.points.ensures.kept

pub begin_each-returns-clause-counted : goal.begin_each-returns-clause-counted
begin_each-returns-clause-counted t c = IfOk-weaker c.points.result _ _ (λ left counted. counted c.args.machine.now.memories ∙ c.in_ok-points.ensures.counted) c.points.ensures.counted

pub begin_each-returns-clause-right : goal.begin_each-returns-clause-right
begin_each-returns-clause-right t c = IfOk-weaker c.points.result _ _ (λ left right. right ∙ c.in_ok-points.ensures.right) c.points.ensures.right

pub begin_points-walk-init : goal.begin_points-walk-init
begin_points-walk-init t c = record {
  begun = subst (λ (bodies : List BodyNow). ArePointsBegunSoFar c.args.params.now c.args.private.now (item_trees c.args.body.now) (context_of (graph_tree c.args.graph.now) c.args.base.now c.args.scope.now) (points (ranges_of c.args.params.now) c.args.scope.now.values.values) (map body_kept bodies) c.in_ok-points.points.left)
      (sym c.new-bodies.ensures.items)
      (subst (λ (walk : Walk). ArePointsBegunSoFar c.args.params.now c.args.private.now (item_trees c.args.body.now) (context_of (graph_tree c.args.graph.now) c.args.base.now c.args.scope.now) (points (ranges_of c.args.params.now) c.args.scope.now.values.values) [] walk.left)
      (sym c.in_ok-points.ensures) (points-first c.args.params.now c.args.private.now (item_trees c.args.body.now) (context_of (graph_tree c.args.graph.now) c.args.base.now c.args.scope.now) (points (ranges_of c.args.params.now) c.args.scope.now.values.values)));
  counted = ap (λ (bodies : List BodyNow). all_hold (map is_body_counted bodies) c.args.machine.now.memories) c.new-bodies.ensures.items;
  right = ap (λ (bodies : List BodyNow). all_right (map body_tells bodies)) c.new-bodies.ensures.items;
  inside = c.in_ok-point_scope.ensures;
  stays = refl;
}

pub begin_points-walk-preserved : goal.begin_points-walk-preserved
begin_points-walk-preserved t c =
    let tree = graph_tree c.args.graph.now in
    let context = context_of tree c.args.base.now c.args.scope.now in
    let all = points (ranges_of c.args.params.now) c.args.scope.now.values.values in
    record {
      begun = subst (λ (bodies : List BodyNow). ArePointsBegunSoFar c.args.params.now c.args.private.now (item_trees c.args.body.now) context all (map body_kept bodies) c.next.new.self.left)
          (sym c.in_ok-push.ensures.items)
          (points-more c.args.params.now c.args.private.now (item_trees c.args.body.now) context body_kept all c.walk.bodies.items c.in_ok-point.point c.at.result.now c.walk.points.left c.next.new.self.left
          (point-first c.walk.points c.next.new.self c.at.result.now c.walk-test.ensures.step c.at.ensures)
          (point-begins c.args.params.now c.args.private.now (item_trees c.args.body.now) context _ (map named_container (out-Sdfg c.args.graph.now).containers.entries) c.at.result.now c.in_ok-at.at.items c.in_ok-own.own.contents (body_kept c.in_ok-point.point)
          (c.in_ok-at_point.ensures.context tree c.args.base.now c.args.private.now c.walk.invariant.inside) (containers_in c.args.graph.now) (search rules) c.in_ok-own.ensures.contents c.in_ok-point.ensures.begun)
          c.walk.invariant.begun);
      counted = ap (λ (bodies : List BodyNow). all_hold (map is_body_counted bodies) c.args.machine.now.memories) c.in_ok-push.ensures.items
          ∙ all-hold-more is_body_counted c.walk.bodies.items c.in_ok-point.point c.args.machine.now.memories c.walk.invariant.counted
          (ap (λ (now : Reached). is_body_counted c.in_ok-point.point now.memories) (sym c.walk.invariant.stays) ∙ c.in_ok-point.ensures.counted);
      right = ap (λ (bodies : List BodyNow). all_right (map body_tells bodies)) c.in_ok-push.ensures.items
          ∙ all-right-more body_tells c.walk.bodies.items c.in_ok-point.point c.walk.invariant.right c.in_ok-point.ensures.right;
      inside = c.in_ok-at_point.ensures.inside c.args.private.now c.walk.invariant.inside;
      stays = c.begin_ordered.ensures.stays ∙ c.walk.invariant.stays;
    }

pub begin_points-returns-clause-begun : goal.begin_points-returns-clause-begun
begin_points-returns-clause-begun t c =
    points-all c.args.params.now c.args.private.now (item_trees c.args.body.now) (context_of (graph_tree c.args.graph.now) c.args.base.now c.args.scope.now) (points (ranges_of c.args.params.now) c.args.scope.now.values.values) (map body_kept c.walk.bodies.items) c.walk.points.left
    (none-left c.walk.points c.next.new.self c.walk-test.ensures.step (search rules)) c.walk.invariant.begun

-- ---- nested graphs

pub begin_nested-returns-clause-begun : goal.begin_nested-returns-clause-begun
begin_nested-returns-clause-begun t c = IfOk-weaker c.nested.result _ _ (λ left kept.
    kept (nested_graph (graph_tree c.args.inner.now) c.args.links.now) c.args.line (context_of (graph_tree c.args.graph.now) c.args.base.now c.args.scope.now)
    ∙ nested-run (graph_tree c.args.inner.now) (run_kept c.in_ok-run.run') _ _ _ _ c.in_ok-own.own.contents _ c.in_ok-within.ensures.reach c.in_ok-within.ensures.around
    (c.in_ok-own.ensures.contents ∙ ap run_memory (containers_in c.args.inner.now)) c.in_ok-run.ensures.begun) c.nested.ensures.kept

pub begin_nested-returns-clause-counted : goal.begin_nested-returns-clause-counted
begin_nested-returns-clause-counted t c = IfOk-weaker c.nested.result _ _ (λ left counted. counted c.args.machine.now.memories ∙ c.in_ok-run.ensures.counted) c.nested.ensures.counted

pub begin_nested-returns-clause-right : goal.begin_nested-returns-clause-right
begin_nested-returns-clause-right t c = IfOk-weaker c.nested.result _ _ (λ left right. right ∙ c.in_ok-run.ensures.right) c.nested.ensures.right

-- ---- bodies

pub begin_body-begin_ordered-requires : goal.begin_body-begin_ordered-requires
begin_body-begin_ordered-requires t c = (search rules, c.in_ok-order.ensures ∙ ap (λ (all : Containers). before all (item_trees c.args.items.now)) (containers_in c.args.graph.now))

pub begin_points-begin_ordered-requires : goal.begin_points-begin_ordered-requires
begin_points-begin_ordered-requires t c =
    (search rules, c.in_ok-here.ensures ∙ c.in_ok-order.ensures ∙ ap (λ (all : Containers). before all (item_trees c.args.body.now)) (containers_in c.args.graph.now))

pub begin_ordered-returns-clause-begun : goal.begin_ordered-returns-clause-begun
begin_ordered-returns-clause-begun t c = IfOk-weaker c.begin.result _ _ (λ body kept.
    body-begins (item_trees c.args.items.now) (context_of (graph_tree c.args.graph.now) c.args.base.now c.args.scope.now) (containers_of (graph_tree c.args.graph.now)) c.args.at.items c.args.own.contents c.begin_inside.new.own.contents (told c.args.order) (map left_of c.in_ok-parts.parts.items) (body_kept body) kept refl
    c.begin_inside.ensures.own c.requires.order c.in_ok-parts.ensures.begun) c.begin.ensures.kept

pub begin_ordered-returns-clause-counted : goal.begin_ordered-returns-clause-counted
begin_ordered-returns-clause-counted t c = IfOk-weaker c.begin.result _ _ (λ body counted.
    body-counted (all_hold (map is_counted c.in_ok-parts.parts.items)) c.args.machine.now.memories c.args.own.contents c.begin_inside.new.own.contents (is_body_counted body c.args.machine.now.memories)
    c.begin_inside.ensures.own (counted c.args.machine.now.memories) c.in_ok-parts.ensures.counted) c.begin.ensures.counted

pub begin_ordered-returns-clause-right : goal.begin_ordered-returns-clause-right
begin_ordered-returns-clause-right t c = IfOk-weaker c.begin.result _ _ (λ body right. right ∙ c.in_ok-parts.ensures.right) c.begin.ensures.right

pub begin_inside-returns-clause-counted : goal.begin_inside-returns-clause-counted
begin_inside-returns-clause-counted t c = IfOk-weaker c.begin_items-parts.result _ _ (λ parts counted.
    ap (λ (inside : Memories). all_hold (map is_counted parts.items) inside) (sym c.in_ok-lend.ensures.memories) ∙ counted) c.begin_items-parts.ensures.counted

pub begin_inside-returns-clause-own : goal.begin_inside-returns-clause-own
begin_inside-returns-clause-own t c =
    given-back c.args.own.now.contents c.give_back.new.own.contents c.args.machine.now c.lend.new.self c.begin_items-parts.new.machine c.in_ok-lend.ensures.memories c.begin_items-parts.ensures.stays c.give_back.ensures.memory

pub begin_inside-returns-clause-stays : goal.begin_inside-returns-clause-stays
begin_inside-returns-clause-stays t c =
    left-behind c.args.own.now.contents c.args.machine.now c.lend.new.self c.begin_items-parts.new.machine c.give_back.new.self c.in_ok-lend.ensures.memories c.in_ok-lend.ensures.turns c.begin_items-parts.ensures.stays c.give_back.ensures.memories c.give_back.ensures.turns

-- ---- states and runs

pub begin_run-returns-clause-begun : goal.begin_run-returns-clause-begun
begin_run-returns-clause-begun t c =
    started-run (graph_tree c.args.graph.now) (opening_reach (containers_of (graph_tree c.args.graph.now)) c.args.base.now) c.args.base.now.around c.args.own.contents c.in_ok-values.values.items (body_kept c.in_ok-body.body) (run_kept c.begin.result) c.begin.ensures.kept
    (values-begin c.args.graph.now c.in_ok-values.values.items (c.in_ok-values.ensures.items_if_clones_equal (λ x h. h) ∙ ap (λ (count : ℕ). replicate count (pos 0)) (c.len.ensures ∙ as_many (out-Sdfg c.args.graph.now).variables)))
    c.in_ok-body.ensures.begun

pub begin_run-returns-clause-counted : goal.begin_run-returns-clause-counted
begin_run-returns-clause-counted t c = c.begin.ensures.counted c.args.machine.now.memories ∙ c.in_ok-body.ensures.counted

pub begin_state-returns-then-state-states-clause-begun : goal.begin_state-returns-then-state-states-clause-begun
begin_state-returns-then-state-states-clause-begun t c = IfOk-weaker c.begin_body.result _ _ (λ body begun.
    state-body (item_trees []) (items_at (states_of_graph (graph_tree c.args.graph.now)) c.args.state) (context_of (graph_tree c.args.graph.now) c.args.base.now c.in_ok-scope.scope)
    (state_context (graph_tree c.args.graph.now) (opening_reach (containers_of (graph_tree c.args.graph.now)) c.args.base.now) c.args.base.now.around c.args.state c.args.values.items) c.args.values.items c.args.own.contents (body_kept body)
    (nothing_here c.args.graph.now c.as_slice-states.result.now c.args.state c.as_slice-states.ensures.value c.if-state-states.true)
    (c.in_ok-scope.ensures (graph_tree c.args.graph.now) c.args.base.now ∙ ap (λ (values : Values). state_context (graph_tree c.args.graph.now) (opening_reach (containers_of (graph_tree c.args.graph.now)) c.args.base.now) c.args.base.now.around c.args.state values) c.as_slice.ensures.value)
    begun) c.begin_body.ensures.begun

pub begin_state-returns-clause-begun : goal.begin_state-returns-clause-begun
begin_state-returns-clause-begun t c = IfOk-weaker c.begin_body-2.result _ _ (λ body begun.
    state-body (item_trees c.as_slice-items.result.now) (items_at (states_of_graph (graph_tree c.args.graph.now)) c.args.state) (context_of (graph_tree c.args.graph.now) c.args.base.now c.in_ok-scope.scope)
    (state_context (graph_tree c.args.graph.now) (opening_reach (containers_of (graph_tree c.args.graph.now)) c.args.base.now) c.args.base.now.around c.args.state c.args.values.items) c.args.values.items c.args.own.contents (body_kept body)
    (items_here c.args.graph.now c.as_slice-states.result.now c.args.state c.index-states-state.result (item_trees c.as_slice-items.result.now) c.as_slice-states.ensures.value (omega (arith, c.if-state-states.false)) c.index-states-state.is (ap item_trees c.as_slice-items.ensures.value ∙ ap (λ (state : State). item_trees (out-State state).items.items) (sym c.index-states-state.is)))
    (c.in_ok-scope.ensures (graph_tree c.args.graph.now) c.args.base.now ∙ ap (λ (values : Values). state_context (graph_tree c.args.graph.now) (opening_reach (containers_of (graph_tree c.args.graph.now)) c.args.base.now) c.args.base.now.around c.args.state values) c.as_slice.ensures.value)
    begun) c.begin_body-2.ensures.begun
