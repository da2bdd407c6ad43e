use Rattle.std.proofs.Common.{rules, ◌≡◌, ℕ, ◌≤◌, List, ◌∷◌, map, refl, arith, sym, ◌∙◌, ap, subst, get_or, pos, replicate, FitsSigned, w64, to_z, of_z}
use Rattle.std.proofs.lemmas.Int.{to_z-of_z}
use Rattle.std.specs.Result.{IfOk}
use Rattle.sd_range.specs.Affine.{affine_value}
use Rattle.sd_range.specs.Variables.{with_variables}
use Rattle.sd_work.specs.Exit.{Values}
use Rattle.sd_graph.specs.PlainTree.{KindTree}
use Rattle.sd_graph.specs.TreeFold.{graph_tree, kind_tree, item_trees, named_container}
use Rattle.sd_graph.specs.declared.graph.ItemKind.TheViews.{out-Sdfg}
use Rattle.sd_graph.specs.TreeParts.{containers_of}
use Rattle.sd_graph.specs.Unfold.{run_memory}
use Rattle.sd_mem.specs.machine.ComesTo.{IsEnd}
use Rattle.sd_work.specs.BigStep.{Reached}
use Rattle.sd_mem.specs.machine.Coming.{kind_coming, map_coming, points_coming, state_context, from_state}
use Rattle.sd_scope.specs.scope.Standing.{context_of, opening_reach, IsInside}
use Rattle.sd_row.proofs.row_lemmas.Comes.{IsLeft, as_finished}
use Rattle.sd_rows.proofs.tasks_lemmas.Items.{item_more, item_stop}
use Rattle.sd_seq.proofs.Items.{item_leads}
use Rattle.sd_seq.proofs.ItemKinds.{map_kind, consume_kind}
use Rattle.sd_rows.proofs.rows_lemmas.Points.{points_begin, point_first, point_ends, point_more, point_stop}
use Rattle.sd_rows.specs.consume.Taking.{consume_coming, takes_coming}
use Rattle.sd_rows.proofs.consume_lemmas.Takes.{take_there, oldest_there, no_value, takes_end, element_ends, element_more, element_stop}
use Rattle.sd_seq.proofs.NestedRuns.{nested_ends}
use Rattle.sd_row.proofs.instance_lemmas.Bodies.{containers_in}
use Rattle.sd_row.proofs.instance_lemmas.Matched.{none_so}
use Rattle.sd_seq.proofs.Transitions.{items_lead, graph_stop, graph_nowhere, graph_fault, graph_spent, graph_on, graph_falls, graph_over, as_many, values_begin}
use denote.Param.Weighed.{most, at_most}
use Rattle.sd_graph.proofs.graph.Item.TheLaws.{the_size}
use Rattle.sd_graph.proofs.graph.State.TheLaws.{the_size as state_size}
use Rattle.sd_graph.specs.declared.graph.Item.{Item}
use Rattle.sd_graph.specs.declared.graph.State.{State}
use Rattle.sd_seq.proofs.run.+run.Goals as goal

pub run_items-run_item-requires : goal.run_items-run_item-requires
run_items-run_item-requires t c =
    let near : the_size (get_or c.args.items.now c.loop-item.item-index c.item-item.result) ≤ most the_size c.args.items.now = at_most the_size c.args.items.now c.loop-item.item-index c.item-item.result c.loop-item-test.true in
    let here : the_size c.item-item.result ≤ most the_size c.args.items.now = subst (λ (i : Item). the_size i ≤ most the_size c.args.items.now) (sym c.item-item.is) near in
    (search rules, item_leads c.args.items.now c.loop-item.item-index c.item-item.result c.loop-item-test.true c.item-item.is c.requires.leads)

pub run_items-returns-in_default : goal.run_items-returns-in_default
run_items-returns-in_default t c =
    item_stop _ (context_of (graph_tree c.args.graph.now) c.args.base.now c.args.scope.now) _ _ _ c.args.items.now c.loop-item.item-index c.item-item.result c.loop-item-test.true c.item-item.is c.loop-item.invariant
    c.in_ok-end.end c.in_ok-end.ensures c.in_default.not-Finished

pub run_items-loop-item-preserved : goal.run_items-loop-item-preserved
run_items-loop-item-preserved t c =
    item_more _ (context_of (graph_tree c.args.graph.now) c.args.base.now c.args.scope.now) _ _ _ c.args.items.now c.loop-item.item-index c.item-item.result c.loop-item-test.true c.item-item.is c.loop-item.invariant
    (as_finished _ _ _ c.in_ok-end.end c.in-Finished.is c.in_ok-end.ensures)

pub run_kind-returns-in-Map : goal.run_kind-returns-in-Map
run_kind-returns-in-Map t c =
    subst (λ (k : KindTree). IfOk c.run_map.result (λ end. IsEnd (kind_coming k c.args.line (context_of (graph_tree c.args.graph.now) c.args.base.now c.args.scope.now) c.args.machine.now) c.args.machine.now end c.run_map.new.machine))
    (sym (ap kind_tree c.in-Map.is ∙ map_kind c.in-Map.params c.in-Map.private c.in-Map.body c.in-Map.sequential))
    (rw (sym c.deref-in-Map-2.ensures.value, sym c.deref-in-Map-3.ensures.value, sym c.deref-in-Map.ensures.value) c.run_map.ensures)

pub run_kind-returns-in-Consume : goal.run_kind-returns-in-Consume
run_kind-returns-in-Consume t c =
    subst (λ (k : KindTree). IfOk c.run_consume.result (λ end. IsEnd (kind_coming k c.args.line (context_of (graph_tree c.args.graph.now) c.args.base.now c.args.scope.now) c.args.machine.now) c.args.machine.now end c.run_consume.new.machine))
    (sym (ap kind_tree c.in-Consume.is ∙ consume_kind c.in-Consume.stream c.in-Consume.element c.in-Consume.private c.in-Consume.body))
    (rw (sym c.deref-in-Consume-2.ensures.value, sym c.deref-in-Consume.ensures.value) c.run_consume.ensures)

pub run_map-loop-alloc-init : goal.run_map-loop-alloc-init
run_map-loop-alloc-init t c = record {
  left = subst (λ (machine : Reached). IsLeft (map_coming (item_trees c.args.body.now) c.args.params.now c.args.private.now (context_of (graph_tree c.args.graph.now) c.args.base.now c.args.scope.now) c.args.machine.now) c.args.machine.now
      (λ most beside. points_coming (item_trees c.args.body.now) c.args.params.now c.args.private.now (context_of (graph_tree c.args.graph.now) c.args.base.now c.args.scope.now) c.in_ok-points.points.left machine most) machine)
      (sym (none_so _ _ c.in_ok-rows.rows c.in_default.is c.in_ok-rows.ensures))
      (points_begin (item_trees c.args.body.now) c.args.params.now c.args.private.now (context_of (graph_tree c.args.graph.now) c.args.base.now c.args.scope.now) c.args.machine.now c.in_ok-points.points c.in_ok-points.ensures);
  inside = c.in_ok-point_scope.ensures;
  runners = c.in_ok-runners.ensures;
}

pub run_map-loop-alloc-preserved : goal.run_map-loop-alloc-preserved
run_map-loop-alloc-preserved t c = record {
  left = point_more (item_trees c.args.body.now) c.args.params.now c.args.private.now (context_of (graph_tree c.args.graph.now) c.args.base.now c.args.scope.now) c.at.result.now
      _ _ _ _ _ _ (point_first c.loop-alloc.points c.next.new.self c.at.result.now c.loop-alloc-test.ensures.step c.at.ensures) c.loop-alloc.invariant.left
      (as_finished _ _ _ c.in_ok-end.end c.in-Finished.is
      (point_ends (item_trees c.args.body.now) c.args.params.now c.args.private.now (context_of (graph_tree c.args.graph.now) c.args.base.now c.args.scope.now) c.at.result.now
      (map named_container (out-Sdfg c.args.graph.now).containers.entries) _ c.in_ok-own.own.contents c.loop-alloc.machine c.enter.new.self c.run_body.new.machine c.leave.new.self c.in_ok-end.end
      (containers_in c.args.graph.now) c.in_ok-own.ensures.contents
      (c.in_ok-at_point.ensures.context (graph_tree c.args.graph.now) c.args.base.now c.args.private.now c.loop-alloc.invariant.inside)
      c.in_ok-enter.ensures.memories c.in_ok-enter.ensures.turns c.in_ok-end.ensures.end c.leave.ensures.memories c.leave.ensures.turns));
  inside = c.in_ok-at_point.ensures.inside c.args.private.now c.loop-alloc.invariant.inside;
  runners = c.in_ok-end.ensures.runners;
}

pub run_map-returns-in_default-end : goal.run_map-returns-in_default-end
run_map-returns-in_default-end t c =
    point_stop (item_trees c.args.body.now) c.args.params.now c.args.private.now (context_of (graph_tree c.args.graph.now) c.args.base.now c.args.scope.now) c.at.result.now
    _ _ _ _ _ _ (point_first c.loop-alloc.points c.next.new.self c.at.result.now c.loop-alloc-test.ensures.step c.at.ensures) c.loop-alloc.invariant.left c.in_ok-end.end
    (point_ends (item_trees c.args.body.now) c.args.params.now c.args.private.now (context_of (graph_tree c.args.graph.now) c.args.base.now c.args.scope.now) c.at.result.now
    (map named_container (out-Sdfg c.args.graph.now).containers.entries) _ c.in_ok-own.own.contents c.loop-alloc.machine c.enter.new.self c.run_body.new.machine c.leave.new.self c.in_ok-end.end
    (containers_in c.args.graph.now) c.in_ok-own.ensures.contents
    (c.in_ok-at_point.ensures.context (graph_tree c.args.graph.now) c.args.base.now c.args.private.now c.loop-alloc.invariant.inside)
    c.in_ok-enter.ensures.memories c.in_ok-enter.ensures.turns c.in_ok-end.ensures.end c.leave.ensures.memories c.leave.ensures.turns)
    c.in_default-end.not-Finished

pub run_nested-returns : goal.run_nested-returns
run_nested-returns t c =
    nested_ends (graph_tree c.args.inner.now) c.args.links.now c.args.line (context_of (graph_tree c.args.graph.now) c.args.base.now c.args.scope.now) _ _ c.in_ok-own.own.contents
    c.args.machine.now c.enter.new.self c.run_graph.new.machine c.leave.new.self c.in_ok-end.end
    c.in_ok-within.ensures.reach c.in_ok-within.ensures.around (c.in_ok-own.ensures.contents ∙ ap run_memory (containers_in c.args.inner.now))
    c.in_ok-enter.ensures.memories c.in_ok-enter.ensures.turns c.in_ok-end.ensures c.leave.ensures.memories c.leave.ensures.turns

pub run_consume-loop-init : goal.run_consume-loop-init
run_consume-loop-init t c = record {
  left = subst (λ (machine : Reached). IsLeft (consume_coming (item_trees c.args.body.now) c.args.stream c.args.element c.args.private.now (context_of (graph_tree c.args.graph.now) c.args.base.now c.args.scope.now) c.args.machine.now) c.args.machine.now
      (takes_coming (item_trees c.args.body.now) c.args.stream c.args.element c.args.private.now (context_of (graph_tree c.args.graph.now) c.args.base.now c.args.scope.now) machine) machine)
      (sym (none_so _ _ c.in_ok-elements.elements c.in_default.is c.in_ok-elements.ensures))
      (record { comes = λ most outcome after. after most; depth = refl; turns = omega arith });
  inside = subst (λ (own : List ℕ). IsInside own c.args.scope.now c.in_ok-element_scope.element_scope) (c.as_slice.ensures.value ∙ c.in_ok-own_numbers.ensures) c.in_ok-element_scope.ensures;
  runners = c.in_ok-runners.ensures;
}

pub run_consume-returns-in_default-take : goal.run_consume-returns-in_default-take
run_consume-returns-in_default-take t c =
    takes_end (item_trees c.args.body.now) c.args.stream c.args.element c.args.private.now (context_of (graph_tree c.args.graph.now) c.args.base.now c.args.scope.now)
    _ c.args.machine.now c.loop.machine c.take.new.self c.loop.invariant.left
    (take_there c.in_ok-from.from.level ((context_of (graph_tree c.args.graph.now) c.args.base.now c.args.scope.now).reach c.args.stream).level c.in_ok-from.from.container ((context_of (graph_tree c.args.graph.now) c.args.base.now c.args.scope.now).reach c.args.stream).container c.loop.machine.memories c.take.new.self.memories
    (c.in_ok-from.ensures.level (graph_tree c.args.graph.now)) (c.in_ok-from.ensures.container (graph_tree c.args.graph.now)) c.take.ensures.memories) c.take.ensures.turns
    (oldest_there c.in_ok-from.from.level ((context_of (graph_tree c.args.graph.now) c.args.base.now c.args.scope.now).reach c.args.stream).level c.in_ok-from.from.container ((context_of (graph_tree c.args.graph.now) c.args.base.now c.args.scope.now).reach c.args.stream).container c.loop.machine.memories c.take.result
    (c.in_ok-from.ensures.level (graph_tree c.args.graph.now)) (c.in_ok-from.ensures.container (graph_tree c.args.graph.now)) c.take.ensures.oldest ∙ no_value c.take.result c.in_default-take.not-Some)

pub run_consume-returns-in_default-end : goal.run_consume-returns-in_default-end
run_consume-returns-in_default-end t c =
    let fits : FitsSigned w64 c.in-Some-take.value = search rules in
    let same_value : to_z w64 (of_z w64 c.in-Some-take.value) ≡ c.in-Some-take.value = to_z-of_z w64 c.in-Some-take.value fits in
    element_stop (item_trees c.args.body.now) c.args.stream c.args.element c.args.private.now (context_of (graph_tree c.args.graph.now) c.args.base.now c.args.scope.now)
    _ c.args.machine.now c.loop.machine c.take.new.self c.loop.invariant.left
    (take_there c.in_ok-from.from.level ((context_of (graph_tree c.args.graph.now) c.args.base.now c.args.scope.now).reach c.args.stream).level c.in_ok-from.from.container ((context_of (graph_tree c.args.graph.now) c.args.base.now c.args.scope.now).reach c.args.stream).container c.loop.machine.memories c.take.new.self.memories
    (c.in_ok-from.ensures.level (graph_tree c.args.graph.now)) (c.in_ok-from.ensures.container (graph_tree c.args.graph.now)) c.take.ensures.memories) c.take.ensures.turns
    c.in-Some-take.value (oldest_there c.in_ok-from.from.level ((context_of (graph_tree c.args.graph.now) c.args.base.now c.args.scope.now).reach c.args.stream).level c.in_ok-from.from.container ((context_of (graph_tree c.args.graph.now) c.args.base.now c.args.scope.now).reach c.args.stream).container c.loop.machine.memories c.take.result
    (c.in_ok-from.ensures.level (graph_tree c.args.graph.now)) (c.in_ok-from.ensures.container (graph_tree c.args.graph.now)) c.take.ensures.oldest ∙ c.in-Some-take.is) c.leave.new.self c.in_ok-end.end
    (element_ends (item_trees c.args.body.now) c.args.stream c.args.element c.args.private.now (context_of (graph_tree c.args.graph.now) c.args.base.now c.args.scope.now)
    _ c.args.machine.now c.loop.machine c.take.new.self c.loop.invariant.left
    (take_there c.in_ok-from.from.level ((context_of (graph_tree c.args.graph.now) c.args.base.now c.args.scope.now).reach c.args.stream).level c.in_ok-from.from.container ((context_of (graph_tree c.args.graph.now) c.args.base.now c.args.scope.now).reach c.args.stream).container c.loop.machine.memories c.take.new.self.memories
    (c.in_ok-from.ensures.level (graph_tree c.args.graph.now)) (c.in_ok-from.ensures.container (graph_tree c.args.graph.now)) c.take.ensures.memories) c.take.ensures.turns
    c.in-Some-take.value (oldest_there c.in_ok-from.from.level ((context_of (graph_tree c.args.graph.now) c.args.base.now c.args.scope.now).reach c.args.stream).level c.in_ok-from.from.container ((context_of (graph_tree c.args.graph.now) c.args.base.now c.args.scope.now).reach c.args.stream).container c.loop.machine.memories c.take.result
    (c.in_ok-from.ensures.level (graph_tree c.args.graph.now)) (c.in_ok-from.ensures.container (graph_tree c.args.graph.now)) c.take.ensures.oldest ∙ c.in-Some-take.is) c.leave.new.self
    (to_z w64 (of_z w64 c.in-Some-take.value)) (map named_container (out-Sdfg c.args.graph.now).containers.entries) _ c.in_ok-own.own.contents c.enter.new.self c.run_body.new.machine c.in_ok-end.end
    same_value (containers_in c.args.graph.now) c.in_ok-own.ensures.contents
    (c.in_ok-at_element.ensures.context (graph_tree c.args.graph.now) c.args.base.now c.args.private.now c.loop.invariant.inside)
    c.in_ok-enter.ensures.memories c.in_ok-enter.ensures.turns c.in_ok-end.ensures.end c.leave.ensures.memories c.leave.ensures.turns)
    c.in_default-end.not-Finished

pub run_consume-loop-preserved : goal.run_consume-loop-preserved
run_consume-loop-preserved t c =
    let fits : FitsSigned w64 c.in-Some-take.value = search rules in
    let same_value : to_z w64 (of_z w64 c.in-Some-take.value) ≡ c.in-Some-take.value = to_z-of_z w64 c.in-Some-take.value fits in
    record {
      left = element_more (item_trees c.args.body.now) c.args.stream c.args.element c.args.private.now (context_of (graph_tree c.args.graph.now) c.args.base.now c.args.scope.now)
          _ c.args.machine.now c.loop.machine c.take.new.self c.loop.invariant.left
          (take_there c.in_ok-from.from.level ((context_of (graph_tree c.args.graph.now) c.args.base.now c.args.scope.now).reach c.args.stream).level c.in_ok-from.from.container ((context_of (graph_tree c.args.graph.now) c.args.base.now c.args.scope.now).reach c.args.stream).container c.loop.machine.memories c.take.new.self.memories
          (c.in_ok-from.ensures.level (graph_tree c.args.graph.now)) (c.in_ok-from.ensures.container (graph_tree c.args.graph.now)) c.take.ensures.memories) c.take.ensures.turns
          c.in-Some-take.value (oldest_there c.in_ok-from.from.level ((context_of (graph_tree c.args.graph.now) c.args.base.now c.args.scope.now).reach c.args.stream).level c.in_ok-from.from.container ((context_of (graph_tree c.args.graph.now) c.args.base.now c.args.scope.now).reach c.args.stream).container c.loop.machine.memories c.take.result
          (c.in_ok-from.ensures.level (graph_tree c.args.graph.now)) (c.in_ok-from.ensures.container (graph_tree c.args.graph.now)) c.take.ensures.oldest ∙ c.in-Some-take.is) c.leave.new.self
          (as_finished _ _ _ c.in_ok-end.end c.in-Finished.is
          (element_ends (item_trees c.args.body.now) c.args.stream c.args.element c.args.private.now (context_of (graph_tree c.args.graph.now) c.args.base.now c.args.scope.now)
          _ c.args.machine.now c.loop.machine c.take.new.self c.loop.invariant.left
          (take_there c.in_ok-from.from.level ((context_of (graph_tree c.args.graph.now) c.args.base.now c.args.scope.now).reach c.args.stream).level c.in_ok-from.from.container ((context_of (graph_tree c.args.graph.now) c.args.base.now c.args.scope.now).reach c.args.stream).container c.loop.machine.memories c.take.new.self.memories
          (c.in_ok-from.ensures.level (graph_tree c.args.graph.now)) (c.in_ok-from.ensures.container (graph_tree c.args.graph.now)) c.take.ensures.memories) c.take.ensures.turns
          c.in-Some-take.value (oldest_there c.in_ok-from.from.level ((context_of (graph_tree c.args.graph.now) c.args.base.now c.args.scope.now).reach c.args.stream).level c.in_ok-from.from.container ((context_of (graph_tree c.args.graph.now) c.args.base.now c.args.scope.now).reach c.args.stream).container c.loop.machine.memories c.take.result
          (c.in_ok-from.ensures.level (graph_tree c.args.graph.now)) (c.in_ok-from.ensures.container (graph_tree c.args.graph.now)) c.take.ensures.oldest ∙ c.in-Some-take.is) c.leave.new.self
          (to_z w64 (of_z w64 c.in-Some-take.value)) (map named_container (out-Sdfg c.args.graph.now).containers.entries) _ c.in_ok-own.own.contents c.enter.new.self c.run_body.new.machine c.in_ok-end.end
          same_value (containers_in c.args.graph.now) c.in_ok-own.ensures.contents
          (c.in_ok-at_element.ensures.context (graph_tree c.args.graph.now) c.args.base.now c.args.private.now c.loop.invariant.inside)
          c.in_ok-enter.ensures.memories c.in_ok-enter.ensures.turns c.in_ok-end.ensures.end c.leave.ensures.memories c.leave.ensures.turns));
      inside = c.in_ok-at_element.ensures.inside (c.args.element ∷ c.args.private.now) c.loop.invariant.inside;
      runners = c.in_ok-end.ensures.runners;
    }

pub run_states-run_state-requires : goal.run_states-run_state-requires
run_states-run_state-requires t c =
    let near : state_size (get_or c.args.states.now c.loop-state.state c.index-states-state.result) ≤ most state_size c.args.states.now = at_most state_size c.args.states.now c.loop-state.state c.index-states-state.result c.loop-state-test.true in
    let here : state_size c.index-states-state.result ≤ most state_size c.args.states.now = subst (λ (i : State). state_size i ≤ most state_size c.args.states.now) (sym c.index-states-state.is) near in
    (search rules, items_lead c.args.graph.now c.args.states.now c.requires.same c.loop-state.state c.index-states-state.result c.loop-state-test.true c.index-states-state.is c.requires.leads)

pub run_states-returns-in_default : goal.run_states-returns-in_default
run_states-returns-in_default t c =
    graph_stop c.args.graph.now c.args.states.now c.requires.same c.loop-state.state c.index-states-state.result c.loop-state-test.true c.index-states-state.is
    (opening_reach (containers_of (graph_tree c.args.graph.now)) c.args.base.now) c.args.base.now.around c.loop-state.values.items (context_of (graph_tree c.args.graph.now) c.args.base.now c.in_ok-scope.scope) _ c.args.machine.now c.loop-state.machine c.run_state.new.machine c.in_ok-end.end
    (c.in_ok-scope.ensures (graph_tree c.args.graph.now) c.args.base.now ∙ ap (λ (values : Values). state_context (graph_tree c.args.graph.now) (opening_reach (containers_of (graph_tree c.args.graph.now)) c.args.base.now) c.args.base.now.around c.loop-state.state values) c.as_slice.ensures.value)
    c.loop-state.invariant c.in_ok-end.ensures c.in_default.not-Finished

pub run_states-returns-in-Nowhere : goal.run_states-returns-in-Nowhere
run_states-returns-in-Nowhere t c =
    graph_nowhere c.args.graph.now c.args.states.now c.requires.same c.loop-state.state c.index-states-state.result c.loop-state-test.true c.index-states-state.is
    (opening_reach (containers_of (graph_tree c.args.graph.now)) c.args.base.now) c.args.base.now.around c.loop-state.values.items (context_of (graph_tree c.args.graph.now) c.args.base.now c.in_ok-scope.scope) _ c.args.machine.now c.loop-state.machine c.run_state.new.machine c.in_ok-end.end
    (c.in_ok-scope.ensures (graph_tree c.args.graph.now) c.args.base.now ∙ ap (λ (values : Values). state_context (graph_tree c.args.graph.now) (opening_reach (containers_of (graph_tree c.args.graph.now)) c.args.base.now) c.args.base.now.around c.loop-state.state values) c.as_slice.ensures.value)
    c.loop-state.invariant c.in_ok-end.ensures
    c.in-Finished.is c.as_slice-exits.result.now c.as_slice-exits.ensures.value c.in_ok-next_exit.field-0 c.in_ok-next_exit.ensures c.in-Nowhere.is

pub run_states-returns-in-Fault : goal.run_states-returns-in-Fault
run_states-returns-in-Fault t c =
    graph_fault c.args.graph.now c.args.states.now c.requires.same c.loop-state.state c.index-states-state.result c.loop-state-test.true c.index-states-state.is
    (opening_reach (containers_of (graph_tree c.args.graph.now)) c.args.base.now) c.args.base.now.around c.loop-state.values.items (context_of (graph_tree c.args.graph.now) c.args.base.now c.in_ok-scope.scope) _ c.args.machine.now c.loop-state.machine c.run_state.new.machine c.in_ok-end.end
    (c.in_ok-scope.ensures (graph_tree c.args.graph.now) c.args.base.now ∙ ap (λ (values : Values). state_context (graph_tree c.args.graph.now) (opening_reach (containers_of (graph_tree c.args.graph.now)) c.args.base.now) c.args.base.now.around c.loop-state.state values) c.as_slice.ensures.value)
    c.loop-state.invariant c.in_ok-end.ensures
    c.in-Finished.is c.as_slice-exits.result.now c.as_slice-exits.ensures.value c.in_ok-next_exit.field-0 c.in_ok-next_exit.ensures c.in-Fault.place c.in-Fault.kind c.in-Fault.is

pub run_states-returns-then-not-pay : goal.run_states-returns-then-not-pay
run_states-returns-then-not-pay t c =
    graph_spent c.args.graph.now c.args.states.now c.requires.same c.loop-state.state c.index-states-state.result c.loop-state-test.true c.index-states-state.is
    (opening_reach (containers_of (graph_tree c.args.graph.now)) c.args.base.now) c.args.base.now.around c.loop-state.values.items (context_of (graph_tree c.args.graph.now) c.args.base.now c.in_ok-scope.scope) _ c.args.machine.now c.loop-state.machine c.run_state.new.machine c.in_ok-end.end
    (c.in_ok-scope.ensures (graph_tree c.args.graph.now) c.args.base.now ∙ ap (λ (values : Values). state_context (graph_tree c.args.graph.now) (opening_reach (containers_of (graph_tree c.args.graph.now)) c.args.base.now) c.args.base.now.around c.loop-state.state values) c.as_slice.ensures.value)
    c.loop-state.invariant c.in_ok-end.ensures
    c.in-Finished.is c.as_slice-exits.result.now c.as_slice-exits.ensures.value c.in_ok-next_exit.field-0 c.in_ok-next_exit.ensures
    c.in-By.number c.in-By.is c.index-exits-number.result c.index-exits-number.is
    (c.if-not-pay.ensures.none (search rules)).0 (c.if-not-pay.ensures.none (search rules)).1 c.pay.new.self c.pay.ensures.memories (c.if-not-pay.ensures.none (search rules)).2

pub run_states-loop-state-preserved : goal.run_states-loop-state-preserved
run_states-loop-state-preserved t c =
    graph_on c.args.graph.now c.args.states.now c.requires.same c.loop-state.state c.index-states-state.result c.loop-state-test.true c.index-states-state.is
    (opening_reach (containers_of (graph_tree c.args.graph.now)) c.args.base.now) c.args.base.now.around c.loop-state.values.items (context_of (graph_tree c.args.graph.now) c.args.base.now c.in_ok-scope.scope) _ c.args.machine.now c.loop-state.machine c.run_state.new.machine c.in_ok-end.end
    (c.in_ok-scope.ensures (graph_tree c.args.graph.now) c.args.base.now ∙ ap (λ (values : Values). state_context (graph_tree c.args.graph.now) (opening_reach (containers_of (graph_tree c.args.graph.now)) c.args.base.now) c.args.base.now.around c.loop-state.state values) c.as_slice.ensures.value)
    c.loop-state.invariant c.in_ok-end.ensures
    c.in-Finished.is c.as_slice-exits.result.now c.as_slice-exits.ensures.value c.in_ok-next_exit.field-0 c.in_ok-next_exit.ensures
    c.in-By.number c.in-By.is c.index-exits-number.result c.index-exits-number.is
    c.pay.new.self c.pay.ensures.memories (c.if-not-pay.ensures.paid (search rules)) c.in_ok-values-in-By.values.items
    (c.in_ok-values-in-By.ensures ∙ ap (λ (values : Values). with_variables (map (λ assignment. (assignment.0, affine_value values assignment.1)) c.index-exits-number.result.set) values) c.as_slice-in-By.ensures.value)

pub run_states-loop-state-smaller : goal.run_states-loop-state-smaller
run_states-loop-state-smaller t c =
    graph_falls c.args.graph.now c.args.states.now c.requires.same c.loop-state.state c.index-states-state.result c.loop-state-test.true c.index-states-state.is
    (opening_reach (containers_of (graph_tree c.args.graph.now)) c.args.base.now) c.args.base.now.around c.loop-state.values.items (context_of (graph_tree c.args.graph.now) c.args.base.now c.in_ok-scope.scope) _ c.args.machine.now c.loop-state.machine c.run_state.new.machine c.in_ok-end.end
    (c.in_ok-scope.ensures (graph_tree c.args.graph.now) c.args.base.now ∙ ap (λ (values : Values). state_context (graph_tree c.args.graph.now) (opening_reach (containers_of (graph_tree c.args.graph.now)) c.args.base.now) c.args.base.now.around c.loop-state.state values) c.as_slice.ensures.value)
    c.loop-state.invariant c.in_ok-end.ensures
    c.in-Finished.is c.as_slice-exits.result.now c.as_slice-exits.ensures.value c.in_ok-next_exit.field-0 c.in_ok-next_exit.ensures
    c.in-By.number c.in-By.is c.index-exits-number.result c.index-exits-number.is
    c.requires.leads c.pay.new.self (c.if-not-pay.ensures.paid (search rules))

pub run_states-returns : goal.run_states-returns
run_states-returns t c =
    graph_over c.args.graph.now c.args.states.now c.requires.same c.loop-state.state c.loop-state-test.false (opening_reach (containers_of (graph_tree c.args.graph.now)) c.args.base.now) c.args.base.now.around c.loop-state.values.items _ c.args.machine.now c.loop-state.machine c.loop-state.invariant

pub run_graph-returns : goal.run_graph-returns
run_graph-returns t c =
    subst (λ (values : Values). IfOk c.run_states.result (λ end. IsEnd (λ most. from_state (graph_tree c.args.graph.now) (opening_reach (containers_of (graph_tree c.args.graph.now)) c.args.base.now) c.args.base.now.around 0 values c.args.machine.now most most) c.args.machine.now end c.run_states.new.machine))
    (values_begin c.args.graph.now c.in_ok-values.values.items (c.in_ok-values.ensures.items_if_clones_equal (λ x h. h) ∙ ap (λ (count : ℕ). replicate count (pos 0)) (c.len.ensures ∙ as_many (out-Sdfg c.args.graph.now).variables)))
    c.run_states.ensures
