use Rattle.std.proofs.Common.{◌≡◌, OnErr, ℕ, suc, ◌+◌, ◌≤◌, List, [], ◌∷◌, ◌++◌, map, length, drop, string_bytes, refl, ap, sym, ◌∙◌, subst, drop_of_length-le, arith, rules}
use Rattle.std.proofs.lemmas.Result.{err_from_is_err_and, IfOk-weaker, IfErr-weaker}
use Rattle.sd_io.specs.Sink.{Appends, AppendsPrefix}
use Rattle.sd_graph.specs.TreeFold.{named_container, item_trees, state_tree, state_trees, graph_tree, kind_tree}
use Rattle.sd_graph.specs.declared.graph.ItemKind.TheViews.{out-Sdfg}
use Rattle.sd_wire.specs.loops.Spans.{variables_in}
use Rattle.sd_print.specs.graphs.GraphText.{head_text, path_line, graph_at, states_at, nested_at, kind_at, count_in_items}
use Rattle.sd_print.specs.graphs.StateText.{order_in}
use Rattle.sd_report.specs.write.Pieces.{AppendsAllBut}
use Rattle.sd_report.proofs.write_lemmas.SinkLemmas.{Appends-nothing, AppendsPrefix-none, AppendsPrefix-whole}
use Rattle.sd_report.proofs.write_lemmas.Rests.{rest_at_first, rest_later, prefix_of_rest, rest_unwritten, no_rest, prefix_of_first, prefix_of_second, both_pieces, any_err}
use Rattle.sd_report.proofs.write_lemmas.GraphParts.{graph_cut, states_cut, state_cut, nested_cut, count_cut, map_cut, consume_cut, inner_cut}
use Rattle.sd_report.proofs.write.graph.+graphs.Goals as goal

-- a graph

pub write_at-returns-in_err-write_head-clause-err : goal.write_at-returns-in_err-write_head-clause-err
write_at-returns-in_err-write_head-clause-err g t c =
    let p = err_from_is_err_and c.from_residual.result c.from_residual.ensures.1 in
    let graph = c.args.graph.now in
    let name : c.as_str-name.result.now ≡ string_bytes (out-Sdfg graph).name = search rules in
    rw p.1
    (prefix_of_first _ _ _ _ _
    (graph_cut graph c.args.path.now c.as_str-name.result.now (map string_bytes c.as_slice-names.result.now) (map named_container (out-Sdfg graph).containers.entries) (state_trees c.as_slice-states.result.now)
    name (ap (map string_bytes) c.as_slice-names.ensures.value) refl (ap state_trees c.as_slice-states.ensures.value))
    c.in_err-write_head.ensures.err)

pub write_at-returns-clause-ok : goal.write_at-returns-clause-ok
write_at-returns-clause-ok g t c =
    let old = g.K.Sink.taken c.args.out.now in
    let between = g.K.Sink.taken c.write_head.new.out in
    let new = g.K.Sink.taken c.write_states.new.out in
    let graph = c.args.graph.now in
    let name : c.as_str-name.result.now ≡ string_bytes (out-Sdfg graph).name = search rules in
    let containers = map named_container (out-Sdfg graph).containers.entries in
    let names = map string_bytes c.as_slice-names.result.now in
    let states = state_trees c.as_slice-states.result.now in
    let first = head_text c.as_str-name.result.now names containers in
    let second = states_at states names containers states 0 c.args.path.now in
    let parts = graph_cut graph c.args.path.now c.as_str-name.result.now names containers states name (ap (map string_bytes) c.as_slice-names.ensures.value) refl (ap state_trees c.as_slice-states.ensures.value) in
    IfOk-weaker c.write_states.result (λ _. Appends between new second) (λ _. Appends old new (graph_at (graph_tree graph) c.args.path.now))
    (λ _ also. both_pieces old between new (graph_at (graph_tree graph) c.args.path.now) first second parts c.in_ok-write_head.ensures.ok also) c.write_states.ensures.ok

pub write_at-returns-clause-err : goal.write_at-returns-clause-err
write_at-returns-clause-err g t c =
    let old = g.K.Sink.taken c.args.out.now in
    let between = g.K.Sink.taken c.write_head.new.out in
    let new = g.K.Sink.taken c.write_states.new.out in
    let graph = c.args.graph.now in
    let name : c.as_str-name.result.now ≡ string_bytes (out-Sdfg graph).name = search rules in
    let containers = map named_container (out-Sdfg graph).containers.entries in
    let names = map string_bytes c.as_slice-names.result.now in
    let states = state_trees c.as_slice-states.result.now in
    let first = head_text c.as_str-name.result.now names containers in
    let second = states_at states names containers states 0 c.args.path.now in
    let parts = graph_cut graph c.args.path.now c.as_str-name.result.now names containers states name (ap (map string_bytes) c.as_slice-names.ensures.value) refl (ap state_trees c.as_slice-states.ensures.value) in
    IfErr-weaker c.write_states.result (λ _. AppendsPrefix between new second) (λ _. AppendsPrefix old new (graph_at (graph_tree graph) c.args.path.now))
    (λ _ prefix. prefix_of_second old between new (graph_at (graph_tree graph) c.args.path.now) first second parts c.in_ok-write_head.ensures.ok prefix) c.write_states.ensures.err

-- the states of a graph

pub write_states-returns-in_default-clause-err : goal.write_states-returns-in_default-clause-err
write_states-returns-in_default-clause-err g t c = AppendsPrefix-none _ _ _ (Appends-nothing _)

pub write_states-loop-state-init : goal.write_states-loop-state-init
write_states-loop-state-init g t c = record { written = rest_at_first _ _; faults = search rules }

pub write_states-returns-in_err-write_state-clause-err : goal.write_states-returns-in_err-write_state-clause-err
write_states-returns-in_err-write_state-clause-err g t c =
    let p = err_from_is_err_and c.from_residual.result c.from_residual.ensures.1 in
    let number = c.loop-state.number in
    let shown = ap (λ spans. variables_in spans number) c.as_slice-spans.ensures.value ∙ c.in-Ok.ensures number in
    rw p.1
    (prefix_of_rest _ _ _ _ _ _ _
    (states_cut (map string_bytes c.args.names.now) (map named_container c.args.containers.now.entries) (state_trees c.args.states.now) c.args.path.now c.args.states.now c.as_slice-spans.result.now
    c.loop-state.state-index number c.state-item.result c.loop-state-test.true c.state-item.is shown)
    c.loop-state.invariant.written c.in_err-write_state.ensures.err)

pub write_states-loop-state-preserved : goal.write_states-loop-state-preserved
write_states-loop-state-preserved g t c =
    let number = c.loop-state.number in
    let names = map string_bytes c.args.names.now in
    let containers = map named_container c.args.containers.now.entries in
    let all = state_trees c.args.states.now in
    let path = c.args.path.now in
    let index = c.loop-state.state-index in
    let plus : c.in_ok-number.number ≡ number + 1 = search rules in
    let next : suc number ≡ c.in_ok-number.number = omega (arith, plus) in
    let shown = ap (λ spans. variables_in spans number) c.as_slice-spans.ensures.value ∙ c.in-Ok.ensures number in
    let parts = states_cut names containers all path c.args.states.now c.as_slice-spans.result.now index number c.state-item.result c.loop-state-test.true c.state-item.is shown in
    record {
      written =
          subst (λ (n : ℕ). AppendsAllBut (g.K.Sink.taken c.args.out.now) (g.K.Sink.taken c.write_state.new.out) (states_at all names containers all 0 path) (states_at (state_trees (drop (index + 1) c.args.states.now)) names containers all n path))
          next (rest_later _ _ _ _ _ _ _ parts c.loop-state.invariant.written c.in_ok-write_state.ensures.ok);
      faults = omega (arith, c.loop-state.invariant.faults, c.in_ok-write_state.ensures.faults_never_fall);
    }

pub write_states-returns-in_err-number-clause-err : goal.write_states-returns-in_err-number-clause-err
write_states-returns-in_err-number-clause-err g t c =
    let p = err_from_is_err_and c.from_residual-in_err-number.result c.from_residual-in_err-number.ensures.1 in
    let number = c.loop-state.number in
    let shown = ap (λ spans. variables_in spans number) c.as_slice-spans.ensures.value ∙ c.in-Ok.ensures number in
    rw p.1
    (rest_unwritten _ _ _ _
    (rest_later _ _ _ _ _ _ _
    (states_cut (map string_bytes c.args.names.now) (map named_container c.args.containers.now.entries) (state_trees c.args.states.now) c.args.path.now c.args.states.now c.as_slice-spans.result.now
    c.loop-state.state-index number c.state-item.result c.loop-state-test.true c.state-item.is shown)
    c.loop-state.invariant.written c.in_ok-write_state.ensures.ok))

pub write_states-returns-clause-ok : goal.write_states-returns-clause-ok
write_states-returns-clause-ok g t c =
    let states = c.args.states.now in
    let over : length states ≤ c.loop-state.state-index = search rules in
    let none = ap (λ rest. states_at (state_trees rest) (map string_bytes c.args.names.now) (map named_container c.args.containers.now.entries) (state_trees states) c.loop-state.number c.args.path.now) (drop_of_length-le states over) in
    no_rest _ _ _ _ none c.loop-state.invariant.written

-- a state

pub write_state-returns-in_err-nested-clause-err : goal.write_state-returns-in_err-nested-clause-err
write_state-returns-in_err-nested-clause-err g t c =
    let p = err_from_is_err_and c.from_residual.result c.from_residual.ensures.1 in
    rw p.1 (prefix_of_first _ _ _ _ _ refl c.in_err-nested.ensures.err)

pub write_state-returns-in_default-clause-err : goal.write_state-returns-in_default-clause-err
write_state-returns-in_default-clause-err g t c = prefix_of_second _ _ _ _ _ _ refl c.in_ok-nested.ensures.ok (AppendsPrefix-none _ _ _ (Appends-nothing _))

pub write_state-returns-in_err-write_nested-clause-err : goal.write_state-returns-in_err-write_nested-clause-err
write_state-returns-in_err-write_nested-clause-err g t c =
    let p = err_from_is_err_and c.from_residual-in_err-write_nested.result c.from_residual-in_err-write_nested.ensures.1 in
    let containers = map named_container c.args.containers.now.entries in
    rw p.1
    (prefix_of_second _ _ _ _ _ _
    (state_cut (map string_bytes c.args.names.now) containers (order_in c.args.spans.now c.args.number (state_tree c.args.state.now).0) c.args.number c.args.state.now c.args.path.now c.as_slice-items.result.now c.as_slice-held.result.now c.as_slice-here.result.now
    c.as_slice-items.ensures.value (c.as_slice-held.ensures.value ∙ c.in_ok-nested.ensures.nested) (c.as_slice-here.ensures.value ∙ c.in-Ok.ensures))
    c.in_ok-nested.ensures.ok c.in_err-write_nested.ensures.err)

pub write_state-returns-clause-ok : goal.write_state-returns-clause-ok
write_state-returns-clause-ok g t c =
    let containers = map named_container c.args.containers.now.entries in
    both_pieces _ _ _ _ _ _
    (state_cut (map string_bytes c.args.names.now) containers (order_in c.args.spans.now c.args.number (state_tree c.args.state.now).0) c.args.number c.args.state.now c.args.path.now c.as_slice-items.result.now c.as_slice-held.result.now c.as_slice-here.result.now
    c.as_slice-items.ensures.value (c.as_slice-held.ensures.value ∙ c.in_ok-nested.ensures.nested) (c.as_slice-here.ensures.value ∙ c.in-Ok.ensures))
    c.in_ok-nested.ensures.ok c.in_ok-write_nested.ensures.ok

-- the graphs in items

pub write_nested-loop-item-init : goal.write_nested-loop-item-init
write_nested-loop-item-init g t c = record { written = rest_at_first _ _; counted = refl; faults = search rules }

pub write_nested-returns-in_err-place-clause-err : goal.write_nested-returns-in_err-place-clause-err
write_nested-returns-in_err-place-clause-err g t c =
    let p = err_from_is_err_and c.from_residual.result c.from_residual.ensures.1 in
    rw p.1
    (prefix_of_rest _ _ _ _ _ _ _
    (nested_cut c.args.items.now c.args.nodes.now c.args.path.now c.loop-item.item-index c.loop-item.place _ c.item-item.result c.loop-item-test.true c.item-item.is refl)
    c.loop-item.invariant.written c.in_err-place.ensures.err)

pub write_nested-loop-item-preserved : goal.write_nested-loop-item-preserved
write_nested-loop-item-preserved g t c =
    let items = c.args.items.now in
    let index = c.loop-item.item-index in
    let item = c.item-item.result in
    let cut = count_cut items index item c.loop-item-test.true c.item-item.is in
    record {
      written =
          rest_later _ _ _ _ _ _ _
          (nested_cut items c.args.nodes.now c.args.path.now index c.loop-item.place c.in_ok-place.place item c.loop-item-test.true c.item-item.is c.in_ok-place.ensures.place)
          c.loop-item.invariant.written c.in_ok-place.ensures.ok;
      counted = omega (arith, cut, c.in_ok-place.ensures.place, c.loop-item.invariant.counted);
      faults = omega (arith, c.loop-item.invariant.faults, c.in_ok-place.ensures.faults_never_fall);
    }

pub write_nested-returns-clause-ok : goal.write_nested-returns-clause-ok
write_nested-returns-clause-ok g t c =
    let items = c.args.items.now in
    let over : length items ≤ c.loop-item.item-index = search rules in
    let none = ap (λ rest. nested_at (item_trees rest) c.args.nodes.now c.loop-item.place c.args.path.now) (drop_of_length-le items over) in
    no_rest _ _ _ _ none c.loop-item.invariant.written

pub write_nested-returns-clause-place : goal.write_nested-returns-clause-place
write_nested-returns-clause-place g t c =
    let items = c.args.items.now in
    let over : length items ≤ c.loop-item.item-index = search rules in
    let none : count_in_items (item_trees (drop c.loop-item.item-index items)) ≡ 0 = ap (λ rest. count_in_items (item_trees rest)) (drop_of_length-le items over) in
    omega (arith, none, c.loop-item.invariant.counted)

-- the graphs in an item

pub write_kind-returns-in-Map-clause-err : goal.write_kind-returns-in-Map-clause-err
write_kind-returns-in-Map-clause-err g t c =
    let nodes = c.args.nodes.now in
    let path = c.args.path.now in
    let same = map_cut c.args.kind.now c.in-Map.params c.in-Map.private c.in-Map.body c.in-Map.sequential c.deref.result.now nodes path c.args.place c.in-Map.is c.deref.ensures.value in
    subst (λ (text : List ℕ). OnErr c.write_nested.result (AppendsPrefix (g.K.Sink.taken c.args.out.now) (g.K.Sink.taken c.write_nested.new.out) text)) same c.write_nested.ensures.err

pub write_kind-returns-in-Consume-clause-err : goal.write_kind-returns-in-Consume-clause-err
write_kind-returns-in-Consume-clause-err g t c =
    let nodes = c.args.nodes.now in
    let path = c.args.path.now in
    let same = consume_cut c.args.kind.now c.in-Consume.stream c.in-Consume.element c.in-Consume.private c.in-Consume.body c.deref-in-Consume.result.now nodes path c.args.place c.in-Consume.is c.deref-in-Consume.ensures.value in
    subst (λ (text : List ℕ). OnErr c.write_nested-in-Consume.result (AppendsPrefix (g.K.Sink.taken c.args.out.now) (g.K.Sink.taken c.write_nested-in-Consume.new.out) text)) same c.write_nested-in-Consume.ensures.err

pub write_kind-returns-in_ok-write_inner-in-Nested-clause-err : goal.write_kind-returns-in_ok-write_inner-in-Nested-clause-err
write_kind-returns-in_ok-write_inner-in-Nested-clause-err g t c =
    let path = c.args.path.now in
    let inner : c.deref-in-Nested.result.now ≡ c.in-Nested.graph.value = search rules in
    let same = inner_cut c.args.kind.now c.in-Nested.graph c.in-Nested.links c.deref-in-Nested.result.now c.args.nodes.now path c.args.place c.node_at.result c.in-Nested.is inner c.node_at.ensures in
    let old = g.K.Sink.taken c.args.out.now in
    let new = g.K.Sink.taken c.write_inner.new.out in
    any_err c.ok_or.result (AppendsPrefix old new (kind_at (kind_tree c.args.kind.now) c.args.nodes.now c.args.place path))
    (AppendsPrefix-whole old new (kind_at (kind_tree c.args.kind.now) c.args.nodes.now c.args.place path) (subst (Appends old new) same c.in_ok-write_inner-in-Nested.ensures.ok))

-- the graph of a node

pub write_inner-returns-in_default-clause-err : goal.write_inner-returns-in_default-clause-err
write_inner-returns-in_default-clause-err g t c = AppendsPrefix-none _ _ _ (Appends-nothing _)

pub write_inner-returns-in_err-write_path-clause-err : goal.write_inner-returns-in_err-write_path-clause-err
write_inner-returns-in_err-write_path-clause-err g t c =
    let p = err_from_is_err_and c.from_residual.result c.from_residual.ensures.1 in
    let here : c.as_slice-here.result.now ≡ c.args.path.now ++ c.args.node ∷ [] = c.as_slice-here.ensures.value ∙ c.in-Ok.ensures in
    rw p.1 (prefix_of_first _ _ _ _ _ (ap (λ path. path_line path ++ graph_at (graph_tree c.args.graph.now) path) (sym here)) c.in_err-write_path.ensures.err)

pub write_inner-returns-clause-ok : goal.write_inner-returns-clause-ok
write_inner-returns-clause-ok g t c =
    let old = g.K.Sink.taken c.args.out.now in
    let between = g.K.Sink.taken c.write_path.new.out in
    let new = g.K.Sink.taken c.write_at.new.out in
    let tree = graph_tree c.args.graph.now in
    let inside = c.args.path.now ++ c.args.node ∷ [] in
    let path = c.as_slice-here.result.now in
    let here : path ≡ inside = c.as_slice-here.ensures.value ∙ c.in-Ok.ensures in
    IfOk-weaker c.write_at.result (λ _. Appends between new (graph_at tree path)) (λ _. Appends old new (path_line inside ++ graph_at tree inside))
    (λ _ also. both_pieces old between new (path_line inside ++ graph_at tree inside) (path_line path) (graph_at tree path) (ap (λ path. path_line path ++ graph_at tree path) (sym here)) c.in_ok-write_path.ensures.ok also)
    c.write_at.ensures.ok

pub write_inner-returns-clause-err : goal.write_inner-returns-clause-err
write_inner-returns-clause-err g t c =
    let old = g.K.Sink.taken c.args.out.now in
    let between = g.K.Sink.taken c.write_path.new.out in
    let new = g.K.Sink.taken c.write_at.new.out in
    let tree = graph_tree c.args.graph.now in
    let inside = c.args.path.now ++ c.args.node ∷ [] in
    let path = c.as_slice-here.result.now in
    let here : path ≡ inside = c.as_slice-here.ensures.value ∙ c.in-Ok.ensures in
    IfErr-weaker c.write_at.result (λ _. AppendsPrefix between new (graph_at tree path)) (λ _. AppendsPrefix old new (path_line inside ++ graph_at tree inside))
    (λ _ prefix. prefix_of_second old between new (path_line inside ++ graph_at tree inside) (path_line path) (graph_at tree path) (ap (λ path. path_line path ++ graph_at tree path) (sym here)) c.in_ok-write_path.ensures.ok prefix)
    c.write_at.ensures.err
