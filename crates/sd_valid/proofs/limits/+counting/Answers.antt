use Rattle.std.proofs.Common.{Err, sym, subst, map, ◌+◌, drop}
use Rattle.std.proofs.lemmas.Result.{err_from_is_err_and}
use Rattle.sd_graph.specs.TreeFold.{item_trees, kind_tree, state_trees, named_container}
use Rattle.sd_graph.specs.declared.graph.State.{out-State}
use Rattle.sd_graph.specs.declared.graph.Sdfg.{out-Sdfg}
use Rattle.sd_valid.specs.Limits.{tally, kind_containers, items_containers, states_containers}
use Rattle.sd_valid.specs.Counting.{Tallies}
use Rattle.sd_valid.proofs.Tallied.{tallies_err, tally_ok}
use Rattle.sd_valid.proofs.Counted.{items_more, states_more, graph_parts, one_more, one_refused}
use Rattle.sd_valid.proofs.limits.+counting.Goals as goal

pub count_graph-returns-in_err-total-clause-tallies : goal.count_graph-returns-in_err-total-clause-tallies
count_graph-returns-in_err-total-clause-tallies t c =
    let p = err_from_is_err_and c.from_residual.result c.from_residual.ensures.1 in
    let graph = out-Sdfg c.args.graph.now in
    rw (p.1, p.2)
    (subst (λ all. Tallies (Err c.in_err-total.field-0.0) (tally c.args.before all)) (sym (graph_parts c.args.graph.now))
    (tallies_err c.in_err-total.field-0.0 c.args.before (map named_container graph.containers.entries) (states_containers (state_trees graph.states.items)) c.in_err-total.ensures.tallies))

pub count_graph-returns-clause-tallies : goal.count_graph-returns-clause-tallies
count_graph-returns-clause-tallies t c =
    let graph = out-Sdfg c.args.graph.now in
    subst (λ all. Tallies c.count_states.result (tally c.args.before all)) (sym (graph_parts c.args.graph.now))
    (subst (Tallies c.count_states.result) (tally_ok c.in_ok-total.total c.args.before (map named_container graph.containers.entries) (states_containers (state_trees graph.states.items)) c.in_ok-total.ensures.tallies)
    (rw c.deref.ensures.value at c.count_states.ensures.tallies))

pub count_items-returns-in_err-total-clause-tallies : goal.count_items-returns-in_err-total-clause-tallies
count_items-returns-in_err-total-clause-tallies t c =
    let p = err_from_is_err_and c.from_residual.result c.from_residual.ensures.1 in
    let i = c.loop-item.item-index in
    rw (p.1, p.2)
    (one_refused c.in_err-total.field-0.0 c.loop-item.total c.args.before (kind_containers (kind_tree c.item-item.result.kind)) (items_containers (item_trees (drop (i + 1) c.args.items.now)))
    (items_containers (item_trees (drop i c.args.items.now))) (items_containers (item_trees c.args.items.now))
    (items_more c.args.items.now i c.item-item.result c.loop-item-test.true c.item-item.is) c.in_err-total.ensures.tallies c.loop-item.invariant.all)

pub count_items-loop-item-preserved : goal.count_items-loop-item-preserved
count_items-loop-item-preserved t c =
    let i = c.loop-item.item-index in
    record {
      all = one_more c.loop-item.total c.in_ok-total.total c.args.before (kind_containers (kind_tree c.item-item.result.kind)) (items_containers (item_trees (drop (i + 1) c.args.items.now)))
          (items_containers (item_trees (drop i c.args.items.now))) (items_containers (item_trees c.args.items.now))
          (items_more c.args.items.now i c.item-item.result c.loop-item-test.true c.item-item.is) c.in_ok-total.ensures.tallies c.loop-item.invariant.all;
      within = c.in_ok-total.ensures.within;
    }

pub count_states-returns-in_err-total-clause-tallies : goal.count_states-returns-in_err-total-clause-tallies
count_states-returns-in_err-total-clause-tallies t c =
    let p = err_from_is_err_and c.from_residual.result c.from_residual.ensures.1 in
    let i = c.loop-state.state-index in
    rw (p.1, p.2)
    (one_refused c.in_err-total.field-0.0 c.loop-state.total c.args.before (items_containers (item_trees (out-State c.state-item.result).items.items)) (states_containers (state_trees (drop (i + 1) c.args.states.now)))
    (states_containers (state_trees (drop i c.args.states.now))) (states_containers (state_trees c.args.states.now))
    (states_more c.args.states.now i c.state-item.result c.loop-state-test.true c.state-item.is) (rw c.deref.ensures.value at c.in_err-total.ensures.tallies) c.loop-state.invariant.all)

pub count_states-loop-state-preserved : goal.count_states-loop-state-preserved
count_states-loop-state-preserved t c =
    let i = c.loop-state.state-index in
    record {
      all = one_more c.loop-state.total c.in_ok-total.total c.args.before (items_containers (item_trees (out-State c.state-item.result).items.items)) (states_containers (state_trees (drop (i + 1) c.args.states.now)))
          (states_containers (state_trees (drop i c.args.states.now))) (states_containers (state_trees c.args.states.now))
          (states_more c.args.states.now i c.state-item.result c.loop-state-test.true c.state-item.is)
          (rw c.deref.ensures.value at c.in_ok-total.ensures.tallies) c.loop-state.invariant.all;
      within = c.in_ok-total.ensures.within;
    }
