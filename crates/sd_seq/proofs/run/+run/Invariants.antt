use Rattle.std.proofs.Common.{length, drop, ◌∷◌}
use Rattle.std.specs.Option.{MatchOption}
use Rattle.std.specs.Bool.{⊤}
use Rattle.sd_graph.specs.TreeFold.{graph_tree, item_trees}
use Rattle.sd_graph.specs.TreeParts.{containers_of}
use Rattle.sd_mem.specs.machine.Coming.{items_coming, map_coming, points_coming, from_state}
use Rattle.sd_scope.specs.scope.Standing.{context_of, opening_reach, IsInside}
use Rattle.sd_rows.specs.tasks.Runners.{AreRunnersOf}
use Rattle.sd_rows.specs.consume.Taking.{consume_coming, takes_coming}
use Rattle.sd_row.proofs.row_lemmas.Comes.{IsLeft}
use Rattle.sd_seq.proofs.States.{measure}
use Rattle.sd_seq.proofs.run.+run.Given as goal

abbrev pub invariant-run_items-loop-item : goal.invariant-run_items-loop-item
invariant-run_items-loop-item l =
    IsLeft (items_coming (item_trees l.items) (context_of (graph_tree l.graph) l.base l.scope) l.initial.machine) l.initial.machine
    (λ most beside. items_coming (item_trees (drop l.item-index l.items)) (context_of (graph_tree l.graph) l.base l.scope) l.machine most) l.machine

abbrev pub invariant-run_map-loop-alloc : goal.invariant-run_map-loop-alloc
invariant-run_map-loop-alloc l = record {
  left : IsLeft (map_coming (item_trees l.body) l.params l.private (context_of (graph_tree l.graph) l.base l.scope) l.fn.machine) l.fn.machine
      (λ most beside. points_coming (item_trees l.body) l.params l.private (context_of (graph_tree l.graph) l.base l.scope) l.points.left l.machine most) l.machine;
  inside : IsInside l.private l.scope l.point_scope;
  runners : MatchOption l.runners ⊤ (λ runners. AreRunnersOf l.body runners.items);
}

abbrev pub decreases-run_map-loop-alloc : goal.decreases-run_map-loop-alloc
decreases-run_map-loop-alloc l = length l.points.left

abbrev pub invariant-run_consume-loop : goal.invariant-run_consume-loop
invariant-run_consume-loop l = record {
  left : IsLeft (consume_coming (item_trees l.body) l.stream l.element l.private (context_of (graph_tree l.graph) l.base l.scope) l.fn.machine) l.fn.machine
      (takes_coming (item_trees l.body) l.stream l.element l.private (context_of (graph_tree l.graph) l.base l.scope) l.machine) l.machine;
  inside : IsInside (l.element ∷ l.private) l.scope l.element_scope;
  runners : MatchOption l.runners ⊤ (λ runners. AreRunnersOf l.body runners.items);
}

abbrev pub invariant-run_states-loop-state : goal.invariant-run_states-loop-state
invariant-run_states-loop-state l =
    IsLeft (λ most. from_state (graph_tree l.graph) (opening_reach (containers_of (graph_tree l.graph)) l.base) l.base.around 0 l.initial.values.items l.initial.machine most most) l.initial.machine
    (from_state (graph_tree l.graph) (opening_reach (containers_of (graph_tree l.graph)) l.base) l.base.around l.state l.values.items l.machine) l.machine

abbrev pub decreases-run_states-loop-state : goal.decreases-run_states-loop-state
decreases-run_states-loop-state l = measure (graph_tree l.graph) l.machine.turns l.state
