use Rattle.std.proofs.Common.{◌≡◌, ◌+◌, ◌≤◌, drop, map, string_bytes}
use Rattle.sd_graph.specs.TreeFold.{item_trees, state_trees, named_container}
use Rattle.sd_print.specs.graphs.GraphText.{states_at, nested_at, count_in_items}
use Rattle.sd_report.specs.write.Pieces.{AppendsAllBut}
use Rattle.sd_report.proofs.write.graph.+graphs.Given as goal

-- what is left is the text of the states from one on
abbrev pub invariant-write_states-loop-state : goal.invariant-write_states-loop-state
invariant-write_states-loop-state g l = record {
  written : AppendsAllBut (g.K.Sink.taken l.fn.out) (g.K.Sink.taken l.out)
      (states_at (state_trees l.states) (map string_bytes l.names) (map named_container l.containers.entries) (state_trees l.states) 0 l.path)
      (states_at (state_trees (drop l.state-index l.states)) (map string_bytes l.names) (map named_container l.containers.entries) (state_trees l.states) l.number l.path);
  faults : g.K.Sink.faults l.fn.out ≤ g.K.Sink.faults l.out;
}

-- what is left is the text of the graphs in the items from one on
abbrev pub invariant-write_nested-loop-item : goal.invariant-write_nested-loop-item
invariant-write_nested-loop-item g l = record {
  written : AppendsAllBut (g.K.Sink.taken l.fn.out) (g.K.Sink.taken l.out)
      (nested_at (item_trees l.items) l.nodes l.first l.path)
      (nested_at (item_trees (drop l.item-index l.items)) l.nodes l.place l.path);
  counted : l.place + count_in_items (item_trees (drop l.item-index l.items)) ≡ l.first + count_in_items (item_trees l.items);
  faults : g.K.Sink.faults l.fn.out ≤ g.K.Sink.faults l.out;
}
