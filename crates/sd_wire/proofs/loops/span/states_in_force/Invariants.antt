use Rattle.std.proofs.Common.{◌≡◌, ℕ, ◌<◌, length, false, slice_index_or}
use Rattle.sd_graph.specs.LoopScope.{is_in_force}
use Rattle.sd_graph.specs.TreeFold.{state_trees}
use Rattle.sd_wire.proofs.loops.span.states_in_force.Given as goal

-- the table of the states so far
abbrev pub invariant-loop-state : goal.invariant-loop-state
invariant-loop-state l = record {
  room : length l.table.items ≡ l.state;
  tells : (state : ℕ) → state < l.state → slice_index_or l.table.items state false ≡ is_in_force (state_trees l.states) state l.begin l.variable;
}
