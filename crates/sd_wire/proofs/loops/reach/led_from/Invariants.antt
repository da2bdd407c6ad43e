use Rattle.std.proofs.Common.{◌≡◌, length}
use Rattle.sd_graph.specs.TreeFold.{state_trees}
use Rattle.sd_wire.proofs.loops_lemmas.Spread.{IsSound, IsFull}
use Rattle.sd_wire.proofs.loops.reach.led_from.Given as goal

-- the table has what paths of so many transitions lead to, and nothing to which no path leads
abbrev pub invariant-loop-round : goal.invariant-loop-round
invariant-loop-round l = record {
  room : length l.table.items ≡ length l.states;
  sound : IsSound (state_trees l.states) l.begin l.table.items;
  full : IsFull (state_trees l.states) l.begin l.round l.table.items;
}
