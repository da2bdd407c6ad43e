use Rattle.std.proofs.Common.{◌≡◌, ◌≤◌, length}
use Rattle.std.specs.List.{filter}
use Rattle.sd_graph.specs.LoopScope.{numbers_below}
use Rattle.sd_graph.specs.TreeFold.{state_trees}
use Rattle.sd_wire.specs.loops.About.{is_in_loop}
use Rattle.sd_wire.proofs.loops.about.loops_about.Given as goal

-- those of the begins so far
abbrev pub invariant-loop-begin : goal.invariant-loop-begin
invariant-loop-begin l = record {
  counted : l.count ≡ length (filter (is_in_loop (state_trees l.states) l.state) (numbers_below l.begin));
  few : l.count ≤ l.begin;
}
