use Rattle.std.proofs.Common.{◌≡◌, false}
use Rattle.std.specs.List.{list_any}
use Rattle.sd_graph.specs.LoopScope.{numbers_below}
use Rattle.sd_graph.specs.TreeFold.{state_trees}
use Rattle.sd_wire.specs.loops.About.{does_loop_from}
use Rattle.sd_wire.proofs.loops.about.is_in_loop.Given as goal

-- none of the ends so far is one
abbrev pub invariant-loop-end : goal.invariant-loop-end
invariant-loop-end l = list_any (does_loop_from (state_trees l.states) l.state l.begin) (numbers_below l.end) ≡ false
