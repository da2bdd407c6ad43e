use Rattle.std.proofs.Common.{◌≡◌, drop, map}
use Rattle.std.specs.List.{list_any}
use Rattle.sd_graph.specs.LoopScope.{closes_loop}
use Rattle.sd_graph.specs.TreeFold.{exit_tree}
use Rattle.sd_wire.proofs.loops.mark.close_loop.Given as goal

-- one of those left closes the loop where one of all does
abbrev pub invariant-loop-exit : goal.invariant-loop-exit
invariant-loop-exit l = list_any (closes_loop l.begin l.variable) (map exit_tree (drop l.exit-index l.exits)) ≡ list_any (closes_loop l.begin l.variable) (map exit_tree l.exits)
