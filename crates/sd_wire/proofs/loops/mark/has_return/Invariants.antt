use Rattle.std.proofs.Common.{◌≡◌, drop, map}
use Rattle.std.specs.List.{list_any}
use Rattle.sd_graph.specs.TreeFold.{exit_tree}
use Rattle.sd_wire.specs.loops.Marks.{returns_to}
use Rattle.sd_wire.proofs.loops.mark.has_return.Given as goal

-- one of those left returns to the state where one of all does
abbrev pub invariant-loop-exit : goal.invariant-loop-exit
invariant-loop-exit l = list_any (returns_to l.begin) (map exit_tree (drop l.exit-index l.exits)) ≡ list_any (returns_to l.begin) (map exit_tree l.exits)
