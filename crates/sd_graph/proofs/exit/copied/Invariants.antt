use Rattle.std.proofs.Common.{◌≡◌, take, map}
use Rattle.sd_graph.specs.TreeFold.{exit_tree}
use Rattle.sd_graph.proofs.exit.copied.Given as goal

-- the transitions so far
abbrev pub invariant-loop-exit : goal.invariant-loop-exit
invariant-loop-exit l = map exit_tree l.copy.items ≡ map exit_tree (take l.exit-index l.exits)
