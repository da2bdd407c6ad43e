use Rattle.std.proofs.Common.{◌≡◌, ◌++◌, drop, map}
use Rattle.sd_graph.specs.TreeFold.{exit_tree}
use Rattle.sd_graph.specs.Wiring.{exit_uses}
use Rattle.sd_wire.proofs.wiring.uses.push_exits.Given as goal

-- those so far, with those that are left
abbrev pub invariant-loop-exit : goal.invariant-loop-exit
invariant-loop-exit l = l.uses.items ++ exit_uses (map exit_tree (drop l.exit-index l.exits)) ≡ l.initial.uses.items ++ exit_uses (map exit_tree l.exits)
