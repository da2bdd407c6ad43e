use Rattle.std.proofs.Common.{◌≡◌, drop, map}
use Rattle.std.specs.List.{list_any}
use Rattle.sd_graph.specs.TreeFold.{exit_tree}
use Rattle.sd_wire.proofs.loops.mark.has_marked.Given as goal

-- one of those left is marked where one of all is
abbrev pub invariant-loop-exit : goal.invariant-loop-exit
invariant-loop-exit l = list_any (λ exit. exit.back) (map exit_tree (drop l.exit-index l.exits)) ≡ list_any (λ exit. exit.back) (map exit_tree l.exits)
