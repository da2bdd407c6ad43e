use Rattle.std.proofs.Common.{◌≡◌, drop, map, nat_eq, not, ◌&&◌}
use Rattle.std.specs.List.{list_any}
use Rattle.sd_graph.specs.TreeFold.{exit_tree}
use Rattle.sd_wire.specs.loops.Table.{looked}
use Rattle.sd_wire.proofs.loops.path.leads_on.Given as goal

-- one of those left leads to the state where one of all does
abbrev pub invariant-loop-exit : goal.invariant-loop-exit
invariant-loop-exit l =
    list_any (λ exit. not (nat_eq exit.to l.avoided) && looked l.table l.to exit.to) (map exit_tree (drop l.exit-index l.exits))
    ≡ list_any (λ exit. not (nat_eq exit.to l.avoided) && looked l.table l.to exit.to) (map exit_tree l.exits)
