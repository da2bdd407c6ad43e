use Rattle.std.proofs.Common.{◌≡◌, ◌++◌, drop, map}
use Rattle.std.specs.List.{flat_map}
use Rattle.sd_graph.specs.TreeFold.{exit_tree}
use Rattle.sd_graph.specs.PlainTree.{ExitTree}
use Rattle.sd_rules.proofs.single.push_set.Given as goal

-- those so far, with those of the transitions that are left, are all
abbrev pub invariant-loop-exit : goal.invariant-loop-exit
invariant-loop-exit l =
    l.all.items ++ flat_map (λ (exit : ExitTree). map (λ assignment. assignment.0) exit.set) (map exit_tree (drop l.exit-index l.exits))
    ≡ l.initial.all.items ++ flat_map (λ (exit : ExitTree). map (λ assignment. assignment.0) exit.set) (map exit_tree l.exits)
