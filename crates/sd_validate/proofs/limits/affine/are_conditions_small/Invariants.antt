use Rattle.std.proofs.Common.{◌≡◌, drop, map}
use Rattle.std.specs.List.{list_all}
use Rattle.sd_graph.specs.PlainTree.{ExitTree}
use Rattle.sd_graph.specs.TreeFold.{exit_tree}
use Rattle.sd_validity.specs.rules.WithinLimits as limits
use Rattle.sd_validate.proofs.limits.affine.are_conditions_small.Given as goal

-- those left are small where all are
abbrev pub invariant-loop-exit : goal.invariant-loop-exit
invariant-loop-exit l =
    list_all (λ (exit : ExitTree). limits.is_condition_small l.begun exit.when) (map exit_tree (drop l.exit-index l.exits))
    ≡ list_all (λ (exit : ExitTree). limits.is_condition_small l.begun exit.when) (map exit_tree l.exits)
