use Rattle.std.proofs.Common.{◌≡◌, drop, map}
use Rattle.std.specs.List.{list_all}
use Rattle.sd_graph.specs.PlainTree.{ExitTree}
use Rattle.sd_graph.specs.TreeFold.{exit_tree}
use Rattle.sd_validity.specs.rules.Dimensions as dimensions
use Rattle.sd_links.proofs.dimensions.are_conditions_sound.Given as goal

-- those left are sound where all are
abbrev pub invariant-loop-exit : goal.invariant-loop-exit
invariant-loop-exit l =
    list_all (λ (exit : ExitTree). dimensions.is_condition_sound exit.when) (map exit_tree (drop l.exit-index l.exits))
    ≡ list_all (λ (exit : ExitTree). dimensions.is_condition_sound exit.when) (map exit_tree l.exits)
