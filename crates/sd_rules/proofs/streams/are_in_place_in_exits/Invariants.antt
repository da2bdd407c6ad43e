use Rattle.std.proofs.Common.{◌≡◌, drop, map}
use Rattle.std.specs.List.{list_all}
use Rattle.sd_graph.specs.PlainTree.{ExitTree}
use Rattle.sd_graph.specs.TreeFold.{exit_tree, named_container}
use Rattle.sd_validity.specs.rules.StreamUse.{is_condition_of_arrays}
use Rattle.sd_rules.proofs.streams.are_in_place_in_exits.Given as goal

-- those left read arrays where all do
abbrev pub invariant-loop-exit : goal.invariant-loop-exit
invariant-loop-exit l =
    list_all (λ (exit : ExitTree). is_condition_of_arrays (map named_container l.containers.entries) exit.when) (map exit_tree (drop l.exit-index l.exits))
    ≡ list_all (λ (exit : ExitTree). is_condition_of_arrays (map named_container l.containers.entries) exit.when) (map exit_tree l.exits)
