use Rattle.std.proofs.Common.{◌≡◌, ◌++◌, drop, map}
use Rattle.std.specs.List.{flat_map}
use Rattle.sd_graph.specs.TreeFold.{exit_tree}
use Rattle.sd_validity.specs.rules.Transitions as transitions
use Rattle.sd_rules.proofs.transitions.push_begins.Given as goal

-- those so far, with those of the transitions that are left, are all
abbrev pub invariant-loop-exit : goal.invariant-loop-exit
invariant-loop-exit l =
    l.begins.items ++ flat_map transitions.begins_of (map exit_tree (drop l.exit-index l.exits)) ≡ l.initial.begins.items ++ flat_map transitions.begins_of (map exit_tree l.exits)
