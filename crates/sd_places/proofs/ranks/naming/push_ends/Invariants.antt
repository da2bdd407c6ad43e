use Rattle.std.proofs.Common.{◌≡◌, ◌++◌, drop, map}
use Rattle.sd_graph.specs.TreeFold.{exit_tree}
use Rattle.sd_validity.specs.rules.Ranks.{end_namings}
use Rattle.sd_places.proofs.ranks.naming.push_ends.Given as goal

-- those so far, with those of the transitions that are left, are all
abbrev pub invariant-loop-exit : goal.invariant-loop-exit
invariant-loop-exit l =
    l.all.items ++ end_namings l.begun (map exit_tree (drop l.exit-index l.exits)) ≡ l.initial.all.items ++ end_namings l.begun (map exit_tree l.exits)
