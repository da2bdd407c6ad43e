use Rattle.std.proofs.Common.{◌≡◌, ◌++◌, drop, map}
use Rattle.sd_graph.specs.TreeFold.{exit_tree}
use Rattle.sd_validity.specs.rules.Ranks.{begin_namings}
use Rattle.sd_places.proofs.ranks.naming.push_begins.Given as goal

-- those so far, with those of the transitions that are left, are all
abbrev pub invariant-loop-exit : goal.invariant-loop-exit
invariant-loop-exit l =
    l.all.items ++ begin_namings (map exit_tree (drop l.exit-index l.exits)) ≡ l.initial.all.items ++ begin_namings (map exit_tree l.exits)
