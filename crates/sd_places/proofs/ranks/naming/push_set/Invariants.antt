use Rattle.std.proofs.Common.{◌≡◌, ◌++◌, drop, map}
use Rattle.sd_graph.specs.TreeFold.{exit_tree}
use Rattle.sd_validity.specs.rules.Ranks.{set_to}
use Rattle.sd_places.proofs.ranks.naming.push_set.Given as goal

-- those so far, with those of the transitions that are left, are all
abbrev pub invariant-loop-exit : goal.invariant-loop-exit
invariant-loop-exit l =
    l.begun.items ++ set_to l.state (map exit_tree (drop l.exit-index l.exits)) ≡ l.initial.begun.items ++ set_to l.state (map exit_tree l.exits)
