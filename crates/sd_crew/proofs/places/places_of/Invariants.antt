use Rattle.std.proofs.Common.{◌≡◌, ◌++◌, drop}
use Rattle.sd_graph.specs.TreeFold.{item_trees}
use Rattle.sd_crew.specs.Places.{places_from}
use Rattle.sd_crew.proofs.places.places_of.Given as goal

-- those so far, with those of the items that are left
abbrev pub invariant-loop-number : goal.invariant-loop-number
invariant-loop-number l =
    l.places.items ++ places_from l.state l.values l.workers l.number (item_trees (drop l.number l.items)) ≡ places_from l.state l.values l.workers 0 (item_trees l.items)
