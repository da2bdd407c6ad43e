use Rattle.std.proofs.Common.{◌≡◌, drop, map}
use Rattle.std.specs.List.{list_all}
use Rattle.sd_graph.specs.TreeFold.{exit_tree}
use Rattle.sd_validity.specs.rules.Parts.{is_exit_passed}
use Rattle.sd_places.proofs.places.parts.are_exits_passed.Given as goal

-- those left pass where all do
abbrev pub invariant-loop-exit : goal.invariant-loop-exit
invariant-loop-exit g l =
    list_all (is_exit_passed (g.T.Test.tests l.test)) (map exit_tree (drop l.exit-index l.exits)) ≡ list_all (is_exit_passed (g.T.Test.tests l.test)) (map exit_tree l.exits)
