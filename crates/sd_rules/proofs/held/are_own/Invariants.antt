use Rattle.std.proofs.Common.{◌≡◌, drop, map}
use Rattle.std.specs.List.{list_all}
use Rattle.sd_graph.specs.TreeFold.{named_container}
use Rattle.sd_validity.specs.rules.NamesInForce as names
use Rattle.sd_rules.proofs.held.are_own.Given as goal

-- those left are private containers where all are
abbrev pub invariant-loop-number : goal.invariant-loop-number
invariant-loop-number l =
    list_all (names.is_own (map named_container l.containers.entries)) (drop l.number-index l.numbers)
    ≡ list_all (names.is_own (map named_container l.containers.entries)) l.numbers
