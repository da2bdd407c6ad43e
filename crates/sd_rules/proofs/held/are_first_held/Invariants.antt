use Rattle.std.proofs.Common.{◌≡◌, map, true}
use Rattle.std.specs.List.{list_all}
use Rattle.sd_graph.specs.LoopScope.{numbers_below}
use Rattle.sd_graph.specs.TreeFold.{named_container}
use Rattle.sd_validity.specs.rules.NamesInForce as names
use Rattle.sd_rules.proofs.held.are_first_held.Given as goal

-- each so far is held
abbrev pub invariant-loop-number : goal.invariant-loop-number
invariant-loop-number l = list_all (names.is_private_held (map named_container l.containers.entries) l.held) (numbers_below l.number) ≡ true
