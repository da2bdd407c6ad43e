use Rattle.std.proofs.Common.{◌≡◌, ◌+◌, map}
use Rattle.sd_graph.specs.TreeFold.{named_container}
use Rattle.sd_valid.specs.Limits.{tally}
use Rattle.sd_validity.specs.rules.WithinLimits as limits
use Rattle.sd_validate.proofs.limits.elements.elements_behind.Given as goal

-- the total so far goes on to that of all
abbrev pub invariant-loop-container : goal.invariant-loop-container
invariant-loop-container l = record {
  counted : tally l.total (map named_container l.container-iterator) ≡ tally l.before (map named_container l.containers.entries);
  total : l.total + limits.elements_of (map named_container l.container-iterator) ≡ l.before + limits.elements_of (map named_container l.containers.entries);
}
