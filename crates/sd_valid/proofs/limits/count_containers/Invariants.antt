use Rattle.std.proofs.Common.{◌≡◌, ◌≤◌, ◌^◌, map}
use Rattle.sd_graph.specs.TreeFold.{named_container}
use Rattle.sd_valid.specs.Limits.{tally}
use Rattle.sd_valid.proofs.limits.count_containers.Given as goal

-- the total so far goes on to that of all
abbrev pub invariant-loop-name : goal.invariant-loop-name
invariant-loop-name l = record {
  all : tally l.total (map named_container l.name-iterator) ≡ tally l.before (map named_container l.containers.entries);
  within : l.total ≤ 2 ^ 26;
}
