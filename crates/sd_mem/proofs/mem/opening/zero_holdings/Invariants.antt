use Rattle.std.proofs.Common.{◌≡◌, ◌++◌, map}
use Rattle.std.specs.List.{AllByRecursion}
use Rattle.sd_graph.specs.TreeFold.{named_container}
use Rattle.sd_mem.specs.mem.GraphContents.{shapes_of, zero_contents}
use Rattle.sd_mem.specs.mem.Holding.{shape_held, contents_held, IsSized}
use Rattle.sd_mem.proofs.mem.opening.zero_holdings.Given as goal

-- what the containers so far hold, and those left
abbrev pub invariant-loop-container : goal.invariant-loop-container
invariant-loop-container l = record {
  shapes : map shape_held l.holdings.items ++ shapes_of (map named_container l.container-iterator) ≡ shapes_of (map named_container l.containers.entries);
  contents : map contents_held l.holdings.items ++ map (λ entry. zero_contents entry.1) (map named_container l.container-iterator) ≡ map (λ entry. zero_contents entry.1) (map named_container l.containers.entries);
  sized : AllByRecursion IsSized l.holdings.items;
}
