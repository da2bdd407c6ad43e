use Rattle.std.proofs.Common.{◌≡◌, ◌++◌, map, length}
use Rattle.std.specs.List.{AllByRecursion}
use Rattle.sd_graph.specs.ContainerParts.{is_of_run}
use Rattle.sd_graph.specs.Context.{memory_from}
use Rattle.sd_graph.specs.TreeFold.{named_container}
use Rattle.sd_graph.specs.Unfold.{run_memory}
use Rattle.sd_mem.specs.mem.GraphContents.{shapes_from}
use Rattle.sd_mem.specs.mem.Holding.{shape_held, contents_held, IsSized}
use Rattle.sd_mem.proofs.mem.beginning.run_holdings.Given as goal

-- what the containers so far hold, and those left
abbrev pub invariant-loop-container : goal.invariant-loop-container
invariant-loop-container l = record {
  shapes : map shape_held l.holdings.items ++ shapes_from (λ number kind. is_of_run kind) (length l.holdings.items) (map named_container l.container-iterator) ≡ shapes_from (λ number kind. is_of_run kind) 0 (map named_container l.containers.entries);
  contents : map contents_held l.holdings.items ++ memory_from (λ number kind. is_of_run kind) (length l.holdings.items) (map named_container l.container-iterator) ≡ run_memory (map named_container l.containers.entries);
  sized : AllByRecursion IsSized l.holdings.items;
}
