use Rattle.std.proofs.Common.{◌≡◌, ℕ, ◌≤◌, ◌++◌, [], map, length, slice_index_or}
use Rattle.std.specs.List.{AllByRecursion}
use Rattle.sd_graph.specs.TreeFold.{named_container}
use Rattle.sd_graph.specs.Unfold.{opening_from}
use Rattle.sd_mem.specs.mem.GraphContents.{shapes_of}
use Rattle.sd_mem.specs.mem.Holding.{shape_held, contents_held, IsSized}
use Rattle.sd_mem.proofs.mem.opening.opening_holdings.Given as goal

-- what the containers so far hold, those left, and the lists that are left for them
abbrev pub invariant-loop-container : goal.invariant-loop-container
invariant-loop-container l = record {
  shapes : map shape_held l.holdings.items ++ shapes_of (map named_container l.container-iterator) ≡ shapes_of (map named_container l.containers.entries);
  contents : map contents_held l.holdings.items ++ opening_from l.fn.given.items (length l.holdings.items) (map named_container l.container-iterator) ≡ opening_from l.fn.given.items 0 (map named_container l.containers.entries);
  sized : AllByRecursion IsSized l.holdings.items;
  given : (number : ℕ) → length l.holdings.items ≤ number → slice_index_or l.given.items number [] ≡ slice_index_or l.fn.given.items number [];
}
