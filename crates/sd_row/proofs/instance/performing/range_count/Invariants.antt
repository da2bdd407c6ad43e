use Rattle.std.proofs.Common.{◌≡◌, ◌+◌, ◌≤◌, ℤ, List, length, drop}
use Rattle.sd_graph.specs.Context.{span_counts}
use Rattle.sd_row.proofs.instance.performing.range_count.Given as goal

-- the ranges so far
abbrev pub invariant-loop-dim : goal.invariant-loop-dim
invariant-loop-dim l = record {
  all : (values : List ℤ) → length (span_counts l.dims values) ≡ l.count + length (span_counts (drop l.dim-index l.dims) values);
  few : l.count ≤ l.dim-index;
}
