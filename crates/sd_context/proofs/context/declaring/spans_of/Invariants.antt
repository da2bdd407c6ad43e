use Rattle.std.proofs.Common.{◌≡◌, ◌+◌, ◌≤◌, drop}
use Rattle.sd_lex.specs.TreeFold.{dimensions_of}
use Rattle.sd_context.specs.context.Declaring as declaring
use Rattle.sd_context.proofs.context.declaring.spans_of.Given as goal

-- the ranges so far and those that are left; no more than dimensions
abbrev pub invariant-loop-dimension : goal.invariant-loop-dimension
invariant-loop-dimension l = record {
  sum : l.count + declaring.spans_of (dimensions_of (drop l.dimension-index l.dimensions)) ≡ declaring.spans_of (dimensions_of l.dimensions);
  few : l.count ≤ l.dimension-index;
}
