use Rattle.std.proofs.Common.{◌≡◌, ◌++◌, drop}
use Rattle.std.specs.List.{AllZip}
use Rattle.sd_subset.specs.elements.Composition.{begins, composed, FitsMoved}
use Rattle.sd_subset.proofs.elements.composition.composed_dims.Given as goal

-- the dimensions so far stand before those of what is left of both
abbrev pub invariant-loop-dim : goal.invariant-loop-dim
invariant-loop-dim l = record {
  composed : l.dims.items ++ composed (drop l.dim-index l.outer) l.left ≡ composed l.outer l.inner;
  fits : AllZip FitsMoved (begins (drop l.dim-index l.outer)) l.left;
}
