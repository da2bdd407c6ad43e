use Rattle.std.proofs.Common.{◌≡◌, drop}
use Rattle.sd_subset.specs.elements.Composition.{has_span}
use Rattle.sd_subset.proofs.elements.composition.has_range.Given as goal

-- a range is among all where it is among those that are left
abbrev pub invariant-loop-dim : goal.invariant-loop-dim
invariant-loop-dim l = has_span (drop l.dim-index l.dims) ≡ has_span l.dims
