use Rattle.std.proofs.Common.{drop}
use Rattle.std.specs.List.{AllByRecursion}
use Rattle.sd_safe.specs.normal.NormalForm.{IsDimNormal}
use Rattle.sd_safe.proofs.normal.parts.show_dims.Given as goal

-- all are where those left are
abbrev pub invariant-loop-dim : goal.invariant-loop-dim
invariant-loop-dim l = AllByRecursion IsDimNormal (drop l.dim-index l.dims) → AllByRecursion IsDimNormal l.dims
