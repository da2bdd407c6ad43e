use Rattle.std.proofs.Common.{◌≡◌, drop}
use Rattle.std.specs.List.{list_all}
use Rattle.sd_rows.specs.rows.Still.{is_free_dim}
use Rattle.sd_rows.proofs.rows.still.are_free_dims.Given as goal

-- it is what the dimensions that are left say
abbrev pub invariant-loop-dim : goal.invariant-loop-dim
invariant-loop-dim l = list_all (is_free_dim l.variable) (drop l.dim-index l.dims) ≡ list_all (is_free_dim l.variable) l.dims
