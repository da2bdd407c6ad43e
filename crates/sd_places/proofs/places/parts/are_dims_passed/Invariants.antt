use Rattle.std.proofs.Common.{◌≡◌, drop}
use Rattle.std.specs.List.{list_all}
use Rattle.sd_validity.specs.rules.Parts.{is_dim_passed}
use Rattle.sd_places.proofs.places.parts.are_dims_passed.Given as goal

-- those left pass where all do
abbrev pub invariant-loop-dim : goal.invariant-loop-dim
invariant-loop-dim g l = list_all (is_dim_passed (g.T.Test.tests l.test)) (drop l.dim-index l.dims) ≡ list_all (is_dim_passed (g.T.Test.tests l.test)) l.dims
