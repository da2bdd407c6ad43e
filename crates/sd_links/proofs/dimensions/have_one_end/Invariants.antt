use Rattle.std.proofs.Common.{◌≡◌, drop}
use Rattle.std.specs.List.{list_all}
use Rattle.sd_validity.specs.rules.Dimensions as dimensions
use Rattle.sd_links.proofs.dimensions.have_one_end.Given as goal

-- those left have one end where all have
abbrev pub invariant-loop-dim : goal.invariant-loop-dim
invariant-loop-dim l = list_all dimensions.has_one_end (drop l.dim-index l.dims) ≡ list_all dimensions.has_one_end l.dims
