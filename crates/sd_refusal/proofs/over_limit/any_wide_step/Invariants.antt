use Rattle.std.proofs.Common.{◌≡◌, drop}
use Rattle.std.specs.List.{list_any}
use Rattle.sd_lex.specs.TreeFold.{dimensions_of}
use Rattle.sd_refusal.specs.OverLimit as over
use Rattle.sd_refusal.proofs.over_limit.any_wide_step.Given as goal

-- the dimensions that are left decide
abbrev pub invariant-loop-dimension : goal.invariant-loop-dimension
invariant-loop-dimension l = list_any over.has_wide_step (dimensions_of (drop l.dimension-index l.dimensions)) ≡ list_any over.has_wide_step (dimensions_of l.dimensions)
