use Rattle.std.proofs.Common.{◌≡◌, drop}
use Rattle.std.specs.List.{list_all}
use Rattle.sd_validity.specs.rules.WithinLimits as limits
use Rattle.sd_validate.proofs.limits.containers.are_small.Given as goal

-- those left are small where all are
abbrev pub invariant-loop-extent : goal.invariant-loop-extent
invariant-loop-extent l = list_all limits.is_small (drop l.extent-index l.extents) ≡ list_all limits.is_small l.extents
