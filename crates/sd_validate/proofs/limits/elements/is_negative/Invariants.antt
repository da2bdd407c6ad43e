use Rattle.std.proofs.Common.{◌≡◌, drop, int_lt, pos}
use Rattle.std.specs.List.{list_any}
use Rattle.sd_validate.proofs.limits.elements.is_negative.Given as goal

-- one of those left is negative where one of all is
abbrev pub invariant-loop-extent : goal.invariant-loop-extent
invariant-loop-extent l = list_any (λ extent. int_lt extent.constant (pos 0)) (drop l.extent-index l.extents) ≡ list_any (λ extent. int_lt extent.constant (pos 0)) l.extents
