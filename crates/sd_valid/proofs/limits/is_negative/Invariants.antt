use Rattle.std.proofs.Common.{◌≡◌, drop, pos, int_lt}
use Rattle.std.specs.List.{list_any}
use Rattle.sd_valid.proofs.limits.is_negative.Given as goal

-- a negative one is among all where it is among those that are left
abbrev pub invariant-loop-extent : goal.invariant-loop-extent
invariant-loop-extent l =
    list_any (λ extent. int_lt extent.constant (pos 0)) (drop l.extent-index l.extent-items) ≡ list_any (λ extent. int_lt extent.constant (pos 0)) l.extent-items
