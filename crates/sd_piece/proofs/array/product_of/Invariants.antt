use Rattle.std.proofs.Common.{◌≡◌, ◌*◌, ◌<◌, drop}
use Rattle.std.specs.List.{AllByRecursion, fold}
use Rattle.sd_range.specs.Points.{product}
use Rattle.sd_piece.proofs.array.product_of.Given as goal

-- the product so far, with the extents that are left, is that of all; none of these is 0
abbrev pub invariant-loop-extent : goal.invariant-loop-extent
invariant-loop-extent l = (fold (λ all count. all * count) l.all (drop l.extent-index l.extents) ≡ product l.extents) × AllByRecursion (λ extent. 0 < extent) (drop l.extent-index l.extents)
