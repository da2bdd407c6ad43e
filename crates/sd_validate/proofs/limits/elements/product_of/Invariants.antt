use Rattle.std.proofs.Common.{◌≡◌, ◌*◌, ◌-◌, ◌^◌, ◌≤◌, min, map, drop, unsigned_abs}
use Rattle.std.specs.List.{fold}
use Rattle.sd_range.specs.Points.{product}
use Rattle.sd_validate.proofs.limits.elements.product_of.Given as goal

-- the product so far, with the extents that are left, is that of all
abbrev pub invariant-loop-extent : goal.invariant-loop-extent
invariant-loop-extent l = record {
  all : min (fold (λ all count. all * count) l.product (map (λ extent. unsigned_abs extent.constant) (drop l.extent-index l.extents))) (2 ^ 128 - 1)
      ≡ min (product (map (λ extent. unsigned_abs extent.constant) l.extents)) (2 ^ 128 - 1);
  below : l.product ≤ 2 ^ 128 - 1;
}
