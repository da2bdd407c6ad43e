use Rattle.std.proofs.Common.{◌≡◌, ◌*◌, ◌-◌, ◌^◌, ◌≤◌, min, drop}
use Rattle.std.specs.List.{fold}
use Rattle.sd_range.specs.Points.{product}
use Rattle.sd_leaves.proofs.moves.effects.element_count.Given as goal

-- the count so far, with the extents that are left, is that of all
abbrev pub invariant-loop-extent : goal.invariant-loop-extent
invariant-loop-extent l = record {
  all : min (fold (λ all count. all * count) l.count (drop l.extent-index l.extents)) (2 ^ 128 - 1) ≡ min (product l.extents) (2 ^ 128 - 1);
  below : l.count ≤ 2 ^ 128 - 1;
}
