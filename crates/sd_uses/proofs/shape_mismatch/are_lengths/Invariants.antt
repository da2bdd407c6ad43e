use Rattle.std.proofs.Common.{◌≡◌, drop, map}
use Rattle.sd_names.specs.Extents.{are_same}
use Rattle.sd_uses.proofs.shape_mismatch.are_lengths.Given as goal

-- what is left decides
abbrev pub invariant-loop-stretch : goal.invariant-loop-stretch
invariant-loop-stretch l = are_same (map (λ stretch. stretch.length) (drop l.stretch-index l.subset)) l.left ≡ are_same (map (λ stretch. stretch.length) l.subset) l.extents
