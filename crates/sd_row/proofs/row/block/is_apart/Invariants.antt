use Rattle.std.proofs.Common.{◌≡◌, drop}
use Rattle.std.specs.List.{AllByRecursion}
use Rattle.sd_row.proofs.row.block.is_apart.Given as goal

-- where those that are left are elsewhere, all are
abbrev pub invariant-loop-write : goal.invariant-loop-write
invariant-loop-write l = AllByRecursion (λ write. (l.read.station ≡ write.to.station) → ⊥) (drop l.write-index l.writes) → AllByRecursion (λ write. (l.read.station ≡ write.to.station) → ⊥) l.writes
