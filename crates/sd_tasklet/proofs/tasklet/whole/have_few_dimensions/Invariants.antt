use Rattle.std.proofs.Common.{◌≤◌, drop, length}
use Rattle.std.specs.List.{AllByRecursion}
use Rattle.sd_tasklet.proofs.tasklet.whole.have_few_dimensions.Given as goal

-- all have few where those that are left do
abbrev pub invariant-loop-extents : goal.invariant-loop-extents
invariant-loop-extents l = AllByRecursion (λ extents. length extents ≤ 4) (drop l.extents-index l.all) → AllByRecursion (λ extents. length extents ≤ 4) l.all
