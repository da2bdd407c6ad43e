use Rattle.std.proofs.Common.{◌≡◌, take}
use Rattle.sd_scope.specs.scope.Standing.{constants_of}
use Rattle.sd_scope.proofs.scope.extents.container_extents.Given as goal

abbrev pub invariant-loop-extent : goal.invariant-loop-extent
invariant-loop-extent l = l.extents.items ≡ constants_of (take l.extent-index l.container.extents)
