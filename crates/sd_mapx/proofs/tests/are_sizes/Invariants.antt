use Rattle.std.proofs.Common.{◌≡◌, drop}
use Rattle.std.specs.List.{list_all}
use Rattle.sd_mapx.specs.MapTests.{is_size}
use Rattle.sd_mapx.proofs.tests.are_sizes.Given as goal

-- the answer is that of those that are left
abbrev pub invariant-loop-size : goal.invariant-loop-size
invariant-loop-size l = list_all is_size l.sizes ≡ list_all is_size (drop l.size-index l.sizes)
