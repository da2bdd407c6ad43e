use Rattle.std.proofs.Common.{◌≡◌}
use Rattle.sd_mapx.specs.MapTests.{are_steps_small}
use Rattle.sd_mapx.proofs.tests.are_steps_small.Given as goal

-- the answer is that of those that are left
abbrev pub invariant-loop-size : goal.invariant-loop-size
invariant-loop-size l = are_steps_small l.sizes l.params ≡ are_steps_small l.size-iterator.a.rest.now l.size-iterator.b.rest.now
