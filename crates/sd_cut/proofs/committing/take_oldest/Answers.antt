use Rattle.sd_cut.proofs.Undoing.{oldest_next}
use Rattle.std.proofs.Common.{◌∙◌}
use Rattle.sd_cut.proofs.committing.take_oldest.Goals as goal

pub loop-preserved : goal.loop-preserved
loop-preserved c = oldest_next c.args.container c.args.count c.loop.counter c.loop.memory c.take.new.self c.loop-test.true c.take.ensures.taken ∙ c.loop.invariant
