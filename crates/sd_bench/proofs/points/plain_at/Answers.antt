use Rattle.std.proofs.Common.{[], ◌∷◌}
use Rattle.sd_bench.proofs.Stay.{scalars_same}
use Rattle.sd_bench.proofs.points.plain_at.Goals as goal

pub returns-clause-scalars : goal.returns-clause-scalars
returns-clause-scalars c = scalars_same c.load.new.frame c.run_plain-done.new.frame c.run_plain-done.ensures.given c.load.ensures.scalars

pub run_plain-done-requires : goal.run_plain-done-requires
run_plain-done-requires c = c.load.ensures.ready c.args.code.now c.requires.ready

pub output-point-requires : goal.output-point-requires
output-point-requires c = (c.run_plain-done.ensures.outputs (c.args.output ∷ []) c.requires.plain).0
