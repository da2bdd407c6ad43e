use Rattle.sd_bench.proofs.Stay.{scalars_same}
use Rattle.sd_bench.proofs.points.other_at.Goals as goal

pub returns-clause-scalars : goal.returns-clause-scalars
returns-clause-scalars c = scalars_same c.load.new.frame c.run-done.new.frame c.run-done.ensures.given c.load.ensures.scalars

pub run-done-requires : goal.run-done-requires
run-done-requires c = c.load.ensures.ready c.args.code.now c.requires.ready
