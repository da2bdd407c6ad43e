use Rattle.sd_bench.proofs.Stay.{scalars_stay}
use Rattle.sd_bench.proofs.points.load.Goals as goal

pub returns-clause-scalars : goal.returns-clause-scalars
returns-clause-scalars c =
    scalars_stay c.load-2.new.self c.load-3.new.self 2 0 _ c.load-3.ensures.given
    (scalars_stay c.load.new.self c.load-2.new.self 1 0 _ c.load-2.ensures.given
    (scalars_stay c.args.frame.now c.load.new.self 0 0 _ c.load.ensures.given c.requires))

pub returns-clause-ready : goal.returns-clause-ready
returns-clause-ready c code is = c.load-3.ensures.ready code (c.load-2.ensures.ready code (c.load.ensures.ready code is))
