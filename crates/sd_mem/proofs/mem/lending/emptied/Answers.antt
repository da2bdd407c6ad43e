use Rattle.std.proofs.Common.{ap, ◌∙◌, map}
use Rattle.std.proofs.lemmas.List.{take_all}
use Rattle.sd_mem.specs.mem.Holding.{shape_held}
use Rattle.sd_mem.proofs.mem_lemmas.Wholes.{sized_as}
use Rattle.sd_mem.proofs.mem.lending.emptied.Goals as goal

pub returns-clause-sized : goal.returns-clause-sized
returns-clause-sized c =
    sized_as c.args.holdings.now c.loop-holding.emptied.items
    (c.loop-holding.invariant ∙ ap (map shape_held) (take_all c.loop-holding.holding-index c.args.holdings.now c.loop-holding-test.false)) c.requires
