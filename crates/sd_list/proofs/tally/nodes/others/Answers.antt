use Rattle.std.proofs.Common.{◌+◌, arith}
use Rattle.sd_list.proofs.tally_lemmas.Sums.{in-whole}
use Rattle.sd_list.proofs.tally.nodes.others.Goals as goal

pub overflow_sub-result : goal.overflow_sub-result
overflow_sub-result c =
    in-whole c.args.nodes.now c.args.width c.requires.summed (c.args.width + c.args.number) (c.args.width + c.args.number) (omega arith) (omega (arith, c.requires.there)) (omega (arith, c.requires.there))

pub returns : goal.returns
returns c = omega (
  arith,
  in-whole c.args.nodes.now c.args.width c.requires.summed (c.args.width + c.args.number) (c.args.width + c.args.number) (omega arith) (omega (arith, c.requires.there)) (omega (arith, c.requires.there)),
)
