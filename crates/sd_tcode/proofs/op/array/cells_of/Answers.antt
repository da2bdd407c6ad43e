use Rattle.std.proofs.Common.{◌∙◌}
use Rattle.sd_tcode.proofs.op_lemmas.Arrays.{cells_got}
use Rattle.sd_tcode.proofs.op.array.cells_of.Goals as goal

pub returns : goal.returns
returns c = c.deref.ensures.value ∙ cells_got c.args.arrays.now c.args.connector c.index-arrays-connector.result c.requires
