use Rattle.std.proofs.Common.{◌∙◌}
use Rattle.sd_tcode.proofs.op_lemmas.Arrays.{extents_got}
use Rattle.sd_tcode.proofs.op.array.extents_of.Goals as goal

pub returns : goal.returns
returns c = c.deref.ensures.value ∙ extents_got c.args.arrays.now c.args.connector c.index-arrays-connector.result c.requires
