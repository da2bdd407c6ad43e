use Rattle.std.proofs.Common.{◌∙◌, ap, map}
use Rattle.sd_tcode.specs.op.Machine.{held}
use Rattle.sd_tcode.specs.declared.op.array.Array.{Array}
use Rattle.sd_tcode.proofs.op_lemmas.Arrays.{extents_got}
use Rattle.sd_tcode.proofs.tcode_lemmas.Linked.{extents_same}
use Rattle.sd_tcode.proofs.tcode.frame.Frame.extents_at.Goals as goal

pub returns : goal.returns
returns c =
    let arrays = c.args.self.now.arrays.items in
    c.deref.ensures.value
    ∙ (ap (λ (a : Array). a.extents.items) c.index.ensures ∙ (extents_got arrays c.args.place c.index.result.now c.requires ∙ extents_same (map held arrays) c.args.place))
