use Rattle.std.proofs.Common.{◌+◌, map, take, arith}
use Rattle.std.proofs.lemmas.List.{length-take, length-map}
use Rattle.sd_tcode.specs.op.Machine.{held}
use Rattle.sd_tcode.proofs.tcode_lemmas.Loads.{elements_many}
use Rattle.sd_tcode.proofs.tcode.frame.Frame.input_count.Goals as goal

pub returns : goal.returns
returns c =
    let frame = c.args.self.now in
    let fixed = take (frame.inputs + frame.variables) frame.registers.items in
    omega (arith, elements_many (map held frame.arrays.items) (take frame.inputs fixed), length-map frame.arrays.items held, length-take frame.inputs fixed, length-take (frame.inputs + frame.variables) frame.registers.items, c.len.ensures, c.min.ensures, c.len-2.ensures, c.min-2.ensures, frame.registers.ok.0, frame.arrays.ok.0)
