use Rattle.std.proofs.Common.{◌+◌, take, length, map, arith}
use Rattle.std.proofs.lemmas.List.{length-map}
use Rattle.sd_tcode.specs.op.Machine.{Held, held}
use Rattle.sd_tcode.specs.tcode.Held.{given}
use Rattle.sd_tcode.proofs.tcode_lemmas.Loads.{elements_many}
use Rattle.sd_tcode.proofs.tcode_lemmas.Ready.{whole_by_place}
use Rattle.sd_tcode.proofs.tcode.frame.Frame.is_whole.Goals as goal

pub returns-clause-yes : goal.returns-clause-yes
returns-clause-yes c is =
    let frame = c.args.self.now in
    let arrays = frame.arrays.items in
    let scalars = take frame.inputs (take (frame.inputs + frame.variables) frame.registers.items) in
    whole_by_place (given frame) (length arrays) (omega (arith, elements_many (map held arrays) scalars, length-map arrays held)) (omega (arith, length-map (map held arrays) (λ (a : Held). a.extents), length-map arrays held))
    (λ connector h. c.loop-connector.invariant connector (omega (arith, h, c.loop-connector-test.false, c.len-connector-end.ensures, frame.arrays.ok.0)))
