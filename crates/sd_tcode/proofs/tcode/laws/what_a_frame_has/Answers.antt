use Rattle.std.proofs.Common.{◌∙◌, ◌+◌, ap, sym, length, map, take, arith, length-drop}
use Rattle.std.specs.Prelude.{slice_index_or}
use Rattle.std.proofs.lemmas.List.{length-map, length-take}
use Rattle.sd_tcode.specs.op.Machine.{Held, held}
use Rattle.sd_tcode.proofs.tcode_lemmas.Linked.{extents_same, dims_same, arrays_many}
use Rattle.sd_tcode.proofs.tcode_lemmas.Loads.{elements_many}
use Rattle.sd_tcode.proofs.tcode_lemmas.Frames.{frame_fits, dims_held}
use Rattle.sd_tcode.proofs.tcode.laws.what_a_frame_has.Goals as goal

pub returns-clause-dimensions : goal.returns-clause-dimensions
returns-clause-dimensions c connector =
    let arrays = c.args.frame.now.arrays.items in
    ap length (sym (extents_same (map held arrays) connector)) ∙ (dims_same (map held arrays) connector ∙ ap (λ l. slice_index_or l connector 0) (dims_held arrays ∙ c.requires.fits.arrays))

pub returns-clause-connectors : goal.returns-clause-connectors
returns-clause-connectors c =
    let code = c.args.code.now in
    let frame = c.args.frame.now in
    let safe = c.input_count.ensures.safe in
    length-map (map held frame.arrays.items) (λ (a : Held). a.extents) ∙ arrays_many code frame.registers.items (map held frame.arrays.items) safe (frame_fits code frame c.requires.fits)

pub returns-clause-variables : goal.returns-clause-variables
returns-clause-variables c =
    let code = c.args.code.now in
    let frame = c.args.frame.now in
    let safe = c.input_count.ensures.safe in
    let few = safe.inputs in
    let room = safe.registers in
    let fixed = take (frame.inputs + frame.variables) frame.registers.items in
    omega (arith, few, room, length-drop frame.inputs fixed, length-take (frame.inputs + frame.variables) frame.registers.items, c.requires.fits.registers, c.requires.fits.inputs, c.requires.fits.variables)

pub returns-clause-room : goal.returns-clause-room
returns-clause-room c connector low =
    let code = c.args.code.now in
    let frame = c.args.frame.now in
    let safe = c.input_count.ensures.safe in
    let few = safe.inputs in
    let room = safe.registers in
    let many = arrays_many code frame.registers.items (map held frame.arrays.items) safe (frame_fits code frame c.requires.fits) in
    let fixed = take (frame.inputs + frame.variables) frame.registers.items in
    let elements = c.requires.whole.elements connector in
    elements (omega (arith, low, few, room, many, elements_many (map held frame.arrays.items) (take frame.inputs fixed), length-take frame.inputs fixed, length-take (frame.inputs + frame.variables) frame.registers.items, c.requires.fits.registers, c.requires.fits.inputs, c.requires.fits.variables))
