use Rattle.std.proofs.Common.{◌+◌, ◌<◌, ◌∙◌, sym, subst, map, take, FitsSigned, arith, length-drop}
use Rattle.std.proofs.lemmas.List.{length-take, length-set}
use Rattle.sd_tasklet.specs.tasklet.Given.{IsWhole}
use Rattle.sd_tcode.specs.op.Machine.{held}
use Rattle.sd_tcode.specs.tcode.Held.{given}
use Rattle.sd_tcode.proofs.tcode_lemmas.Ready.{variable_whole}
use Rattle.std.specs.Int.{w64}
use Rattle.std.proofs.lemmas.Int.{to_z-of_z}
use Rattle.sd_tcode.proofs.tcode_lemmas.Loads.{variable_given}
use Rattle.sd_tcode.proofs.tcode.frame.Frame.set.Goals as goal

pub returns-clause-given : goal.returns-clause-given
returns-clause-given c =
    let frame = c.args.self.now in
    let fits : FitsSigned w64 c.args.value = c.ranges.value in
    let low : frame.inputs + c.args.variable < frame.inputs + frame.variables = omega (arith, c.requires, length-drop frame.inputs (take (frame.inputs + frame.variables) frame.registers.items), length-take (frame.inputs + frame.variables) frame.registers.items) in
    rw (to_z-of_z w64 c.args.value fits) (variable_given frame.inputs (frame.inputs + frame.variables) frame.registers.items (map held frame.arrays.items) c.args.variable c.args.value low)

pub returns-clause-ready : goal.returns-clause-ready
returns-clause-ready c code is =
    let frame = c.args.self.now in
    let fits : FitsSigned w64 c.args.value = c.ranges.value in
    record {
      fits = rw (to_z-of_z w64 c.args.value fits)
          (record { registers = length-set frame.registers.items (frame.inputs + c.args.variable) c.args.value ∙ is.fits.registers; arrays = is.fits.arrays; slots = is.fits.slots; inputs = is.fits.inputs; variables = is.fits.variables });
      whole = subst IsWhole (sym (returns-clause-given c)) (variable_whole (given frame) c.args.variable c.args.value is.whole);
    }
