use Rattle.std.proofs.Common.{subst, length, arith}
use Rattle.sd_tcode.specs.tcode.Compiled.{AreOutputs}
use Rattle.sd_tcode.proofs.tcode_lemmas.Frames.{outputs_mean, outputs_there}
use Rattle.sd_tcode.proofs.tcode.running.run_plain.Goals as goal

pub returns-clause-meaning : goal.returns-clause-meaning
returns-clause-meaning c tree order is_code some =
    outputs_mean tree c.args.code.now c.args.frame.now c.run_code.new.frame c.run_code.ensures.safe c.requires.fits c.run_code.ensures.frame is_code order some c.run_code.result c.run_code.ensures.done

pub returns-clause-outputs : goal.returns-clause-outputs
returns-clause-outputs c order some =
    let safe = c.run_code.ensures.safe in
    let is = c.run_code.ensures.frame in
    let room = safe.registers in
    let many = is.registers in
    let variables = is.variables in
    outputs_there order c.run_code.new.frame.variables c.args.code.now.layout.connectors (length c.run_code.new.frame.registers.items) (omega (arith, room, many, variables)) (subst (λ p. AreOutputs c.args.code.now.layout p) some safe.outputs)
