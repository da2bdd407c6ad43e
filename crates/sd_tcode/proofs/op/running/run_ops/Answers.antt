use Rattle.std.proofs.Common.{◌∙◌, pos, arith}
use Rattle.sd_tcode.specs.declared.op.op.Op.TheVariants.{Number}
use Rattle.sd_tcode.proofs.op_lemmas.Steps.{step_left, step_kept}
use Rattle.sd_tcode.proofs.op.running.run_ops.Goals as goal

pub loop-at-preserved : goal.loop-at-preserved
loop-at-preserved g c =
    let done = c.in_ok-passed.ensures in
    let kept = step_kept c.args.ops.now c.loop-at.at c.in_ok-passed.passed (Number 0 (pos 0)) c.loop-at-test.true in
    record {
      many = done.many ∙ c.loop-at.invariant.many;
      given = done.given ∙ c.loop-at.invariant.given;
      slots = done.slots ∙ c.loop-at.invariant.slots;
      kept = omega (arith, kept, done.kept, c.loop-at.invariant.kept);
      left = c.loop-at.invariant.left ∙ step_left (g.S.Source.connectors c.args.source.now) c.args.ops.now c.loop-at.at c.in_ok-passed.passed (Number 0 (pos 0))
          (record { registers = c.loop-at.registers; effects = c.loop-at.log.0 }) (record { registers = c.step.new.registers; effects = c.step.new.log.0 }) c.loop-at-test.true done.done done.passed;
    }
