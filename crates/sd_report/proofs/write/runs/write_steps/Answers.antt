use Rattle.std.proofs.Common.{◌+◌, take, drop}
use Rattle.std.proofs.lemmas.Result.{err_from_is_err_and}
use Rattle.sd_report.specs.write.RunText.{steps_told, steps_text}
use Rattle.sd_report.proofs.write_lemmas.SinkLemmas.{AppendsPrefix-later}
use Rattle.sd_report.proofs.write_lemmas.StepLines.{steps_cut}
use Rattle.sd_report.proofs.write.runs.write_steps.Goals as goal

pub returns-in_err-write_step-clause-err : goal.returns-in_err-write_step-clause-err
returns-in_err-write_step-clause-err g c =
    let p = err_from_is_err_and c.from_residual.result c.from_residual.ensures.1 in
    let steps = c.args.steps.now in
    let number = c.loop-step.step-index in
    rw p.1
    (AppendsPrefix-later _ _ _ (steps_text (steps_told steps)) (steps_text (steps_told (take number steps))) _ (steps_text (steps_told (drop (number + 1) steps))) (steps_cut steps number _ c.loop-step-test.true)
    c.loop-step.invariant.written
    c.in_err-write_step.ensures.err)
