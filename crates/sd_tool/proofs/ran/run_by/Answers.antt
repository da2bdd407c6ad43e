use Rattle.std.proofs.Common.{subst}
use Rattle.sd_seq.specs.RunEnd.{outcome_of}
use Rattle.sd_report.specs.stepping.Step.{steps_of}
use Rattle.sd_words.specs.Command.{step_of}
use Rattle.sd_tool.specs.Answer.{ran}
use Rattle.sd_tool.specs.Answers.{TellsStep}
use Rattle.sd_tool.specs.Report.{Says}
use Rattle.sd_tool.specs.Workspace.{work_of, graph_of}
use Rattle.sd_tool.proofs.Ended.{says_step}
use Rattle.sd_tool.proofs.ran.run_by.Goals as goal

pub returns : goal.returns
returns c =
    let work = work_of c.args.kept.work in
    let other = graph_of c.args.kept in
    let step = step_of c.args.asked in
    let end = outcome_of c.in_ok-told.told.end in
    let steps = steps_of c.in_ok-told.told in
    subst (λ picks. Says (TellsStep work other picks step) (ran steps work.tree step.turns end)) c.as_slice.ensures.value (says_step work other c.as_slice.result.now step end steps c.in_ok-told.ensures)
