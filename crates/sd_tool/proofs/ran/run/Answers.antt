use Rattle.std.proofs.Common.{◌≡◌, [], ap, rules}
use Rattle.sd_seq.specs.RunEnd.{outcome_of}
use Rattle.sd_report.specs.write.RunText.{steps_told}
use Rattle.sd_tool.specs.Workspace.{work_of}
use Rattle.sd_tool.proofs.Ended.{says_run}
use Rattle.sd_tool.proofs.ran.run.Goals as goal

pub returns : goal.returns
returns g c =
    let none : c.new.result.items ≡ [] = search rules in
    says_run (work_of c.args.kept.work) c.args.asked.turns (steps_told c.new.result.items) (outcome_of c.in_ok-end.end) (ap steps_told none) c.in_ok-end.ensures
