use Rattle.std.proofs.Common.{Result, Ok, Err, OnOk, rules}
use Rattle.sd_graph.specs.TreeFold.{tasklet_tree}
use Rattle.sd_row.specs.instance.Fit.{IsCodeFor, IsRunner}
use Rattle.sd_row.proofs.instance_lemmas.Zeros.{as_runner, as_code}
use Rattle.sd_rows.proofs.tasks.task.run_task_by.Goals as goal

follows : {A E : Type 0} (first second : Type 0) (answer : Result A E) → (first → second) → OnOk answer first → OnOk answer second
follows first second (Ok value) step is = step is
follows first second (Err error) step is = tt

pub run_scalar_task-requires : goal.run_scalar_task-requires
run_scalar_task-requires c = record {
  runner = as_runner (tasklet_tree c.args.code.now) c.args.ins.now c.args.outs.now (search rules) c.args.runner.now.code c.args.runner.now.frame c.requires.runner;
}

pub returns-then-are_scalar_links-clause-runner : goal.returns-then-are_scalar_links-clause-runner
returns-then-are_scalar_links-clause-runner c =
    let tree = tasklet_tree c.args.code.now in
    let new = c.run_scalar_task.new.runner in
    follows (IsRunner tree c.args.ins.now c.args.outs.now new.code new.frame) (IsCodeFor tree c.args.ins.now c.args.outs.now new.code new.frame) c.run_scalar_task.result
    (λ is. as_code tree c.args.ins.now c.args.outs.now new.code new.frame is c.requires.runner.inputs) c.run_scalar_task.ensures.runner
