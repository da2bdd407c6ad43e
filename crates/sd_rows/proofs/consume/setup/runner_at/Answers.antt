use Rattle.std.proofs.Common.{rules}
use Rattle.sd_graph.specs.TreeFold.{tasklet_tree}
use Rattle.sd_row.specs.instance.Fit.{IsRunner}
use Rattle.sd_row.proofs.instance_lemmas.Matched.{found_so}
use Rattle.sd_rows.proofs.consume.setup.runner_at.Goals as goal

pub returns-then-branch-clause-runner : goal.returns-then-branch-clause-runner
returns-then-branch-clause-runner c =
    let tree = tasklet_tree c.args.tasklet.now in
    let runner : IsRunner tree c.args.ins.now c.args.outs.now c.in-Some.runner.code c.in-Some.runner.frame = found_so _ c.in_ok-runner.field-0 c.in-Some.runner c.in-Some.is c.in_ok-runner.ensures in
    c.in_ok-shape.ensures.runner tree runner

pub returns-then-branch-clause-set : goal.returns-then-branch-clause-set
returns-then-branch-clause-set c program base =
    let tree = tasklet_tree c.args.tasklet.now in
    let runner : IsRunner tree c.args.ins.now c.args.outs.now c.in-Some.runner.code c.in-Some.runner.frame = found_so _ c.in_ok-runner.field-0 c.in-Some.runner c.in-Some.is c.in_ok-runner.ensures in
    let after = c.in_ok-shape.ensures.runner tree runner in
    record {
      code = after.code;
      extents = c.in_ok-shape.ensures.extents tree runner (search rules) program base;
    }
