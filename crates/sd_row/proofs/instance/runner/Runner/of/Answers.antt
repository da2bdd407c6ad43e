use Rattle.std.proofs.Common.{rules}
use Rattle.sd_graph.specs.TreeFold.{tasklet_tree}
use Rattle.sd_row.proofs.instance_lemmas.Zeros.{with_scalars}
use Rattle.sd_row.proofs.instance.runner.Runner.of.Goals as goal

pub returns : goal.returns
returns c = with_scalars (tasklet_tree c.args.tasklet.now) c.args.ins.now c.args.outs.now c.made.result (search rules) c.made.ensures
