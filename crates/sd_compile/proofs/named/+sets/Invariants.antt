use Rattle.std.proofs.Common.{drop}
use Rattle.sd_graph.specs.TreeFold.{act_trees, tasklet_tree}
use Rattle.sd_tcode.specs.tcode.Named.{AllSetsOf}
use Rattle.sd_compile.proofs.named.+sets.Given as goal

-- all set what is there where those that are left do
abbrev pub invariant-set_names-loop-act : goal.invariant-set_names-loop-act
invariant-set_names-loop-act l = AllSetsOf (tasklet_tree l.code) (act_trees (drop l.act-index l.acts)) → AllSetsOf (tasklet_tree l.code) (act_trees l.acts)
