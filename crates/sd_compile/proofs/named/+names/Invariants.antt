use Rattle.std.proofs.Common.{drop}
use Rattle.sd_graph.specs.TreeFold.{tasklet_tree, value_trees}
use Rattle.sd_tcode.specs.tcode.Named.{AllNamesOf}
use Rattle.sd_compile.proofs.named.+names.Given as goal

-- all name what is there where those that are left do
abbrev pub invariant-have_names-loop-value : goal.invariant-have_names-loop-value
invariant-have_names-loop-value l = AllNamesOf (tasklet_tree l.code) (value_trees (drop l.value-index l.values)) → AllNamesOf (tasklet_tree l.code) (value_trees l.values)
