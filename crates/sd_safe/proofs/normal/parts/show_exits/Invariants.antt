use Rattle.std.proofs.Common.{drop, map}
use Rattle.std.specs.List.{AllByRecursion}
use Rattle.sd_graph.specs.TreeFold.{exit_tree}
use Rattle.sd_safe.specs.normal.NormalForm.{IsExitNormal}
use Rattle.sd_safe.proofs.normal.parts.show_exits.Given as goal

-- all are where those left are
abbrev pub invariant-loop-exit : goal.invariant-loop-exit
invariant-loop-exit l = AllByRecursion IsExitNormal (map exit_tree (drop l.exit-index l.exits)) → AllByRecursion IsExitNormal (map exit_tree l.exits)
