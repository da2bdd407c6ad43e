use Rattle.std.proofs.Common.{drop}
use Rattle.sd_graph.specs.TreeFold.{graph_tree, item_trees}
use Rattle.sd_mem.specs.machine.Coming.{items_coming}
use Rattle.sd_scope.specs.scope.Standing.{context_of}
use Rattle.sd_row.proofs.row_lemmas.Comes.{IsLeft}
use Rattle.sd_rows.specs.tasks.Runners.{AreRunnersOf}
use Rattle.sd_rows.proofs.tasks.tasks.run_tasks.Given as goal

-- what the items that are left come to, all come to
abbrev pub invariant-loop-number : goal.invariant-loop-number
invariant-loop-number l = record {
  left : IsLeft (items_coming (item_trees l.items) (context_of (graph_tree l.graph) l.base l.scope) l.fn.machine) l.fn.machine
      (λ most beside. items_coming (item_trees (drop l.number l.items)) (context_of (graph_tree l.graph) l.base l.scope) l.machine most) l.machine;
  runners : AreRunnersOf l.items l.runners.items;
}
