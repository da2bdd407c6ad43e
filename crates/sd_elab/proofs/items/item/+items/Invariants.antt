use Rattle.std.proofs.Common.{◌≡◌, ◌+◌, drop}
use Rattle.sd_lex.specs.TreeFold.{block_of}
use Rattle.sd_graph.specs.TreeFold.{item_trees}
use Rattle.sd_program.specs.Bounds.{EachBound}
use Rattle.sd_program.specs.Declared.{containers_in_all}
use Rattle.sd_program.specs.Every.{EveryIn}
use Rattle.sd_program.specs.Small.{IsSmall}
use Rattle.sd_task.specs.in_force.SmallExtents.{HaveSmallExtents}
use Rattle.sd_task.specs.task.TableOf.{table_of}
use Rattle.sd_elab.specs.items.Appended.{appended}
use Rattle.sd_elab.specs.items.Counts.{variables_in_all}
use Rattle.sd_elab.specs.items.Graphs.{graph_named}
use Rattle.sd_elab.specs.items.GraphsByNumber.{graphs_of}
use Rattle.sd_elab.specs.items.Items.{items_of_body}
use Rattle.sd_elab.proofs.items_lemmas.Kept.{IsKept}
use Rattle.sd_elab.proofs.items.item.+items.Given as goal

abbrev pub invariant-scope_items-loop-statement : goal.invariant-scope_items-loop-statement
invariant-scope_items-loop-statement l = record {
  made : appended (item_trees l.items.items) (items_of_body (graph_named (graphs_of l.graphs)) (block_of (drop l.statement-index l.body)) (table_of l.names) l.numbers.container l.numbers.variable)
      ≡ items_of_body (graph_named (graphs_of l.graphs)) (block_of l.body) (table_of l.initial.names) l.initial.numbers.container l.initial.numbers.variable;
  container : l.numbers.container + containers_in_all (block_of (drop l.statement-index l.body)) ≡ l.initial.numbers.container + containers_in_all (block_of l.body);
  variable : l.numbers.variable + variables_in_all (block_of (drop l.statement-index l.body)) ≡ l.initial.numbers.variable + variables_in_all (block_of l.body);
  small : EveryIn (EachBound IsSmall) (block_of (drop l.statement-index l.body));
  extents : HaveSmallExtents (table_of l.names).all;
  kept : IsKept l.kept (table_of l.initial.names) (table_of l.names);
}
