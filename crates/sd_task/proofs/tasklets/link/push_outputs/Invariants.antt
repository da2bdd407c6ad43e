use Rattle.std.proofs.Common.{◌≡◌, ◌++◌, drop}
use Rattle.sd_lex.specs.TreeFold.{block_of}
use Rattle.sd_program.specs.Bounds.{EachBound}
use Rattle.sd_program.specs.Every.{EveryIn}
use Rattle.sd_program.specs.Small.{IsSmall}
use Rattle.sd_task.specs.task.TableOf.{table_of}
use Rattle.sd_task.specs.tasklets.Item.{outputs_of}
use Rattle.sd_task.proofs.tasklets.link.push_outputs.Given as goal

abbrev pub invariant-loop-statement : goal.invariant-loop-statement
invariant-loop-statement l = record {
  made : l.links.items ++ outputs_of (table_of l.names) (block_of (drop l.statement-index l.body)) ≡ l.initial.links.items ++ outputs_of (table_of l.names) (block_of l.body);
  small : EveryIn (EachBound IsSmall) (block_of (drop l.statement-index l.body));
}
