use Rattle.std.proofs.Common.{◌≡◌, ◌++◌, map}
use Rattle.std.specs.List.{AllByRecursion}
use Rattle.sd_lex.specs.TreeFold.{call_argument_of}
use Rattle.sd_graph.specs.TreeFold.{named_container}
use Rattle.sd_program.specs.Bounds.{EachDimension}
use Rattle.sd_program.specs.Small.{IsSmall}
use Rattle.sd_task.specs.task.TableOf.{table_of}
use Rattle.sd_elab.specs.items.Items.{call_links}
use Rattle.sd_elab.proofs.items.call.call_links.Given as goal

abbrev pub invariant-loop-name : goal.invariant-loop-name
invariant-loop-name l = record {
  made : l.links.items ++ call_links (table_of l.names) (map call_argument_of l.name-iterator.a.rest.now) (map named_container l.name-iterator.b)
      ≡ call_links (table_of l.names) (map call_argument_of l.arguments) (map named_container l.parameters.entries);
  small : AllByRecursion (λ argument. EachDimension IsSmall argument.1) (map call_argument_of l.name-iterator.a.rest.now);
}
