-- What the code has made so far.
use Rattle.std.specs.Prelude.{◌+◌, [], map}
use Rattle.sd_graph.specs.TreeFold.{state_tree, item_trees}
use Rattle.sd_graph.specs.PlainTree.{no_item}
use Rattle.sd_lex.specs.PlainTree.{StatementTree, argument_array, local_array, local_stream}
use Rattle.sd_program.specs.Names.{Name}
use Rattle.sd_program.specs.Declared.{containers_in}
use Rattle.sd_elab.specs.items.Counts.{variables_in}
use Rattle.sd_task.specs.in_force.SmallExtents.{HaveSmallExtents}
use Rattle.sd_task.specs.in_force.Stack.{without_newest}
use Rattle.sd_task.specs.task.Table.{with_container}
use Rattle.sd_elab.specs.states.Standing.{Standing}
use Rattle.sd_elab.specs.states.Threaded.{Threaded}
use Rattle.sd_task.specs.task.TableOf.{table_of}
use Rattle.sd_elab.specs.declared.states.building.Building.{Building}

abbrev pub threaded_of : Building → Threaded
threaded_of building = record { finished = map state_tree building.finished.items; items = item_trees building.items.items }

-- nothing is made yet
abbrev pub nothing_made : Threaded
nothing_made = record { finished = []; items = no_item }

abbrev pub standing_of : Building → Standing
standing_of building = record {
  state = building.state;
  container = building.numbers.container;
  variable = building.numbers.variable;
  table = table_of building.names;
}

-- the extents of all containers are within the limits
abbrev pub HasSmallContainers : Building → Type 0
HasSmallContainers building = HaveSmallExtents (table_of building.names).all

-- one more container, that of an argument, which is in force already
abbrev pub argument_passed : Standing → Standing
argument_passed at = record { state = at.state; container = at.container + 1; variable = at.variable; table = at.table }

-- one more container is in force, the next one
abbrev pub declared : Name → Standing → Standing
declared name at = record { state = at.state; container = at.container + 1; variable = at.variable; table = with_container name at.container at.table }

-- behind a statement that is an item
abbrev pub item_behind : StatementTree → Standing → Standing
item_behind statement at = record {
  state = at.state + 1;
  container = at.container + containers_in statement;
  variable = at.variable + variables_in statement;
  table = at.table;
}

-- behind a statement that holds no block of states
abbrev pub leaf_behind : StatementTree → Standing → Standing
leaf_behind (argument_array line name bits extents) at = argument_passed at
leaf_behind (local_array line name extents bits) at = declared name at
leaf_behind (local_stream line name bits size) at = declared name at
leaf_behind statement at = item_behind statement at

-- the newest variable is no longer in force
abbrev pub without_loop_variable : Standing → Standing
without_loop_variable at = record {
  state = at.state;
  container = at.container;
  variable = at.variable;
  table = record { containers = at.table.containers; variables = without_newest at.table.variables; all = at.table.all };
}
