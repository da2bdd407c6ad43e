-- What the code keeps of names, as a table.
use Rattle.std.specs.Prelude.{map}
use Rattle.sd_graph.specs.TreeFold.{named_container}
use Rattle.sd_task.specs.task.Table.{Table}
use Rattle.sd_task.specs.declared.task.names.Names.{Names}

abbrev pub table_of : Names → Table
table_of names = record { containers = names.containers; variables = names.variables; all = map named_container names.all.entries }
