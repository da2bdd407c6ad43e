-- A map whose body is one tasklet.
use Rattle.std.specs.Prelude.{ℕ, ℤ, List}
use Rattle.sd_work.specs.Memory.{Memory}
use Rattle.sd_work.specs.BigStep.{Reached, Coming}
use Rattle.sd_graph.specs.PlainTree.{TaskletTree, ItemTrees, task, no_item, and_item}
use Rattle.sd_graph.specs.TreeFold.{graph_tree, tasklet_tree}
use Rattle.sd_graph.specs.Context.{Context, private_memory}
use Rattle.sd_graph.specs.declared.place.Place.{Place}
use Rattle.sd_mem.specs.machine.Coming.{map_coming}
use Rattle.sd_scope.specs.scope.Standing.{context_of}
use Rattle.sd_scope.specs.declared.scope.scope.Scope.{Scope}
use Rattle.sd_row.specs.row.Setting.{Setting}
use Rattle.sd_rows.specs.declared.rows.map.TaskMap.{TaskMap}
use Rattle.sd_rows.specs.declared.rows.steps.Steps.{Steps}
use Rattle.sd_rows.specs.rows.Along.{row_of}

-- the tasklet
abbrev pub tree_of : TaskMap → TaskletTree
tree_of here = tasklet_tree here.tasklet.now

-- where a scope of the graph stands, and where the map does
abbrev pub standing : TaskMap → Scope → Context
standing here scope = context_of (graph_tree here.graph.now) here.base.now scope

abbrev pub context_at : TaskMap → Context
context_at here = standing here here.scope.now

-- the memory with which each point of the map begins
abbrev pub own_memory : TaskMap → Memory
own_memory here = private_memory (context_at here).containers here.private.now

-- the tasklet as the one item of the body
abbrev pub body_of : TaskMap → ItemTrees
body_of here = and_item here.line (task (tree_of here) here.ins.now here.outs.now) no_item

-- what the map comes to from here
abbrev pub coming_of : TaskMap → Reached → (most : ℕ) → Coming Place
coming_of here now = map_coming (body_of here) here.params.now here.private.now (context_at here) now

-- the row whose other parameters have these values
abbrev pub row_at : TaskMap → (row : List ℤ) → Steps → Setting
row_at here row steps = row_of (tree_of here) here.ins.now here.outs.now here.line here.params.now here.private.now (context_at here) row steps
