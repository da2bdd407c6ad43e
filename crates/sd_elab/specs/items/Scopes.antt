-- What the items of scopes are, by their parts.
use Rattle.std.specs.Prelude.{ℕ, ◌+◌, List, ◌∷◌, length, cond, false}
use Rattle.sd_lex.specs.PlainTree.{Dimension, Block}
use Rattle.sd_lex.specs.StatementKind.{has_connector}
use Rattle.sd_graph.specs.PlainTree as plain
use Rattle.sd_graph.specs.PlainTree.{KindTree, ItemTrees, GraphTree}
use Rattle.sd_program.specs.Names.{Name}
use Rattle.sd_task.specs.in_force.Ranges.{parameters_of}
use Rattle.sd_task.specs.task.Table.{Table, with_container, with_variables, container_number}
use Rattle.sd_task.specs.tasklets.Item.{task_with, inputs_of, outputs_of}
use Rattle.sd_elab.specs.items.Items.{taken_link, items_of_body}
use Rattle.sd_elab.specs.items.NamesBehind.{own_of}

-- the tasklet that a consume scope is: its first input is the element of this number
abbrev pub taking_task : Table → (element : Name) → (container : ℕ) → Block → KindTree
taking_task table element container body = task_with table (taken_link element container ∷ inputs_of table body) (outputs_of table body) body

module _ (graphs : Name → GraphTree) where
  -- the items of a consume scope whose element is the container of this number; the numbers are those of its block
  abbrev pub consumed_items : Table → (line : ℕ) → (element : Name) → (taken : ℕ) → Block → (container variable : ℕ) → ItemTrees
  consumed_items table line element taken body container variable =
      cond (has_connector body) (plain.and_item line (taking_task table element taken body) plain.no_item)
      (items_of_body graphs body (with_container element taken table) container variable)

  abbrev pub consume_kind : Table → (line : ℕ) → (stream element : Name) → Block → (container variable : ℕ) → KindTree
  consume_kind table line stream element body container variable =
      plain.consume_scope (container_number table stream) container (own_of body (container + 1))
      (consumed_items table line element container body (container + 1) variable)

  abbrev pub map_kind : Table → (parameters : List Name) → List Dimension → Block → (container variable : ℕ) → KindTree
  map_kind table parameters ranges body container variable =
      plain.map_scope false (parameters_of table.variables ranges variable) (own_of body container)
      (items_of_body graphs body (with_variables parameters variable table) container (variable + length parameters))
