-- The kind of a statement's item, if it has one.
use Rattle.std.specs.Prelude.{ℕ, nat_abs, [], option_map, Option, Some, None, Bool, codes}
use Rattle.sd_lex.specs.PlainTree.{StatementTree, assign, copy, reduce, map_scope, tasklet, consume_scope, call}
use Rattle.sd_graph.specs.PlainTree as plain
use Rattle.sd_graph.specs.PlainTree.{KindTree, ItemTrees, GraphTree}
use Rattle.sd_graph.specs.TreeParts.{containers_of}
use Rattle.sd_program.specs.Names.{Name}
use Rattle.sd_task.specs.task.Table.{Table}
use Rattle.sd_task.specs.task.Links.{subset_link, resolution_of}
use Rattle.sd_task.specs.task.ElementCode.{element_task}
use Rattle.sd_task.specs.tasklets.Item.{tasklet_item}
use Rattle.sd_elab.specs.items.Items.{call_links}
use Rattle.sd_elab.specs.items.Scopes.{map_kind, consume_kind}

-- no item, or one of this line
abbrev pub item_if_any : (line : ℕ) → Option KindTree → ItemTrees
item_if_any line None = plain.no_item
item_if_any line (Some kind) = plain.and_item line kind plain.no_item

-- of a copy and a reduction, which move elements alone
abbrev pub moving_kind : Table → StatementTree → Option KindTree
moving_kind table (copy line to to_dimensions from from_dimensions) =
    Some (plain.copy (subset_link table (codes "from") from from_dimensions) (subset_link table (codes "to") to to_dimensions))
moving_kind table (reduce line lambda from to axis identity) =
    Some (plain.reduction (resolution_of lambda) (option_map nat_abs axis) identity (subset_link table (codes "from") from []) (subset_link table (codes "to") to []))
moving_kind table statement = None

-- calls are of these graphs
module _ (graphs : Name → GraphTree) where
  -- of a statement that is no scope
  abbrev pub leaf_kind : Table → (in_scope : Bool) → StatementTree → Option KindTree
  leaf_kind table in_scope (assign line name at add value) = Some (element_task table in_scope name at add value)
  leaf_kind table in_scope (tasklet line body) = Some (tasklet_item table body)
  leaf_kind table in_scope (call line name arguments) = Some (plain.nested_graph (graphs name) (call_links table arguments (containers_of (graphs name))))
  leaf_kind table in_scope statement = moving_kind table statement

  -- of each statement; the next container and variable have these numbers
  abbrev pub kind_of : StatementTree → (in_scope : Bool) → Table → (container variable : ℕ) → Option KindTree
  kind_of (map_scope line parameters ranges body) in_scope table container variable = Some (map_kind graphs table parameters ranges body container variable)
  kind_of (consume_scope line stream size name element worker body) in_scope table container variable =
      Some (consume_kind graphs table line stream element body container variable)
  kind_of statement in_scope table container variable = leaf_kind table in_scope statement
