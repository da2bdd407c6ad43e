-- The items of statements.
use Rattle.std.specs.Prelude.{ℕ, ◌+◌, pos, nat_abs, List, [], ◌∷◌, length, option_map, None, Bool, true, false, cond, codes}
use Rattle.sd_lex.specs.PlainTree.{Dimension, StatementTree, assign, copy, reduce, map_scope, tasklet, consume_scope, call, Block, no_statement, and_statement}
use Rattle.sd_lex.specs.StatementKind.{has_connector}
use Rattle.sd_range.specs.Arithmetic.{affine_zero}
use Rattle.sd_range.specs.declared.subset.Dim.TheVariants.{Index}
use Rattle.sd_graph.specs.PlainTree as plain
use Rattle.sd_graph.specs.PlainTree.{ItemTrees, GraphTree}
use Rattle.sd_graph.specs.TreeParts.{containers_of}
use Rattle.sd_graph.specs.declared.container.Container.{Container}
use Rattle.sd_graph.specs.declared.link.Link.{Link}
use Rattle.sd_program.specs.Names.{Name}
use Rattle.sd_task.specs.in_force.Ranges.{parameters_of}
use Rattle.sd_task.specs.task.Table.{Table, with_container, with_variables, container_number}
use Rattle.sd_task.specs.task.Links.{link_to, subset_link, resolution_of}
use Rattle.sd_program.specs.Declared.{containers_in}
use Rattle.sd_elab.specs.items.Counts.{variables_in}
use Rattle.sd_elab.specs.items.NamesBehind.{own_of, table_behind}
use Rattle.sd_task.specs.task.ElementCode.{element_task}
use Rattle.sd_task.specs.tasklets.Item.{tasklet_item, task_with, inputs_of, outputs_of}

-- the links of a call: each argument, with the callee's parameter as the connector
abbrev pub call_links : Table → List (Name × List Dimension) → List (Name × Container) → List Link
call_links table [] parameters = []
call_links table (argument ∷ arguments) [] = []
call_links table (argument ∷ arguments) (parameter ∷ parameters) = subset_link table parameter.0 argument.0 argument.1 ∷ call_links table arguments parameters

-- the link of the element of a consume scope that is one tasklet
abbrev pub taken_link : Name → (container : ℕ) → Link
taken_link element container = link_to element container (Index affine_zero ∷ []) (pos 1) None

-- calls are of these graphs
module _ (graphs : Name → GraphTree) where
  abbrev mutual
    -- the item of a statement, before these; a declaration is none. The next container and variable have these numbers
    pub items_with : StatementTree → (in_scope : Bool) → Table → (container variable : ℕ) → ItemTrees → ItemTrees
    items_with (assign line name at add value) in_scope table container variable rest = plain.and_item line (element_task table in_scope name at add value) rest
    items_with (copy line to to_dimensions from from_dimensions) in_scope table container variable rest =
        plain.and_item line (plain.copy (subset_link table (codes "from") from from_dimensions) (subset_link table (codes "to") to to_dimensions)) rest
    items_with (reduce line lambda from to axis identity) in_scope table container variable rest =
        plain.and_item line (plain.reduction (resolution_of lambda) (option_map nat_abs axis) identity (subset_link table (codes "from") from []) (subset_link table (codes "to") to [])) rest
    items_with (map_scope line parameters ranges body) in_scope table container variable rest =
        plain.and_item line
        (plain.map_scope false (parameters_of table.variables ranges variable) (own_of body container)
        (items_of_body body (with_variables parameters variable table) container (variable + length parameters)))
        rest
    items_with (tasklet line body) in_scope table container variable rest = plain.and_item line (tasklet_item table body) rest
    items_with (consume_scope line stream size name element worker body) in_scope table container variable rest =
        plain.and_item line
        (plain.consume_scope (container_number table stream) container (own_of body (container + 1))
        (cond (has_connector body) (plain.and_item line (task_with table (taken_link element container ∷ inputs_of table body) (outputs_of table body) body) plain.no_item)
        (items_of_body body (with_container element container table) (container + 1) variable)))
        rest
    items_with (call line name arguments) in_scope table container variable rest =
        plain.and_item line (plain.nested_graph (graphs name) (call_links table arguments (containers_of (graphs name)))) rest
    items_with statement in_scope table container variable rest = rest

    -- the items of a scope's block
    pub items_of_body : Block → Table → (container variable : ℕ) → ItemTrees
    items_of_body no_statement table container variable = plain.no_item
    items_of_body (and_statement first rest) table container variable =
        items_with first true table container variable
        (items_of_body rest (table_behind first container table) (container + containers_in first) (variable + variables_in first))
