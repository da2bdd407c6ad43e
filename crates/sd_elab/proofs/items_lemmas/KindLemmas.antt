-- The item of a statement is that of its kind.
use Rattle.std.proofs.Common.{◌≡◌, ℕ, Bool, refl}
use Rattle.sd_lex.specs.PlainTree.{StatementTree, argument_array, local_array, local_stream, assign, copy, reduce, map_scope, tasklet, consume_scope, call, for_loop, while_loop, branch, input, output, set, set_at, tasklet_branch}
use Rattle.sd_lex.specs.StatementKind.{line_of}
use Rattle.sd_graph.specs.PlainTree.{no_item, GraphTree}
use Rattle.sd_program.specs.Names.{Name}
use Rattle.sd_task.specs.task.Table.{Table}
use Rattle.sd_elab.specs.items.Items.{items_with}
use Rattle.sd_elab.specs.items.Kinds.{item_if_any, kind_of}

pub items_by_kind : (graphs : Name → GraphTree) (statement : StatementTree) (in_scope : Bool) (table : Table) (container variable : ℕ) →
    item_if_any (line_of statement) (kind_of graphs statement in_scope table container variable) ≡ items_with graphs statement in_scope table container variable no_item
items_by_kind graphs (argument_array line name bits extents) in_scope table container variable = refl
items_by_kind graphs (local_array line name extents bits) in_scope table container variable = refl
items_by_kind graphs (local_stream line name bits size) in_scope table container variable = refl
items_by_kind graphs (assign line name at add value) in_scope table container variable = refl
items_by_kind graphs (copy line to to_dimensions from from_dimensions) in_scope table container variable = refl
items_by_kind graphs (reduce line lambda from to axis identity) in_scope table container variable = refl
items_by_kind graphs (map_scope line parameters ranges body) in_scope table container variable = refl
items_by_kind graphs (tasklet line body) in_scope table container variable = refl
items_by_kind graphs (consume_scope line stream size name element worker body) in_scope table container variable = refl
items_by_kind graphs (call line name arguments) in_scope table container variable = refl
items_by_kind graphs (for_loop line name begin end step body) in_scope table container variable = refl
items_by_kind graphs (while_loop line when body) in_scope table container variable = refl
items_by_kind graphs (branch line when body other) in_scope table container variable = refl
items_by_kind graphs (input line connector memlet) in_scope table container variable = refl
items_by_kind graphs (output line connector memlet) in_scope table container variable = refl
items_by_kind graphs (set line name value) in_scope table container variable = refl
items_by_kind graphs (set_at line name at value) in_scope table container variable = refl
items_by_kind graphs (tasklet_branch line when body other) in_scope table container variable = refl
