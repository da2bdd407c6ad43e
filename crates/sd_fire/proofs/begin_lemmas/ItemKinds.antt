-- What an item of the code is in the plain tree.
use Rattle.std.proofs.Common.{◌≡◌, ℕ, ℤ, Bool, Option, Result, IfOk, sym, subst, Vec, Box}
use Rattle.std.specs.declared.alloc.Global.{Global}
use Rattle.sd_num.specs.declared.resolution.Resolution.{Resolution}
use Rattle.sd_range.specs.declared.range.Range.{Range}
use Rattle.sd_graph.specs.PlainTree.{KindTree, task, map_scope, consume_scope, nested_graph, reduction, copy, GraphTree}
use Rattle.sd_graph.specs.TreeFold.{PlainItem, PlainState, kind_step, item_step, graph_step, state_step, kind_tree, item_tree, item_trees, graph_tree, tasklet_tree}
use Rattle.sd_graph.specs.declared.graph.Item.{Item}
use Rattle.sd_graph.specs.declared.graph.Sdfg.{Sdfg}
use Rattle.sd_graph.specs.declared.graph.ItemKind as shape
use Rattle.sd_graph.specs.declared.graph.ItemKind.TheOpen as layer
use Rattle.sd_graph.specs.declared.graph.ItemKind.TheViews.{out-Item}
use Rattle.sd_graph.specs.declared.graph.ItemKind.TheFolds.{fold-roll-ItemKind, fold_out-Item}
use Rattle.sd_graph.specs.declared.link.Link.{Link}
use Rattle.sd_graph.specs.declared.tasklet.Tasklet.{Tasklet}
use Rattle.sd_graph.specs.Context.{Context}
use Rattle.sd_left.specs.declared.left.left.Left.{Left as LeftNow}
use Rattle.sd_fire.specs.begin.Begun.{IsItemBegun}

pub task_kind : (code : Tasklet) (ins outs : Vec Link Global) → kind_tree (shape.Task code ins outs) ≡ task (tasklet_tree code) ins.items outs.items
unfolding shape.roll-ItemKind denote.Hole.Carrier.roll
task_kind code ins outs = fold-roll-ItemKind KindTree PlainItem GraphTree PlainState kind_step item_step graph_step state_step (layer.Task code ins outs)

pub map_kind : (params : Vec (ℕ × Range) Global) (private : Vec ℕ Global) (body : Vec Item Global) (sequential : Bool) → kind_tree (shape.Map params private body sequential) ≡ map_scope sequential params.items private.items (item_trees body.items)
unfolding shape.roll-ItemKind denote.Hole.Carrier.roll
map_kind params private body sequential = fold-roll-ItemKind KindTree PlainItem GraphTree PlainState kind_step item_step graph_step state_step (layer.Map params private body sequential)

pub consume_kind : (stream element : ℕ) (private : Vec ℕ Global) (body : Vec Item Global) → kind_tree (shape.Consume stream element private body) ≡ consume_scope stream element private.items (item_trees body.items)
unfolding shape.roll-ItemKind denote.Hole.Carrier.roll
consume_kind stream element private body = fold-roll-ItemKind KindTree PlainItem GraphTree PlainState kind_step item_step graph_step state_step (layer.Consume stream element private body)

pub nested_kind : (inner : Box Sdfg Global) (links : Vec Link Global) → kind_tree (shape.Nested inner links) ≡ nested_graph (graph_tree inner.value) links.items
unfolding shape.roll-ItemKind denote.Hole.Carrier.roll
nested_kind inner links = fold-roll-ItemKind KindTree PlainItem GraphTree PlainState kind_step item_step graph_step state_step (layer.Nested inner links)

pub reduce_kind : (resolution : Resolution) (axis : Option ℕ) (identity : Option ℤ) (from to : Link) → kind_tree (shape.Reduce resolution axis identity from to) ≡ reduction resolution axis identity from to
unfolding shape.roll-ItemKind denote.Hole.Carrier.roll
reduce_kind resolution axis identity from to = fold-roll-ItemKind KindTree PlainItem GraphTree PlainState kind_step item_step graph_step state_step (layer.Reduce resolution axis identity from to)

pub copy_kind : (from to : Link) → kind_tree (shape.Copy from to) ≡ copy from to
unfolding shape.roll-ItemKind denote.Hole.Carrier.roll
copy_kind from to = fold-roll-ItemKind KindTree PlainItem GraphTree PlainState kind_step item_step graph_step state_step (layer.Copy from to)

-- an item: its line and what it does
pub item_opened : (item : Item) → item_tree item ≡ ((out-Item item).line, kind_tree (out-Item item).kind)
item_opened = fold_out-Item KindTree PlainItem GraphTree PlainState kind_step item_step graph_step state_step

-- an item that begins, whatever its kind is called
pub as-kind : {E : Type 0} (result : Result LeftNow E) (kind other : KindTree) (line : ℕ) (context : Context) → kind ≡ other →
    IfOk result (IsItemBegun other line context) → IfOk result (IsItemBegun kind line context)
as-kind result kind other line context same begun = subst (λ (k : KindTree). IfOk result (IsItemBegun k line context)) (sym same) begun
