use Rattle.std.proofs.Common.{◌≡◌, drop, map}
use Rattle.sd_graph.specs.TreeFold.{item_trees, named_container}
use Rattle.sd_wire.specs.wiring.Drawing.{with_items}
use Rattle.sd_wire.proofs.wiring.items.+items.Given as goal

-- what is drawn so far, with what is left
abbrev pub invariant-draw_items-loop-item : goal.invariant-draw_items-loop-item
invariant-draw_items-loop-item l = with_items (item_trees (drop l.item-index l.items)) (map named_container l.containers.entries) l.scope l.own l.drawing
    ≡ with_items (item_trees l.items) (map named_container l.containers.entries) l.scope l.own l.initial.drawing
