use Rattle.std.proofs.Common.{◌+◌, drop, map, ap, sym, ◌∙◌}
use Rattle.sd_graph.specs.TreeFold.{item_trees, named_container}
use Rattle.sd_wire.specs.wiring.Drawing.{with_items}
use Rattle.sd_wire.proofs.wiring_lemmas.ItemLists.{items_more}
use Rattle.sd_wire.proofs.wiring.items.+items.Goals as goal

pub draw_items-loop-item-preserved : goal.draw_items-loop-item-preserved
draw_items-loop-item-preserved t c =
    let containers = map named_container c.args.containers.now.entries in
    let i = c.loop-item.item-index in
    ap (with_items (item_trees (drop (i + 1) c.args.items.now)) containers c.args.scope c.args.own.now) c.in_ok-draw_item.ensures
    ∙ sym (items_more c.args.items.now i c.item-item.result c.loop-item-test.true c.item-item.is containers c.args.scope c.args.own.now c.loop-item.drawing)
    ∙ c.loop-item.invariant
