use Rattle.std.proofs.Common.{map, length, refl, ◌∙◌}
use Rattle.sd_graph.specs.TreeFold.{item_trees, named_container}
use Rattle.sd_graph.specs.Wiring.{uses_of_each}
use Rattle.sd_order.proofs.items_lemmas.Telling.{past-all, table-tells}
use Rattle.sd_order.proofs.items.order.order_of.Goals as goal

pub returns : goal.returns
returns c =
    let each = c.as_slice-each.result.now in
    table-tells each (uses_of_each (item_trees c.args.items.now) (map named_container c.args.containers.now.entries)) (record { count = length each; table = c.loop-from.table }) refl
    (past-all each c.loop-from.from c.loop-from.table.items c.loop-from-test.false c.loop-from.invariant) (c.as_slice-each.ensures.value ∙ c.in_ok-each.ensures)
