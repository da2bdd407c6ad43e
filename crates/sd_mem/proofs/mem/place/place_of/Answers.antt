use Rattle.std.proofs.Common.{◌<◌, length, sym, ◌∙◌, arith, pos}
use Rattle.sd_graph.specs.RowOrder.{row_number}
use Rattle.sd_graph.proofs.RowNumbers.{row_number_below}
use Rattle.sd_mem.proofs.mem_lemmas.Places.{inside-length, left-drop}
use Rattle.sd_mem.proofs.mem.place.place_of.Goals as goal

pub loop-i-init : goal.loop-i-init
loop-i-init c =
    let is_inside = sym c.contains.ensures ∙ c.if-not-contains.false in
    record { same = inside-length c.args.shape.now c.args.index.now is_inside; left = is_inside; place = omega arith }

pub further-place-requires : goal.further-place-requires
further-place-requires c =
    let within : c.loop-i.i < length c.args.index.now = omega (arith, c.loop-i.invariant.same, c.loop-i-test.true) in
    let is_inside = sym c.contains.ensures ∙ c.if-not-contains.false in
    let next = left-drop c.args.shape.now c.args.index.now c.loop-i.i 0 (pos 0) c.loop-i.place (row_number c.args.shape.now c.args.index.now) c.loop-i-test.true within c.loop-i.invariant.left c.loop-i.invariant.place in
    omega (arith, next.within, row_number_below c.args.shape.now c.args.index.now is_inside, c.requires)

pub loop-i-preserved : goal.loop-i-preserved
loop-i-preserved c =
    let within : c.loop-i.i < length c.args.index.now = omega (arith, c.loop-i.invariant.same, c.loop-i-test.true) in
    let next = left-drop c.args.shape.now c.args.index.now c.loop-i.i 0 (pos 0) c.loop-i.place (row_number c.args.shape.now c.args.index.now) c.loop-i-test.true within c.loop-i.invariant.left c.loop-i.invariant.place in
    record { same = c.loop-i.invariant.same; left = next.inside; place = rw c.further-place.ensures next.further }
