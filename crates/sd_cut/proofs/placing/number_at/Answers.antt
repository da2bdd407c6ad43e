use Rattle.std.proofs.Common.{rules, ◌<◌, ◌≡◌, ◌+ℤ◌, length, slice_index_or, unsigned_abs, refl, sym, ap, ◌∙◌, arith, pos, FitsSigned, to_z-of_z}
use Rattle.std.specs.Int.{w128}
use Rattle.sd_graph.specs.RowOrder.{row_number}
use Rattle.sd_graph.proofs.RowNumbers.{row_number_below}
use Rattle.sd_mem.proofs.mem_lemmas.Places.{left-drop}
use Rattle.sd_windows.specs.Windows.{moved}
use Rattle.sd_cut.specs.Placing.{number_below, number_or_zero}
use Rattle.sd_cut.proofs.PlacingLemmas.{moved-length, moved-at, inside-at, number-is}
use Rattle.sd_cut.proofs.placing.number_at.Goals as goal

pub further-place-requires : goal.further-place-requires
further-place-requires c =
    let i = c.loop-i.i in
    let index = moved c.args.shift.now c.args.index.now in
    let s = slice_index_or c.args.shift.now i (pos 0) in
    let n = slice_index_or c.args.index.now i (pos 0) in
    let e = slice_index_or c.args.extents.now i 0 in
    let s_fits : FitsSigned w128 s = search rules in
    let n_fits : FitsSigned w128 n = search rules in
    let number : c.number_or.result ≡ number_or_zero (number_below s n e) = simp to_z-of_z at c.number_or.ensures in
    let count = moved-length c.args.shift.now c.args.index.now in
    let within : i < length index = omega (arith, c.loop-i-test.true, count, c.requires.all) in
    let moved_so = moved-at c.args.shift.now c.args.index.now i (omega (arith, c.loop-i-test.true, c.requires.all)) (omega (arith, c.loop-i-test.true, c.requires.all, c.requires.same)) in
    let is = number ∙ number-is s n e (inside-at c.args.extents.now index i e (s +ℤ n) c.loop-i-test.true within c.requires.inside refl moved_so) ∙ ap unsigned_abs (sym moved_so) in
    let next = left-drop c.args.extents.now index i 0 (pos 0) c.loop-i.place (row_number c.args.extents.now index) c.loop-i-test.true within c.loop-i.invariant.left c.loop-i.invariant.place in
    omega (arith, next.within, is, row_number_below c.args.extents.now index c.requires.inside, c.requires.small)

pub loop-i-preserved : goal.loop-i-preserved
loop-i-preserved c =
    let i = c.loop-i.i in
    let index = moved c.args.shift.now c.args.index.now in
    let s = slice_index_or c.args.shift.now i (pos 0) in
    let n = slice_index_or c.args.index.now i (pos 0) in
    let e = slice_index_or c.args.extents.now i 0 in
    let s_fits : FitsSigned w128 s = search rules in
    let n_fits : FitsSigned w128 n = search rules in
    let number : c.number_or.result ≡ number_or_zero (number_below s n e) = simp to_z-of_z at c.number_or.ensures in
    let count = moved-length c.args.shift.now c.args.index.now in
    let within : i < length index = omega (arith, c.loop-i-test.true, count, c.requires.all) in
    let moved_so = moved-at c.args.shift.now c.args.index.now i (omega (arith, c.loop-i-test.true, c.requires.all)) (omega (arith, c.loop-i-test.true, c.requires.all, c.requires.same)) in
    let is = number ∙ number-is s n e (inside-at c.args.extents.now index i e (s +ℤ n) c.loop-i-test.true within c.requires.inside refl moved_so) ∙ ap unsigned_abs (sym moved_so) in
    let next = left-drop c.args.extents.now index i 0 (pos 0) c.loop-i.place (row_number c.args.extents.now index) c.loop-i-test.true within c.loop-i.invariant.left c.loop-i.invariant.place in
    record { left = next.inside; place = rw (c.further-place.ensures, is) next.further }
