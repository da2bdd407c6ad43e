use Rattle.std.proofs.Common.{◌≡◌, ◌<◌, ◌∙◌, ap, length, map, true, arith}
use Rattle.std.proofs.lemmas.Grind.{common_steps}
use Rattle.sd_range.specs.Subset.{inside}
use Rattle.sd_graph.specs.RowOrder.{row_number}
use Rattle.sd_graph.proofs.RowNumbers.{row_number_below}
use Rattle.sd_tasklet.proofs.tasklet_lemmas.Places.{inside_count}
use Rattle.sd_tcode.specs.op.Machine.{held, extents_at, cells_at}
use Rattle.sd_tcode.proofs.op_lemmas.Arrays.{was_inside}
use Rattle.sd_tcode.proofs.op.array.element.Goals as goal

below : (c : goal.After-row_number) → c.row_number.result < length c.cells_of.result.now
below c =
    let extents = extents_at (map held c.args.arrays.now) c.args.connector in
    let is_inside : inside extents c.args.at.now ≡ true = was_inside extents c.args.at.now c.in_ok-is_at.ensures in
    let few = c.requires.cells (omega (arith, inside_count extents c.args.at.now is_inside, c.requires.some)) in
    let low = row_number_below extents c.args.at.now is_inside in
    let row : c.row_number.result ≡ row_number extents c.args.at.now = c.row_number.ensures ∙ ap (λ l. row_number l c.args.at.now) c.extents_of.ensures in
    let many : length c.cells_of.result.now ≡ length (cells_at (map held c.args.arrays.now) c.args.connector) = ap length c.cells_of.ensures in
    omega (arith, row, few, low, many)

pub bounds-cells_of-row_number : goal.bounds-cells_of-row_number
bounds-cells_of-row_number c = below c

pub offset_bounds-cells_of-row_number : goal.offset_bounds-cells_of-row_number
offset_bounds-cells_of-row_number c =
    let low = below c in
    grind (arith, common_steps)
