use Rattle.std.proofs.Common.{◌+◌, ℕ, ℤ, ◌*ℤ◌, map, w64, to_z, of_z}
use Rattle.std.proofs.lemmas.Int.{to_z-of_z}
use Rattle.sd_num.specs.Wrapped.{wrapped}
use Rattle.sd_tcode.specs.columns.Products.{element_on}
use Rattle.sd_row.specs.row.Point.{seen_on}
use Rattle.sd_row.proofs.row_lemmas.Sums.{elements_seen, same_sums}
use Rattle.sd_row.proofs.row.products.add_elements.Goals as goal

pub returns-in-W32 : goal.returns-in-W32
returns-in-W32 g c =
    let right = c.args.right.now in
    let memories = c.args.machine.now.memories in
    let cells = c.in-W32.cells.now in
    let at : ℕ → ℤ = λ run. element_on (map g.L.Cell.element c.args.left.now) c.args.lefts.now (c.args.from + run) in
    same_sums (λ run. wrapped (at run *ℤ element_on (map (λ cell. cell) cells) right.elements (c.args.from + run))) (λ run. wrapped (at run *ℤ seen_on (c.args.from + run) memories right))
    (to_z w64 (of_z w64 c.args.number)) c.args.number c.args.count c.add_products.result
    (λ run i. wrapped (at run *ℤ elements_seen right memories cells (c.in-W32.ensures.elements) (c.args.from + run) i)) (to_z-of_z w64 c.args.number c.ranges.number) c.add_products.ensures

pub returns-in-W64 : goal.returns-in-W64
returns-in-W64 g c =
    let right = c.args.right.now in
    let memories = c.args.machine.now.memories in
    let cells = c.in-W64.cells.now in
    let at : ℕ → ℤ = λ run. element_on (map g.L.Cell.element c.args.left.now) c.args.lefts.now (c.args.from + run) in
    same_sums (λ run. wrapped (at run *ℤ element_on (map (λ cell. cell) cells) right.elements (c.args.from + run))) (λ run. wrapped (at run *ℤ seen_on (c.args.from + run) memories right))
    (to_z w64 (of_z w64 c.args.number)) c.args.number c.args.count c.add_products-in-W64.result
    (λ run i. wrapped (at run *ℤ elements_seen right memories cells (c.in-W64.ensures.elements) (c.args.from + run) i)) (to_z-of_z w64 c.args.number c.ranges.number) c.add_products-in-W64.ensures
