use Rattle.std.proofs.Common.{◌+◌, ℕ, ℤ, ◌*ℤ◌, map, w64, to_z, of_z}
use Rattle.std.proofs.lemmas.Int.{to_z-of_z}
use Rattle.sd_num.specs.Wrapped.{wrapped}
use Rattle.sd_tcode.specs.columns.Products.{element_on}
use Rattle.sd_row.specs.row.Point.{seen_on}
use Rattle.sd_row.proofs.row_lemmas.Sums.{elements_seen, same_sums}
use Rattle.sd_row.proofs.row.products.add_reads.Goals as goal

pub returns-in-W32 : goal.returns-in-W32
returns-in-W32 c =
    let left = c.args.left.now in
    let memories = c.args.machine.now.memories in
    let cells = c.in-W32.cells.now in
    let at : ℕ → ℤ = λ run. seen_on (c.args.from + run) memories c.args.right.now in
    same_sums (λ run. wrapped (element_on (map (λ cell. cell) cells) left.elements (c.args.from + run) *ℤ at run)) (λ run. wrapped (seen_on (c.args.from + run) memories left *ℤ at run))
    (to_z w64 (of_z w64 c.args.number)) c.args.number c.args.count c.add_elements.result
    (λ run i. wrapped (elements_seen left memories cells (c.in-W32.ensures.elements) (c.args.from + run) i *ℤ at run)) (to_z-of_z w64 c.args.number c.ranges.number) c.add_elements.ensures

pub returns-in-W64 : goal.returns-in-W64
returns-in-W64 c =
    let left = c.args.left.now in
    let memories = c.args.machine.now.memories in
    let cells = c.in-W64.cells.now in
    let at : ℕ → ℤ = λ run. seen_on (c.args.from + run) memories c.args.right.now in
    same_sums (λ run. wrapped (element_on (map (λ cell. cell) cells) left.elements (c.args.from + run) *ℤ at run)) (λ run. wrapped (seen_on (c.args.from + run) memories left *ℤ at run))
    (to_z w64 (of_z w64 c.args.number)) c.args.number c.args.count c.add_elements-in-W64.result
    (λ run i. wrapped (elements_seen left memories cells (c.in-W64.ensures.elements) (c.args.from + run) i *ℤ at run)) (to_z-of_z w64 c.args.number c.ranges.number) c.add_elements-in-W64.ensures
