use Rattle.std.proofs.Common.{ap, arith, FitsSigned}
use Rattle.std.specs.Int.{w64}
use Rattle.std.proofs.lemmas.Int.{to_z-of_z}
use Rattle.sd_num.specs.declared.width.Width.TheVariants.{W32, W64}
use Rattle.sd_work.specs.Memory.{array}
use Rattle.sd_work.specs.Change.{written}
use Rattle.sd_mem.proofs.mem_lemmas.Held.{one_written, changed_none}
use Rattle.sd_mem.proofs.mem.cells.Cells.set.Goals as goal

pub returns-then-place-len : goal.returns-then-place-len
returns-then-place-len c =
    let value_fits : FitsSigned w64 c.args.value = c.ranges.value in
    let is = simp to_z-of_z at c.write_to.ensures in
    rw c.in-W32.is (ap (array W32) (one_written c.in-W32.cells.items c.args.place c.write_to.new.cell c.index_mut.result.now (written W32 c.args.by c.args.value) c.index_mut.ensures.value is))

pub returns-else-place-len : goal.returns-else-place-len
returns-else-place-len c =
    rw c.in-W32.is (ap (array W32) (changed_none (written W32 c.args.by c.args.value) c.in-W32.cells.items c.args.place (omega (arith, c.if-place-len.false))))

pub returns-then-place-len-2 : goal.returns-then-place-len-2
returns-then-place-len-2 c =
    let value_fits : FitsSigned w64 c.args.value = c.ranges.value in
    let is = simp to_z-of_z at c.write_to-then-place-len-2.ensures in
    rw c.in-W64.is (ap (array W64) (one_written c.in-W64.cells.items c.args.place c.write_to-then-place-len-2.new.cell c.index_mut-then-place-len-2.result.now (written W64 c.args.by c.args.value)
    c.index_mut-then-place-len-2.ensures.value is))

pub returns-else-place-len-2 : goal.returns-else-place-len-2
returns-else-place-len-2 c =
    rw c.in-W64.is (ap (array W64) (changed_none (written W64 c.args.by c.args.value) c.in-W64.cells.items c.args.place (omega (arith, c.if-place-len-2.false))))
