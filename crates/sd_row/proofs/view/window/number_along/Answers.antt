use Rattle.std.proofs.Common.{◌≡◌, ◌+◌, ◌*◌, ◌≤◌, drop, get_or, slice_index_or, pos, unsigned_abs, FitsSigned, sym, ◌∙◌, arith, rules}
use Rattle.std.specs.Int.{w64}
use Rattle.std.proofs.lemmas.Int.{to_z-of_z}
use Rattle.sd_row.specs.view.View.{along}
use Rattle.sd_row.proofs.view_lemmas.Box.{grows}
use Rattle.sd_row.proofs.view_lemmas.Finding.{along_step, along_end}
use Rattle.sd_row.proofs.view.window.number_along.Goals as goal

pub overflow_mul-number : goal.overflow_mul-number
overflow_mul-number c =
    let dim = c.loop-dim.dim in
    let stride = slice_index_or c.args.strides.now dim 0 in
    let fits : FitsSigned w64 (get_or c.args.at.now dim (pos 0)) = search rules in
    let size : c.unsigned_abs.result ≡ unsigned_abs (get_or c.args.at.now dim (pos 0)) = simp to_z-of_z at c.unsigned_abs.ensures.value in
    let step = along_step c.loop-dim.number c.args.strides.now c.args.at.now dim c.loop-dim-test.true in
    let low = grows (drop (dim + 1) c.args.strides.now) (drop (dim + 1) c.args.at.now) (c.loop-dim.number + stride * unsigned_abs (get_or c.args.at.now dim (pos 0))) in
    rw (c.stride_of.ensures, size) (omega (arith, step, low, c.loop-dim.invariant, c.requires))

pub overflow_add-number : goal.overflow_add-number
overflow_add-number c =
    let dim = c.loop-dim.dim in
    let stride = slice_index_or c.args.strides.now dim 0 in
    let fits : FitsSigned w64 (get_or c.args.at.now dim (pos 0)) = search rules in
    let size : c.unsigned_abs.result ≡ unsigned_abs (get_or c.args.at.now dim (pos 0)) = simp to_z-of_z at c.unsigned_abs.ensures.value in
    let step = along_step c.loop-dim.number c.args.strides.now c.args.at.now dim c.loop-dim-test.true in
    let low = grows (drop (dim + 1) c.args.strides.now) (drop (dim + 1) c.args.at.now) (c.loop-dim.number + stride * unsigned_abs (get_or c.args.at.now dim (pos 0))) in
    rw (c.stride_of.ensures, size) (omega (arith, step, low, c.loop-dim.invariant, c.requires))

pub loop-dim-preserved : goal.loop-dim-preserved
loop-dim-preserved c =
    let dim = c.loop-dim.dim in
    let fits : FitsSigned w64 (get_or c.args.at.now dim (pos 0)) = search rules in
    let size : c.unsigned_abs.result ≡ unsigned_abs (get_or c.args.at.now dim (pos 0)) = simp to_z-of_z at c.unsigned_abs.ensures.value in
    let step = along_step c.loop-dim.number c.args.strides.now c.args.at.now dim c.loop-dim-test.true in
    rw (c.stride_of.ensures, size) (sym step ∙ c.loop-dim.invariant)

pub returns : goal.returns
returns c = sym (along_end c.loop-dim.number c.args.strides.now c.args.at.now c.loop-dim.dim (omega arith)) ∙ c.loop-dim.invariant
