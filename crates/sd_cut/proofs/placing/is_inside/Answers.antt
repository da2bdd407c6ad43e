use Rattle.std.proofs.Common.{rules, ◌≡◌, ◌+ℤ◌, slice_index_or, refl, sym, ◌∙◌, arith, pos, FitsSigned, to_z-of_z}
use Rattle.std.specs.Int.{w128}
use Rattle.sd_windows.specs.Windows.{moved}
use Rattle.sd_cut.specs.Placing.{number_below}
use Rattle.sd_cut.proofs.PlacingLemmas.{moved-length, moved-at, outside-at, inside-next, all-inside, below-not, below-yes}
use Rattle.sd_cut.proofs.placing.is_inside.Goals as goal

pub returns-in-None : goal.returns-in-None
returns-in-None c =
    let i = c.loop-i.i in
    let index = moved c.args.shift.now c.args.index.now in
    let s = slice_index_or c.args.shift.now i (pos 0) in
    let n = slice_index_or c.args.index.now i (pos 0) in
    let e = slice_index_or c.args.extents.now i 0 in
    let s_fits : FitsSigned w128 s = search rules in
    let n_fits : FitsSigned w128 n = search rules in
    let below : c.moved_number.result ≡ number_below s n e = simp to_z-of_z at c.moved_number.ensures in
    let count = moved-length c.args.shift.now c.args.index.now in
    outside-at c.args.extents.now index i e (s +ℤ n) c.loop-i-test.true (omega (arith, c.loop-i-test.true, count, c.requires.all)) refl
    (moved-at c.args.shift.now c.args.index.now i (omega (arith, c.loop-i-test.true, c.requires.all)) (omega (arith, c.loop-i-test.true, c.requires.all, c.requires.same)))
    (below-not s n e (sym below ∙ c.in-None.is))

pub loop-i-preserved : goal.loop-i-preserved
loop-i-preserved c =
    let i = c.loop-i.i in
    let index = moved c.args.shift.now c.args.index.now in
    let s = slice_index_or c.args.shift.now i (pos 0) in
    let n = slice_index_or c.args.index.now i (pos 0) in
    let e = slice_index_or c.args.extents.now i 0 in
    let s_fits : FitsSigned w128 s = search rules in
    let n_fits : FitsSigned w128 n = search rules in
    let below : c.moved_number.result ≡ number_below s n e = simp to_z-of_z at c.moved_number.ensures in
    let count = moved-length c.args.shift.now c.args.index.now in
    inside-next c.args.extents.now index i e (s +ℤ n) c.loop-i-test.true (omega (arith, c.loop-i-test.true, count, c.requires.all)) refl
    (moved-at c.args.shift.now c.args.index.now i (omega (arith, c.loop-i-test.true, c.requires.all)) (omega (arith, c.loop-i-test.true, c.requires.all, c.requires.same)))
    (below-yes s n e c.in-Some.field-0 (sym below ∙ c.in-Some.is))
    ∙ c.loop-i.invariant

pub returns : goal.returns
returns c =
    let same = moved-length c.args.shift.now c.args.index.now ∙ sym c.requires.all in
    sym (all-inside c.args.extents.now (moved c.args.shift.now c.args.index.now) c.loop-i.i same (omega (arith, c.loop-i-test.false))) ∙ c.loop-i.invariant
