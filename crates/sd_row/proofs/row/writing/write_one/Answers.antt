use Rattle.std.proofs.Common.{◌≡◌, [], ◌∷◌, None, FitsSigned, w64, to_z, of_z, sym, ap, ◌∙◌, subst, arith, rules}
use Rattle.std.proofs.lemmas.Int.{to_z-of_z}
use Rattle.sd_work.specs.Memory.{Reference, look}
use Rattle.sd_work.specs.Change.{apply, became, write}
use Rattle.sd_row.specs.row.Row.{reference_on}
use Rattle.sd_row.specs.row.Block.{after_points, column_value}
use Rattle.sd_row.proofs.row_lemmas.Folds.{nothing_new, fold_on}
use Rattle.sd_row.proofs.row.writing.write_one.Goals as goal

pub loop-run-init : goal.loop-run-init
loop-run-init c =
    let memories = c.args.machine.now.memories in
    let held = c.look-held.result in
    let fits : FitsSigned w64 held = record { sfits = c.look-held.type_inv } in
    let same : to_z w64 (of_z w64 held) ≡ held = to_z-of_z w64 held fits in
    nothing_new (reference_on c.args.write.now.to c.args.from) (to_z w64 (of_z w64 held)) memories c.requires.bits
    (same ∙ c.look-held.ensures ∙ ap (λ (r : Reference). look r memories) c.cell-cell.ensures)
    (subst (FitsSigned w64) (sym same) fits)

pub loop-run-preserved : goal.loop-run-preserved
loop-run-preserved c =
    let to = c.args.write.now in
    let value = c.value-value.result in
    let new = c.written-held.result in
    let value_fits : FitsSigned w64 value = record { sfits = c.value-value.type_inv } in
    let new_fits : FitsSigned w64 new = record { sfits = c.written-held.type_inv } in
    let held = to_z w64 c.loop-run.held-bits in
    let held_fits : FitsSigned w64 held = search rules in
    let value_same : to_z w64 (of_z w64 value) ≡ value = to_z-of_z w64 value value_fits in
    let new_same : to_z w64 (of_z w64 new) ≡ new = to_z-of_z w64 new new_fits in
    fold_on (column_value c.args.first c.args.columns.now) to c.args.from c.loop-run.run c.args.machine.now.memories held (to_z w64 (of_z w64 new)) c.requires.still c.requires.bits
    held_fits (subst (FitsSigned w64) c.value-value.ensures value_fits) (subst (FitsSigned w64) (sym new_same) new_fits)
    (new_same ∙ c.written-held.ensures ∙ ap (became to.by held) (value_same ∙ c.value-value.ensures))
    c.loop-run.invariant

pub returns-clause-memories : goal.returns-clause-memories
returns-clause-memories c =
    let memories = c.args.machine.now.memories in
    let all : c.loop-run.run ≡ c.args.count = omega (arith, c.loop-run-test.false, c.loop-run.auto.run-end) in
    c.write.ensures.memories
    ∙ ap (λ (r : Reference). apply (write r None (to_z w64 c.loop-run.held-bits)) memories) c.cell-cell.ensures
    ∙ c.loop-run.invariant
    ∙ ap (λ count. after_points (column_value c.args.first c.args.columns.now) (c.args.write.now ∷ []) c.args.from count memories) all
