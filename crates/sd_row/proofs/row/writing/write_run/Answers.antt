use Rattle.std.proofs.Common.{◌≡◌, ◌+◌, ◌<◌, get_or, sym, ap, ◌∙◌, arith, w64, FitsSigned, to_z, of_z}
use Rattle.std.proofs.lemmas.Int.{to_z-of_z}
use Rattle.std.proofs.lemmas.List.{get_or_default}
use Rattle.sd_work.specs.Memory.{Reference}
use Rattle.sd_work.specs.Change.{write, apply}
use Rattle.sd_tcode.specs.columns.Columns.{register_count}
use Rattle.sd_row.specs.declared.row.row.Write.{Write}
use Rattle.sd_row.specs.row.Row.{reference_on}
use Rattle.sd_row.specs.row.Block.{column_value}
use Rattle.sd_row.proofs.row_lemmas.Filled.{made_at}
use Rattle.sd_row.proofs.row_lemmas.Blocks.{writes_on, writes_end}
use Rattle.sd_row.proofs.row.writing.write_run.Goals as goal

pub value-value-requires-clause-register : goal.value-value-requires-clause-register
value-value-requires-clause-register c =
    made_at (λ connector. c.args.first + connector < register_count c.args.columns.now) (λ write. write.connector) c.args.writes.now c.loop-write.write-index (get_or c.args.writes.now c.loop-write.write-index _)
    c.requires.outputs c.loop-write-test.true (get_or_default c.args.writes.now c.loop-write.write-index _ _ c.loop-write-test.true)

pub loop-write-preserved : goal.loop-write-preserved
loop-write-preserved c =
    let value = column_value c.args.first c.args.columns.now c.args.run in
    let writes = c.args.writes.now in
    let number = c.loop-write.write-index in
    let old = c.loop-write.machine in
    let new = c.write.new.self in
    let member : Write = get_or writes number _ in
    let to : Reference = reference_on member.to c.args.k in
    let fits : FitsSigned w64 c.value-value.result = record { sfits = c.value-value.type_inv } in
    let same : new.memories ≡ apply (write to member.by (value member.connector)) old.memories =
    c.write.ensures.memories ∙ ap (λ (r : Reference). apply (write r member.by (to_z w64 (of_z w64 c.value-value.result))) old.memories) c.cell.ensures
    ∙ ap (λ v. apply (write to member.by v) old.memories) (to_z-of_z w64 c.value-value.result fits ∙ c.value-value.ensures) in
    record {
      left = c.loop-write.invariant.left ∙ writes_on value c.args.k writes number member old.memories new.memories c.loop-write-test.true (get_or_default writes number _ _ c.loop-write-test.true) same;
      turns = c.write.ensures.turns ∙ c.loop-write.invariant.turns;
    }

pub returns-clause-memories : goal.returns-clause-memories
returns-clause-memories c =
    let value = column_value c.args.first c.args.columns.now c.args.run in
    sym (c.loop-write.invariant.left ∙ writes_end value c.args.k c.args.writes.now c.loop-write.write-index c.loop-write.machine.memories (omega arith))
