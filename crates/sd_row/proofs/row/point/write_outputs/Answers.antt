use Rattle.std.proofs.Common.{◌≡◌, ◌+◌, ◌<◌, ℤ, None, length, get_or, refl, ap, ◌∙◌, arith, w64, FitsSigned, to_z, of_z}
use Rattle.std.proofs.lemmas.Int.{to_z-of_z}
use Rattle.std.proofs.lemmas.List.{get_or_default}
use Rattle.sd_work.specs.Memory.{Reference}
use Rattle.sd_work.specs.Change.{write, apply}
use Rattle.sd_tcode.specs.tcode.Held.{output_of}
use Rattle.sd_leaves.proofs.leaves_lemmas.Doing.{none_done, member_done, members_done, write_goes}
use Rattle.sd_row.specs.declared.row.row.Write.{Write}
use Rattle.sd_row.specs.row.Row.{write_on, reference_on}
use Rattle.sd_row.proofs.row_lemmas.Filled.{made_at}
use Rattle.sd_row.proofs.row_lemmas.Instances.{over_written}
use Rattle.sd_row.proofs.row.point.write_outputs.Goals as goal

pub output-value-requires : goal.output-value-requires
output-value-requires c =
    made_at (λ connector. c.args.frame.now.variables + connector < length c.args.frame.now.registers.items) (λ write. write.connector) c.args.writes.now c.loop-write.write-index (get_or c.args.writes.now c.loop-write.write-index _)
    c.requires.outputs c.loop-write-test.true (get_or_default c.args.writes.now c.loop-write.write-index _ _ c.loop-write-test.true)

pub loop-write-init : goal.loop-write-init
loop-write-init c = record {
  left = none_done _ c.args.machine.now c.args.machine.now;
  own = λ own bare over. over;
}

pub loop-write-preserved : goal.loop-write-preserved
loop-write-preserved c =
    let frame = c.args.frame.now in
    let writes = c.args.writes.now in
    let number = c.loop-write.write-index in
    let old = c.loop-write.machine in
    let new = c.write.new.self in
    let member : Write = get_or writes number _ in
    let to : Reference = reference_on member.to c.args.k in
    let value : ℤ = output_of frame member.connector in
    let fits : FitsSigned w64 c.output-value.result = record { sfits = c.output-value.type_inv } in
    let same : new.memories ≡ apply (write to member.by value) old.memories =
    c.write.ensures.memories ∙ ap (λ (r : Reference). apply (write r member.by (to_z w64 (of_z w64 c.output-value.result))) old.memories) c.cell.ensures
    ∙ ap (λ v. apply (write to member.by v) old.memories) (to_z-of_z w64 c.output-value.result fits ∙ c.output-value.ensures) in
    record {
      left = member_done (write_on (output_of frame) c.args.k) writes c.args.machine.now old new number member c.loop-write-test.true (get_or_default writes number _ _ c.loop-write-test.true)
          c.loop-write.invariant.left None (write_goes member.by old value to new same c.write.ensures.turns) refl;
      own = λ own bare over. over_written own old new to member.by value bare same (c.loop-write.invariant.own own bare over);
    }

pub returns-clause-done : goal.returns-clause-done
returns-clause-done c =
    members_done (write_on (output_of c.args.frame.now) c.args.k) c.args.writes.now c.args.machine.now c.loop-write.machine c.loop-write.write-index (omega arith) c.loop-write.invariant.left
