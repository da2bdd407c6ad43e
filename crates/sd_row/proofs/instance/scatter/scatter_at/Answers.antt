use Rattle.std.proofs.Common.{w64, FitsSigned, to_z, of_z, ap, ◌∙◌}
use Rattle.std.proofs.lemmas.Int.{to_z-of_z}
use Rattle.sd_work.specs.Memory.{Reference}
use Rattle.sd_work.specs.Change.{write, apply}
use Rattle.sd_row.specs.row.Row.{reference_on}
use Rattle.sd_row.proofs.instance.scatter.scatter_at.Goals as goal

pub returns-clause-memories : goal.returns-clause-memories
returns-clause-memories c =
    let scatter = c.args.scatter.now in
    let now = c.args.machine.now in
    let value = c.value_of-value.result in
    let fits : FitsSigned w64 value = record { sfits = c.value_of-value.type_inv } in
    c.write.ensures.memories
    ∙ ap (λ (to : Reference). apply (write to scatter.by (to_z w64 (of_z w64 value))) now.memories) c.cell.ensures
    ∙ ap (λ value. apply (write (reference_on scatter.to c.in_ok-place.place) scatter.by value) now.memories) (to_z-of_z w64 value fits ∙ c.value_of-value.ensures)
