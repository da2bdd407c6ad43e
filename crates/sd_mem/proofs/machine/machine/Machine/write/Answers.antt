use Rattle.std.proofs.Common.{ap, sym, ◌∙◌, arith, FitsSigned}
use Rattle.std.specs.Int.{w64}
use Rattle.std.proofs.lemmas.Int.{to_z-of_z}
use Rattle.sd_work.specs.BigStep.{Reached}
use Rattle.sd_work.specs.Change.{apply, changed_at, with_elements, write, written}
use Rattle.sd_mem.specs.mem.Shaped.{Shaped}
use Rattle.sd_mem.specs.machine.Stack.{reference_of}
use Rattle.sd_mem.proofs.machine_lemmas.Stacks.{stack_changed, stack_kept}
use Rattle.sd_mem.proofs.machine.machine.Machine.write.Goals as goal

pub returns-in-Some-clause-memories : goal.returns-in-Some-clause-memories
returns-in-Some-clause-memories c =
    let value_fits : FitsSigned w64 c.args.value = c.ranges.value in
    let is = simp to_z-of_z at c.set.ensures in
    stack_changed c.self.inside.memories.items c.args.cell.station.level c.in-Some.i c.index_mut.result.now c.set.new.self
    (changed_at c.args.cell.station.container (with_elements (λ width. changed_at c.args.cell.element (written width c.args.by c.args.value))))
    (omega (arith, c.in-Some.ensures, c.len.ensures)) c.index_mut.ensures.value (ap (λ (memory : Shaped). memory.contents) is)
    ∙ ap (λ (reached : Reached). apply (write (reference_of c.args.cell) c.args.by c.args.value) reached.memories) c.self.view_is

pub returns-in_default-clause-memories : goal.returns-in_default-clause-memories
returns-in_default-clause-memories c =
    ap (λ (reached : Reached). reached.memories) (sym c.self.view_is)
    ∙ stack_kept c.self.inside.memories.items c.args.cell.station.level
    (changed_at c.args.cell.station.container (with_elements (λ width. changed_at c.args.cell.element (written width c.args.by c.args.value))))
    (omega (arith, c.in_default.ensures, c.len.ensures))
    ∙ ap (λ (reached : Reached). apply (write (reference_of c.args.cell) c.args.by c.args.value) reached.memories) c.self.view_is
