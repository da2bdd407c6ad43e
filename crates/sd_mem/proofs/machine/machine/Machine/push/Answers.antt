use Rattle.std.proofs.Common.{ap, sym, ◌∙◌, arith, FitsSigned}
use Rattle.std.specs.Int.{w64}
use Rattle.std.proofs.lemmas.Int.{to_z-of_z}
use Rattle.sd_work.specs.BigStep.{Reached}
use Rattle.sd_work.specs.Change.{apply, changed_at, with_values, push, appended}
use Rattle.sd_mem.specs.mem.Shaped.{Shaped}
use Rattle.sd_mem.proofs.mem_lemmas.Held.{on_ok}
use Rattle.sd_mem.proofs.machine_lemmas.Stacks.{stack_changed, stack_kept}
use Rattle.sd_mem.proofs.machine.machine.Machine.push.Goals as goal

pub returns-in-Some-clause-memories : goal.returns-in-Some-clause-memories
returns-in-Some-clause-memories c =
    let value_fits : FitsSigned w64 c.args.value = c.ranges.value in
    let pushed = simp to_z-of_z at c.push.ensures.ok in
    on_ok c.push.result
    (λ is. stack_changed c.self.inside.memories.items c.args.station.level c.in-Some.i c.index_mut.result.now c.push.new.self
    (changed_at c.args.station.container (with_values (appended c.args.value)))
    (omega (arith, c.in-Some.ensures, c.len.ensures)) c.index_mut.ensures.value (ap (λ (memory : Shaped). memory.contents) is)
    ∙ ap (λ (reached : Reached). apply (push c.args.station.level c.args.station.container c.args.value) reached.memories) c.self.view_is)
    pushed

pub returns-in-None-clause-memories : goal.returns-in-None-clause-memories
returns-in-None-clause-memories c =
    ap (λ (reached : Reached). reached.memories) (sym c.self.view_is)
    ∙ stack_kept c.self.inside.memories.items c.args.station.level
    (changed_at c.args.station.container (with_values (appended c.args.value)))
    (omega (arith, c.in-None.ensures, c.len.ensures))
    ∙ ap (λ (reached : Reached). apply (push c.args.station.level c.args.station.container c.args.value) reached.memories) c.self.view_is
