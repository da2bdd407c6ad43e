use Rattle.std.proofs.Common.{ap, sym, ◌∙◌, arith, [], slice_get, slice_index_or}
use Rattle.sd_work.specs.BigStep.{Reached}
use Rattle.sd_num.specs.declared.width.Width.TheVariants.{W64}
use Rattle.sd_work.specs.Memory.{Memory, stream, values_of, waiting}
use Rattle.sd_work.specs.Change.{apply, changed_at, with_values, without, take}
use Rattle.sd_mem.specs.mem.Shaped.{Shaped}
use Rattle.sd_mem.proofs.machine_lemmas.Stacks.{memory_at, stack_changed, stack_kept}
use Rattle.sd_mem.proofs.machine.machine.Machine.take_at.Goals as goal

pub returns-in-Some-clause-value : goal.returns-in-Some-clause-value
returns-in-Some-clause-value c =
    c.take_at.ensures.value
    ∙ ap (λ (memory : Memory). slice_get (values_of (slice_index_or memory c.args.station.container (stream W64 []))) c.args.position)
    (sym (memory_at c.self.inside.memories.items c.args.station.level c.in-Some.i c.index_mut.result.now (omega (arith, c.in-Some.ensures, c.len.ensures)) c.index_mut.ensures.value))
    ∙ ap (λ (reached : Reached). slice_get (waiting c.args.station.level c.args.station.container reached.memories) c.args.position) c.self.view_is

pub returns-in-Some-clause-memories : goal.returns-in-Some-clause-memories
returns-in-Some-clause-memories c =
    stack_changed c.self.inside.memories.items c.args.station.level c.in-Some.i c.index_mut.result.now c.take_at.new.self
    (changed_at c.args.station.container (with_values (λ width. without c.args.position)))
    (omega (arith, c.in-Some.ensures, c.len.ensures)) c.index_mut.ensures.value (ap (λ (memory : Shaped). memory.contents) c.take_at.ensures.taken)
    ∙ ap (λ (reached : Reached). apply (take c.args.station.level c.args.station.container c.args.position) reached.memories) c.self.view_is

pub returns-in-None-clause-memories : goal.returns-in-None-clause-memories
returns-in-None-clause-memories c =
    ap (λ (reached : Reached). reached.memories) (sym c.self.view_is)
    ∙ stack_kept c.self.inside.memories.items c.args.station.level
    (changed_at c.args.station.container (with_values (λ width. without c.args.position)))
    (omega (arith, c.in-None.ensures, c.len.ensures))
    ∙ ap (λ (reached : Reached). apply (take c.args.station.level c.args.station.container c.args.position) reached.memories) c.self.view_is
