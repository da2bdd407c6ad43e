use Rattle.std.proofs.Common.{slice_index_or, length, [], ap, sym, ◌∙◌, arith}
use Rattle.sd_num.specs.declared.width.Width.TheVariants.{W64}
use Rattle.sd_work.specs.Memory.{Memory, waiting, values_of, stream}
use Rattle.sd_work.specs.BigStep.{Reached}
use Rattle.sd_mem.proofs.machine_lemmas.Stacks.{memory_at}
use Rattle.sd_mem.proofs.machine.machine.Machine.waiting.Goals as goal

pub returns-in-Some : goal.returns-in-Some
returns-in-Some c =
    c.waiting.ensures
    ∙ ap (λ (memory : Memory). length (values_of (slice_index_or memory c.args.station.container (stream W64 []))))
    (sym (memory_at c.self.inside.memories.items c.args.station.level c.in-Some.i c.index.result.now (omega (arith, c.in-Some.ensures, c.len.ensures)) c.index.ensures))
    ∙ ap (λ (reached : Reached). length (waiting c.args.station.level c.args.station.container reached.memories)) c.self.view_is
