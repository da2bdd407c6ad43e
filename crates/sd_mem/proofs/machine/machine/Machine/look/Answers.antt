use Rattle.std.proofs.Common.{pos, slice_index_or, [], ap, sym, ◌∙◌, rules, arith, FitsSigned}
use Rattle.std.specs.Int.{w64}
use Rattle.std.proofs.lemmas.Int.{to_z-of_z}
use Rattle.sd_num.specs.declared.width.Width.TheVariants.{W64}
use Rattle.sd_work.specs.Memory.{Memory, look, elements_of, stream}
use Rattle.sd_work.specs.BigStep.{Reached}
use Rattle.sd_mem.specs.machine.Stack.{reference_of}
use Rattle.sd_mem.proofs.machine_lemmas.Stacks.{memory_at}
use Rattle.sd_mem.proofs.machine.machine.Machine.look.Goals as goal

pub returns-in-Some : goal.returns-in-Some
returns-in-Some c =
    let fits : FitsSigned w64 c.cell.result = search rules in
    to_z-of_z w64 c.cell.result fits ∙ c.cell.ensures
    ∙ ap (λ (memory : Memory). slice_index_or (elements_of (slice_index_or memory c.args.cell.station.container (stream W64 []))) c.args.cell.element (pos 0))
    (sym (memory_at c.self.inside.memories.items c.args.cell.station.level c.in-Some.i c.index.result.now (omega (arith, c.in-Some.ensures, c.len.ensures)) c.index.ensures))
    ∙ ap (λ (reached : Reached). look (reference_of c.args.cell) reached.memories) c.self.view_is
