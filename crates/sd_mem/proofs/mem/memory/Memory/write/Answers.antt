use Rattle.std.specs.Int.{w64}
use Rattle.std.proofs.lemmas.Int.{to_z-of_z}
use Rattle.std.proofs.Common.{ap, ◌∙◌, option_map, FitsSigned}
use Rattle.sd_mem.specs.mem.Shaped.{element, written_at}
use Rattle.sd_mem.proofs.mem.memory.Memory.write.Goals as goal

pub returns-in-Some-clause-written : goal.returns-in-Some-clause-written
returns-in-Some-clause-written c =
    let value_fits : FitsSigned w64 c.args.value = c.ranges.value in
    let written = simp to_z-of_z at c.set.ensures in
    written ∙ ap (λ place. written_at (option_map (element c.args.container) place) c.args.by c.args.value c.args.self.now) c.in-Some.ensures
