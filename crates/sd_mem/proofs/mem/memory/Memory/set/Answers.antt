use Rattle.std.specs.Int.{w64}
use Rattle.std.proofs.lemmas.Int.{to_z-of_z}
use Rattle.std.proofs.Common.{FitsSigned, ap, sym, ◌∙◌, arith}
use Rattle.sd_work.specs.Change.{changed_at, with_elements, write, written}
use Rattle.sd_mem.specs.mem.Shaped.{changed, element}
use Rattle.sd_mem.proofs.mem_lemmas.Held.{one_changed, none_changed}
use Rattle.sd_mem.proofs.mem.memory.Memory.set.Goals as goal

pub returns-then-container-len : goal.returns-then-container-len
returns-then-container-len c =
    let value_fits : FitsSigned w64 c.args.value = c.ranges.value in
    let contents = simp to_z-of_z at c.set.ensures.contents in
    one_changed c.self.inside.holdings.items c.args.container c.set.new.self c.index_mut.result.now
    (with_elements (λ width. changed_at c.args.place (written width c.args.by c.args.value))) c.index_mut.ensures.value c.set.ensures.shape contents
    ∙ ap (changed (write (element c.args.container c.args.place) c.args.by c.args.value)) c.self.view_is

pub returns-else-container-len : goal.returns-else-container-len
returns-else-container-len c =
    sym c.self.view_is
    ∙ none_changed c.self.inside.holdings.items c.args.container
    (with_elements (λ width. changed_at c.args.place (written width c.args.by c.args.value))) (omega arith)
    ∙ ap (changed (write (element c.args.container c.args.place) c.args.by c.args.value)) c.self.view_is
