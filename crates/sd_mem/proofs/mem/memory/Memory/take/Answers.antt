use Rattle.std.proofs.Common.{ap, sym, ◌∙◌, arith}
use Rattle.sd_work.specs.Change.{take, with_values, without}
use Rattle.sd_mem.specs.mem.Shaped.{changed}
use Rattle.sd_mem.proofs.mem_lemmas.Held.{one_changed, none_changed}
use Rattle.sd_mem.proofs.mem.memory.Memory.take.Goals as goal

pub returns-then-container-len-clause-taken : goal.returns-then-container-len-clause-taken
returns-then-container-len-clause-taken c =
    one_changed c.self.inside.holdings.items c.args.container c.take.new.self c.index_mut.result.now
    (with_values (λ width. without 0)) c.index_mut.ensures.value c.take.ensures.shape c.take.ensures.contents
    ∙ ap (changed (take 0 c.args.container 0)) c.self.view_is

pub returns-clause-taken : goal.returns-clause-taken
returns-clause-taken c =
    sym c.self.view_is
    ∙ none_changed c.self.inside.holdings.items c.args.container (with_values (λ width. without 0)) (omega arith)
    ∙ ap (changed (take 0 c.args.container 0)) c.self.view_is
