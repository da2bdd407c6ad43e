use Rattle.std.proofs.Common.{ap, sym, ◌∙◌, arith}
use Rattle.sd_work.specs.Change.{take, with_values, without}
use Rattle.sd_mem.specs.mem.Shaped.{changed}
use Rattle.sd_mem.proofs.mem_lemmas.Held.{one_changed, none_changed}
use Rattle.sd_mem.proofs.mem.memory.Memory.take_at.Goals as goal

pub returns-then-container-len-clause-taken : goal.returns-then-container-len-clause-taken
returns-then-container-len-clause-taken c =
    one_changed c.self.inside.holdings.items c.args.container c.take_at.new.self c.index_mut.result.now
    (with_values (λ width. without c.args.position)) c.index_mut.ensures.value c.take_at.ensures.shape c.take_at.ensures.contents
    ∙ ap (changed (take 0 c.args.container c.args.position)) c.self.view_is

pub returns-clause-taken : goal.returns-clause-taken
returns-clause-taken c =
    sym c.self.view_is
    ∙ none_changed c.self.inside.holdings.items c.args.container (with_values (λ width. without c.args.position)) (omega arith)
    ∙ ap (changed (take 0 c.args.container c.args.position)) c.self.view_is
