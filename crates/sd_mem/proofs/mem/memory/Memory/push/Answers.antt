use Rattle.std.specs.Int.{w64}
use Rattle.std.proofs.lemmas.Int.{to_z-of_z}
use Rattle.std.proofs.Common.{FitsSigned, ap, sym, ◌∙◌, map, arith}
use Rattle.sd_work.specs.Change.{push, with_values, appended}
use Rattle.sd_mem.specs.mem.Shaped.{changed}
use Rattle.sd_mem.specs.mem.Holding.{shape_held, contents_held}
use Rattle.sd_mem.proofs.mem_lemmas.Held.{one_changed, none_changed, changed_not, made, on_ok, on_err}
use Rattle.sd_mem.proofs.mem.memory.Memory.push.Goals as goal

pub returns-then-container-len-clause-ok : goal.returns-then-container-len-clause-ok
returns-then-container-len-clause-ok c =
    let value_fits : FitsSigned w64 c.args.value = c.ranges.value in
    let pushed = simp to_z-of_z at c.push.ensures.ok in
    on_ok c.push.result
    (λ contents. one_changed c.self.inside.holdings.items c.args.container c.push.new.self c.index_mut.result.now
    (with_values (appended c.args.value)) c.index_mut.ensures.value c.push.ensures.shape contents
    ∙ ap (changed (push 0 c.args.container c.args.value)) c.self.view_is)
    pushed

pub returns-then-container-len-clause-err : goal.returns-then-container-len-clause-err
returns-then-container-len-clause-err c =
    on_err c.push.result
    (λ contents. one_changed c.self.inside.holdings.items c.args.container c.push.new.self c.index_mut.result.now
    (λ old. old) c.index_mut.ensures.value c.push.ensures.shape contents
    ∙ ap (made (map shape_held c.self.inside.holdings.items)) (changed_not c.args.container (map contents_held c.self.inside.holdings.items))
    ∙ c.self.view_is)
    c.push.ensures.err

pub returns-clause-ok : goal.returns-clause-ok
returns-clause-ok c =
    sym c.self.view_is
    ∙ none_changed c.self.inside.holdings.items c.args.container
    (with_values (appended c.args.value)) (omega arith)
    ∙ ap (changed (push 0 c.args.container c.args.value)) c.self.view_is
