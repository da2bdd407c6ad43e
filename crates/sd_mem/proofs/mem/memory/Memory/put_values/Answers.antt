use Rattle.std.proofs.Common.{ap, sym, ◌∙◌, map, arith}
use Rattle.sd_num.specs.Width.{wrapped_to}
use Rattle.sd_work.specs.Change.{with_values}
use Rattle.sd_mem.specs.mem.Shaped.{with_values_at}
use Rattle.sd_mem.specs.mem.Holding.{shape_held, contents_held}
use Rattle.sd_mem.proofs.mem_lemmas.Held.{one_changed, none_changed, changed_not, made, on_ok, on_err}
use Rattle.sd_mem.proofs.mem.memory.Memory.put_values.Goals as goal

pub returns-then-container-len-clause-ok : goal.returns-then-container-len-clause-ok
returns-then-container-len-clause-ok c =
    on_ok c.put_values.result
    (λ contents. one_changed c.self.inside.holdings.items c.args.container c.put_values.new.self c.index_mut.result.now
    (with_values (λ width old. map (wrapped_to width) c.args.values.items)) c.index_mut.ensures.value c.put_values.ensures.shape contents
    ∙ ap (with_values_at c.args.container c.args.values.items) c.self.view_is)
    c.put_values.ensures.ok

pub returns-then-container-len-clause-err : goal.returns-then-container-len-clause-err
returns-then-container-len-clause-err c =
    on_err c.put_values.result
    (λ contents. one_changed c.self.inside.holdings.items c.args.container c.put_values.new.self c.index_mut.result.now
    (λ old. old) c.index_mut.ensures.value c.put_values.ensures.shape contents
    ∙ ap (made (map shape_held c.self.inside.holdings.items)) (changed_not c.args.container (map contents_held c.self.inside.holdings.items))
    ∙ c.self.view_is)
    c.put_values.ensures.err

pub returns-clause-ok : goal.returns-clause-ok
returns-clause-ok c =
    sym c.self.view_is
    ∙ none_changed c.self.inside.holdings.items c.args.container
    (with_values (λ width old. map (wrapped_to width) c.args.values.items)) (omega arith)
    ∙ ap (with_values_at c.args.container c.args.values.items) c.self.view_is
