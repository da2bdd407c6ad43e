use Rattle.std.proofs.Common.{ap, ◌∙◌, map, []}
use Rattle.sd_num.specs.declared.width.Width.{Width}
use Rattle.sd_work.specs.Memory.{Contents, array}
use Rattle.sd_mem.specs.mem.Shaped.{width_at, with_contents_at}
use Rattle.sd_mem.specs.mem.Holding.{shape_held, contents_held}
use Rattle.sd_mem.proofs.mem_lemmas.Held.{one_changed, changed_to, made}
use Rattle.sd_mem.proofs.mem.memory.Memory.take_cells.Goals as goal

pub returns-clause-away : goal.returns-clause-away
returns-clause-away c =
    let none : Contents = array (width_at c.args.self.now c.args.container) [] in
    one_changed c.self.inside.holdings.items c.args.container c.swap_cells.new.self c.index_mut.result.now
    (λ old. none) c.index_mut.ensures.value c.swap_cells.ensures.shape (c.swap_cells.ensures.contents ∙ c.none.ensures ∙ ap (λ (width : Width). array width []) c.width-width.ensures)
    ∙ ap (made (map shape_held c.self.inside.holdings.items)) (changed_to none c.args.container (map contents_held c.self.inside.holdings.items))
    ∙ ap (with_contents_at c.args.container none) c.self.view_is
