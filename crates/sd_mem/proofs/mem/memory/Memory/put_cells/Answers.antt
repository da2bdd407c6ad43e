use Rattle.std.proofs.Common.{ap, ◌∙◌, map}
use Rattle.sd_mem.specs.mem.Shaped.{with_contents_at}
use Rattle.sd_mem.specs.mem.Holding.{shape_held, contents_held}
use Rattle.sd_mem.proofs.mem_lemmas.Held.{one_changed, changed_to, made}
use Rattle.sd_mem.proofs.mem.memory.Memory.put_cells.Goals as goal
use Rattle.sd_mem.specs.mem.Cells.{array_of}

pub returns : goal.returns
returns c =
    one_changed c.self.inside.holdings.items c.args.container c.swap_cells.new.self c.index_mut.result.now
    (λ old. array_of c.args.cells) c.index_mut.ensures.value c.swap_cells.ensures.shape c.swap_cells.ensures.contents
    ∙ ap (made (map shape_held c.self.inside.holdings.items)) (changed_to (array_of c.args.cells) c.args.container (map contents_held c.self.inside.holdings.items))
    ∙ ap (with_contents_at c.args.container (array_of c.args.cells)) c.self.view_is
