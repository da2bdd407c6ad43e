use Rattle.std.proofs.Common.{map, arith}
use Rattle.std.proofs.lemmas.List.{length-map}
use Rattle.sd_mem.specs.mem.Holding.{contents_held}
use Rattle.sd_mem.proofs.mem_lemmas.Held.{contents_changed, shapes_kept, changed_none}
use Rattle.sd_mem.proofs.mem.beginning.replaced.Goals as goal
use Rattle.sd_mem.specs.mem.Cells.{array_of}

pub returns-then-container-len-clause-shapes : goal.returns-then-container-len-clause-shapes
returns-then-container-len-clause-shapes c =
    shapes_kept c.args.holdings.items c.args.container c.hold.new.self c.index_mut.result.now c.index_mut.ensures.value c.hold.ensures.shape

pub returns-then-container-len-clause-contents : goal.returns-then-container-len-clause-contents
returns-then-container-len-clause-contents c =
    contents_changed c.args.holdings.items c.args.container c.hold.new.self c.index_mut.result.now (λ old. array_of c.args.cells) c.index_mut.ensures.value c.hold.ensures.contents

pub returns-clause-contents : goal.returns-clause-contents
returns-clause-contents c =
    changed_none (λ old. array_of c.args.cells) (map contents_held c.args.holdings.items) c.args.container (omega (arith, length-map c.args.holdings.items contents_held, c.if-container-len.false))
