use Rattle.std.proofs.Common.{◌∙◌, arith, ap, sym, List}
use Rattle.sd_mem.proofs.mem_lemmas.Held.{one_written, changed_none}
use Rattle.sd_work.specs.Change.{changed_at}
use Rattle.sd_cut.specs.declared.elements.CutElement.{CutElement}
use Rattle.sd_cut.specs.Elements.{marked}
use Rattle.sd_cut.proofs.marks.mark_at.Goals as goal

pub returns-then-container-arrays : goal.returns-then-container-arrays
returns-then-container-arrays c =
    let change : List CutElement → List CutElement = changed_at c.args.number (marked c.args.mark) in
    one_written c.args.arrays.now c.args.container c.mark_one.new.cuts c.index-arrays-container.result change c.index-arrays-container.is
    (c.mark_one.ensures ∙ ap change (sym c.index-arrays-container.is))

pub returns-else-container-arrays : goal.returns-else-container-arrays
returns-else-container-arrays c =
    let change : List CutElement → List CutElement = changed_at c.args.number (marked c.args.mark) in
    changed_none change c.args.arrays.now c.args.container (omega (arith, c.if-container-arrays.false))
