use Rattle.std.proofs.Common.{◌∙◌, ap, arith, List, slice_index_or, slice_set}
use Rattle.sd_mem.proofs.mem_lemmas.Held.{changed_none}
use Rattle.sd_cut.specs.declared.elements.CutElement.{CutElement}
use Rattle.sd_cut.specs.Elements.{marked}
use Rattle.sd_cut.proofs.Performing.{set-changed}
use Rattle.sd_cut.proofs.marks.mark_one.Goals as goal

pub returns-then-number-len : goal.returns-then-number-len
returns-then-number-len c =
    c.set.ensures
    ∙ ap (slice_set c.args.cuts.now c.args.number) c.with_mark.ensures
    ∙ ap (λ (cuts : List CutElement). slice_set c.args.cuts.now c.args.number (marked c.args.mark (slice_index_or cuts c.args.number _))) c.as_slice.ensures
    ∙ set-changed c.args.cuts.now c.args.number _ (marked c.args.mark) (omega (arith, c.len.ensures, c.if-number-len.true))

pub returns-else-number-len : goal.returns-else-number-len
returns-else-number-len c = changed_none (marked c.args.mark) c.args.cuts.now c.args.number (omega (arith, c.len.ensures, c.if-number-len.false))
