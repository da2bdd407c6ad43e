use Rattle.std.proofs.Common.{[], refl, sym, ◌∙◌, subst}
use Rattle.sd_pieces.specs.cut.Merged.{IsMerged}
use Rattle.sd_mem.specs.mem.Shaped.{Shaped, alone, with_contents}
use Rattle.sd_cut.specs.Windowed.{numbers_in}
use Rattle.sd_part.specs.Whole.{all_kept}
use Rattle.sd_part.proofs.WholeMemory.{may-still, one-stack, merged-self}
use Rattle.sd_part.proofs.whole.MemoryStore.take_back.Goals as goal

pub returns-clause-stands : goal.returns-clause-stands
returns-clause-stands c = λ containers lent over after may is. (
  with_contents lent.contents c.args.self.now,
  refl,
  λ same widths values.
      subst (λ (m : Shaped). IsMerged (numbers_in containers []) all_kept (alone c.args.left) (alone (with_contents lent.contents c.args.self.now)) (alone m))
      (sym (is ∙ c.take_back.ensures (may-still c.args.self.now.shapes lent.contents c.args.left.contents may (one-stack c.args.left.contents lent.contents same))))
      (merged-self containers c.args.left.contents lent.contents same),
)
