use Rattle.std.proofs.Common.{◌≡◌, [], ap, sym, ◌∙◌, subst}
use Rattle.sd_mem.specs.mem.Shaped.{Shaped}
use Rattle.sd_part.specs.Store.{IsLentFor}
use Rattle.sd_part.specs.Whole.{all_kept}
use Rattle.sd_part.proofs.Parts.{if-ok}
use Rattle.sd_part.proofs.WholeMemory.{lent-self}
use Rattle.sd_part.proofs.whole.MemoryStore.lend.Goals as goal

pub returns-clause-stands : goal.returns-clause-stands
returns-clause-stands c = if-ok c.lend.result (λ lent is containers over now fits with.
    let same : now ≡ c.args.self.now = with ∙ (λ i. record { shapes = c.lend.ensures.shapes i; contents = ap (λ (m : Shaped). m.contents) is i }) in (
      same,
      subst (λ (m : Shaped). IsLentFor containers [] all_kept m now) (sym is)
          (subst (λ (m : Shaped). IsLentFor containers [] all_kept c.args.self.now m) (sym same) (lent-self containers c.args.self.now c.requires.holds)),
    ))
    c.lend.ensures.lent
