use Rattle.std.specs.Int.{w64}
use Rattle.std.proofs.lemmas.Int.{to_z-of_z}
use Rattle.std.proofs.Common.{◌∙◌, ap, FitsSigned}
use Rattle.sd_num.specs.declared.width.Width.{Width}
use Rattle.sd_work.specs.Change.{changed_at}
use Rattle.sd_graph.specs.Unfold.{one_element}
use Rattle.sd_mem.proofs.mem.memory.Memory.of_element.Goals as goal

pub returns-clause-contents : goal.returns-clause-contents
returns-clause-contents c =
    let value_fits : FitsSigned w64 c.args.value = c.ranges.value in
    let cells = simp to_z-of_z at c.in_ok-cells.ensures in
    let is = cells ∙ ap (λ (width : Width). one_element width c.args.value) c.own_width.ensures in
    c.replaced.ensures.contents
    ∙ (λ i. changed_at c.args.element (λ old. is i) (c.in_ok-holdings.ensures.contents i))
