use Rattle.std.proofs.Common.{rules, ◌∙◌, ◌≡◌, List, ap}
use Rattle.sd_cut.specs.declared.elements.CutElement.{CutElement}
use Rattle.sd_cut.specs.Elements.{all_changed, effects_from}
use Rattle.sd_cut.proofs.Performing.{performed_next}
use Rattle.sd_cut.proofs.effects.perform_all.Goals as goal

pub loop-container-preserved : goal.loop-container-preserved
loop-container-preserved c =
    let performed : c.perform_each.new.memory ≡ all_changed (effects_from c.loop-container.container 0 c.args.left.now c.as_slice.result.now) c.loop-container.memory = search rules in
    performed_next c.loop-container.container c.args.left.now c.loop-container.memory c.perform_each.new.memory c.args.arrays.now c.index-arrays-container.result c.loop-container-test.true c.index-arrays-container.is
    (performed ∙ ap (λ (cuts : List CutElement). all_changed (effects_from c.loop-container.container 0 c.args.left.now cuts) c.loop-container.memory) c.as_slice.ensures)
    ∙ c.loop-container.invariant
