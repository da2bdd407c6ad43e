use Rattle.std.proofs.Common.{◌≡◌, map, ap, ◌∙◌, arith}
use Rattle.std.proofs.lemmas.Grind.{common_steps}
use Rattle.sd_graph.specs.Context.{link_extents}
use Rattle.sd_tasklet.specs.tasklet.Given.{told_extent}
use Rattle.sd_scope.specs.scope.Standing.{context_of}
use Rattle.sd_leaves.proofs.leaves.evaluation.push_extents.Goals as goal

pub loop-link-preserved : goal.loop-link-preserved
loop-link-preserved c = λ tree base.
    let told : c.in_ok-told_extents.field-0 ≡ map told_extent (link_extents (context_of tree base c.args.scope.now) c.link-item.result) =
    c.in_ok-told_extents.ensures ∙ ap (map told_extent) (c.as_slice.ensures.value ∙ c.in_ok-of_link.ensures tree base) in
    grind (arith, common_steps, c.loop-link.invariant tree base, told)

pub returns : goal.returns
returns c = λ tree base. grind (arith, common_steps, c.loop-link.invariant tree base)
