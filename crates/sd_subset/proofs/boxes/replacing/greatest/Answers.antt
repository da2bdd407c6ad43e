use Rattle.std.proofs.Common.{ap, sym, ◌∙◌}
use Rattle.sd_subset.specs.boxes.Box as definition
use Rattle.sd_subset.proofs.boxes_lemmas.Lasts.{greatest-last}
use Rattle.sd_subset.proofs.boxes.replacing.greatest.Goals as goal

pub loop-parameter-preserved : goal.loop-parameter-preserved
loop-parameter-preserved c =
    let bound = c.loop-parameter.bound in
    let outer = c.in-Some.outer.now in
    let parameter = c.in-Some.parameter.now in
    ap (definition.greatest outer) c.in_ok-bound-2.ensures ∙ sym (greatest-last outer parameter bound)
    ∙ ap (λ all. definition.greatest all bound) (sym c.in-Some.ensures.cases.0) ∙ c.loop-parameter.invariant
