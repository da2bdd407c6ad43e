use Rattle.std.proofs.Common.{◌++◌, [], ◌∷◌, ap, ◌∙◌, rules, FitsSigned}
use Rattle.std.specs.Int.{w128}
use Rattle.std.proofs.lemmas.Int.{to_z-of_z}
use Rattle.sd_leaves.proofs.leaves_lemmas.Places.{range_below}
use Rattle.sd_leaves.proofs.leaves.reduction.numbers_below.Goals as goal

pub returns-clause-values : goal.returns-clause-values
returns-clause-values c =
    let last = c.in_ok-last.last in
    let fits : FitsSigned w128 last = search rules in
    range_below c.constant-2.result c.constant.result c.push.new.self c.args.extent c.constant-2.ensures.constant c.constant-2.ensures.terms
    (c.in_ok-push.ensures.ok ∙ ap (λ none. none ++ c.constant.result ∷ []) c.new-ends.ensures)
    (c.constant.ensures.constant ∙ to_z-of_z w128 last fits ∙ c.in_ok-last.ensures) c.constant.ensures.terms
