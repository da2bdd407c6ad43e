use Rattle.std.proofs.Common.{◌≡◌, ◌++◌, ◌∷◌, [], ap, sym, ◌∙◌, rules, FitsSigned, to_z}
use Rattle.std.specs.Int.{w128}
use Rattle.std.proofs.lemmas.Int.{to_z-of_z}
use Rattle.sd_rows.specs.rows.Along.{step_to}
use Rattle.sd_rows.proofs.rows.band.Band.is_next.Goals as goal

pub returns-clause-row : goal.returns-clause-row
returns-clause-row c done =
    let band = c.args.self.now in
    let value = c.in-Some.value.now in
    let next = c.in_ok-value.field-0 in
    let value_fits : FitsSigned w128 value = search rules in
    let next_fits : FitsSigned w128 next = search rules in
    let value_is : value ≡ step_to band.across band.next =
    sym (to_z-of_z w128 value value_fits) ∙ ap (to_z w128) c.if-branch.false ∙ to_z-of_z w128 next next_fits ∙ c.in_ok-value.ensures in
    let others_are : c.in-Some.others.now ≡ band.others.items = c.are_same.ensures c.if-not-are_same.false ∙ c.as_slice.ensures.value in
    c.in-Some.ensures.cases.0 ∙ ap (λ others. others ++ value ∷ []) others_are ∙ ap (λ value. band.others.items ++ value ∷ []) value_is
