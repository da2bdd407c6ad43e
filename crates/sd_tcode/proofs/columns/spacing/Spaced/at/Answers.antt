use Rattle.std.proofs.Common.{rules, ◌≡◌, pos, ap, ◌∙◌, ◌+ℤ◌, ◌*ℤ◌, w64, FitsSigned, to_z, of_z}
use Rattle.std.proofs.lemmas.Int.{int_wrap-add_right, to_z-of_z}
use Rattle.sd_num.specs.Wrapped.{wrapped}
use Rattle.sd_tcode.proofs.columns.spacing.Spaced.at.Goals as goal

pub returns : goal.returns
returns c =
    let first = c.args.self.now.first in
    let step = c.args.self.now.step in
    let first_fits : FitsSigned w64 first = search rules in
    let step_fits : FitsSigned w64 step = search rules in
    let k_is : to_z w64 (of_z w64 c.from.result) ≡ pos c.args.k = to_z-of_z w64 c.from.result (record { sfits = c.from.type_inv }) ∙ c.from.ensures in
    let product : c.mul.result ≡ wrapped (step *ℤ pos c.args.k) =
    c.mul.ensures ∙ ap (λ s. wrapped (s *ℤ to_z w64 (of_z w64 c.from.result))) (to_z-of_z w64 step step_fits) ∙ ap (λ k. wrapped (step *ℤ k)) k_is in
    to_z-of_z w64 c.add.result (record { sfits = c.add.type_inv }) ∙ c.add.ensures
    ∙ ap (λ f. wrapped (f +ℤ to_z w64 (of_z w64 c.mul.result))) (to_z-of_z w64 first first_fits)
    ∙ ap (λ further. wrapped (first +ℤ further)) (to_z-of_z w64 c.mul.result (record { sfits = c.mul.type_inv }) ∙ product)
    ∙ int_wrap-add_right w64 first (step *ℤ pos c.args.k)
