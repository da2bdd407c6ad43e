use Rattle.std.proofs.Common.{◌≡◌, ◌==◌, false, length, subst, sym, rules, FitsSigned, to_z-of_z, ap, ◌∙◌}
use Rattle.std.specs.Int.{w128}
use Rattle.sd_range.specs.Arithmetic.{IsRepresentable, affine_product}
use Rattle.sd_task.proofs.in_force_lemmas.AffineLemmas.{product_is_left}
use Rattle.sd_task.proofs.in_force.expression.product.Goals as goal

-- src/affine.rt:20:9
pub times-requires-else-is_empty : goal.times-requires-else-is_empty
times-requires-else-is_empty c =
    let fits : FitsSigned w128 c.args.right.now.constant = search rules in
    let some : (length c.args.left.now.terms == 0) ≡ false = ap (λ terms. length terms == 0) (sym c.as_slice.ensures.terms) ∙ sym c.if-is_empty.ensures in
    subst (λ n. IsRepresentable (affine_product n c.args.left.now)) (sym (to_z-of_z fits)) (subst (λ a. IsRepresentable a) (product_is_left c.args.left.now.terms c.args.left.now c.args.right.now some) c.requires)
