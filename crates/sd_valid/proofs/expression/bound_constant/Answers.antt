use Rattle.std.proofs.Common.{◌≡◌, ◌∙◌, pos, rules, length, ◌<◌, FitsSigned, ap, ◌+◌, ◌+ℤ◌, ◌*ℤ◌, drop, ℤ, slice_index_or, to_z}
use Rattle.std.proofs.lemmas.Int.{to_z-of_z}
use Rattle.std.specs.Int.{w128}
use Rattle.sd_range.specs.Affine.{terms_value, variable_value}
use Rattle.sd_valid.proofs.BoundTerms.{next_constant}
use Rattle.sd_valid.proofs.expression.bound_constant.Goals as goal

pub loop-term-preserved : goal.loop-term-preserved
loop-term-preserved c =
    let i = c.loop-term.term-index in
    let next_fits : FitsSigned w128 c.in_ok-constant.constant = search rules in
    let term = slice_index_or c.as_slice-term-items.result.now i (0, pos 0) in
    let sum : c.in_ok-constant.constant ≡ to_z w128 c.loop-term.constant-bits +ℤ (term.1 *ℤ variable_value c.args.sizes.now term.0) = c.in_ok-constant.ensures in
    let within : i < length c.args.a.now.terms = rw c.as_slice-term-items.ensures.terms at c.loop-term-test.true in
    let others = terms_value c.args.sizes.now (drop (i + 1) c.args.a.now.terms) in
    ap (λ (r : ℤ). r +ℤ others) (to_z-of_z w128 c.in_ok-constant.constant next_fits)
    ∙ ap (λ (r : ℤ). r +ℤ others) sum
    ∙ rw c.as_slice-term-items.ensures.terms (next_constant (to_z w128 c.loop-term.constant-bits) c.args.a.now.terms c.args.sizes.now i (0, pos 0) within)
    ∙ c.loop-term.invariant
