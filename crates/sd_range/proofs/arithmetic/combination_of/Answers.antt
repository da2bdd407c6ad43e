use Rattle.std.proofs.Common.{rules, ◌+ℤ◌, ◌*ℤ◌, ◌∙◌, FitsSigned, to_z, of_z}
use Rattle.std.specs.Int.{w128}
use Rattle.std.proofs.lemmas.Int.{to_z-of_z, int_wrap_fits}
use Rattle.sd_range.specs.Arithmetic.{combination}
use Rattle.sd_range.proofs.Same.{same_parts}
use Rattle.sd_range.proofs.arithmetic.combination_of.Goals as goal

pub returns-clause-ok : goal.returns-clause-ok
returns-clause-ok c =
    let a = c.args.a.now in
    let factor = c.args.factor in
    let b = c.args.b.now in
    let a_fits : FitsSigned w128 a.constant = search rules in
    let b_fits : FitsSigned w128 b.constant = search rules in
    let factor_fits : FitsSigned w128 factor = c.ranges.factor in
    let result_fits : FitsSigned w128 c.with_term.result = search rules in
    let told = simp to_z-of_z at c.with_term.ensures in
    let constant = to_z-of_z w128 c.with_term.result result_fits ∙ told ∙ int_wrap_fits w128 (a.constant +ℤ (factor *ℤ b.constant)) c.requires.constant in
    let terms = rw (c.as_slice.ensures.terms, c.as_slice-2.ensures.terms) at (simp to_z-of_z at c.in_ok-combined_terms.ensures.ok) in
    same_parts record { constant = to_z w128 (of_z w128 c.with_term.result); terms = c.in_ok-combined_terms.field-0 } (combination a factor b) constant terms
