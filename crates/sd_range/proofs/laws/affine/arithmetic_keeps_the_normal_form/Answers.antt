use Rattle.std.proofs.Common.{pos, neg_ℤ, [], not, nat_eq}
use Rattle.std.specs.List.{filter}
use Rattle.sd_range.specs.Terms.{coefficient_of}
use Rattle.sd_range.proofs.Normal.{normal-combined, normal-filter}
use Rattle.sd_range.proofs.laws.affine.arithmetic_keeps_the_normal_form.Goals as goal

pub returns-clause-sum : goal.returns-clause-sum
returns-clause-sum c = λ a b normal _. normal-combined a.terms (pos 1) b.terms normal

pub returns-clause-difference : goal.returns-clause-difference
returns-clause-difference c = λ a b normal _. normal-combined a.terms (neg_ℤ (pos 1)) b.terms normal

pub returns-clause-product : goal.returns-clause-product
returns-clause-product c = λ factor a _. normal-combined [] factor a.terms tt

pub returns-clause-substituted : goal.returns-clause-substituted
returns-clause-substituted c = λ variable by a _ normal.
    normal-combined (filter (λ term. not (nat_eq term.0 variable)) a.terms) (coefficient_of a.terms variable) by.terms
    (normal-filter (λ term. not (nat_eq term.0 variable)) a.terms normal)
