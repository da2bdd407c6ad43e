use Rattle.std.proofs.Common.{length}
use Rattle.sd_valid.proofs.SizedLaws.{left-weight, small-constant}
use Rattle.sd_valid.proofs.laws.a_bound_expression_stays_small.Goals as goal

pub returns-clause-constant : goal.returns-clause-constant
returns-clause-constant c = small-constant

pub returns-clause-weight : goal.returns-clause-weight
returns-clause-weight c = λ sizes a. left-weight (length sizes) a.terms
