use Rattle.std.proofs.Common.{sym}
use Rattle.sd_lex.specs.TreeFold.{expression_of, expressions_of}
use Rattle.sd_names.specs.Expressions.{expression_list}
use Rattle.sd_refusal.proofs.BoundLemmas.{codes_bound}
use Rattle.sd_refusal.proofs.bound_test.code_passes.Goals as goal

pub returns : goal.returns
returns g c = sym (codes_bound (g.T.BoundTest.of_bound c.args._test.now) (expression_list (expressions_of c.args._at.now)) (expression_of c.args._value.now))
