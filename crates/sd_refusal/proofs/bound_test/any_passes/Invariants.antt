use Rattle.std.proofs.Common.{◌≡◌, drop}
use Rattle.sd_lex.specs.TreeFold.{expressions_of}
use Rattle.sd_names.specs.Expressions as expressions
use Rattle.sd_refusal.proofs.bound_test.any_passes.Given as goal

-- the expressions that are left decide
abbrev pub invariant-loop-expression : goal.invariant-loop-expression
invariant-loop-expression g l =
    expressions.any_of (g.T.BoundTest.of_bound l.test) (expressions_of (drop l.expression-index l.all)) ≡ expressions.any_of (g.T.BoundTest.of_bound l.test) (expressions_of l.all)
