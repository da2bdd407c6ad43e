use Rattle.std.proofs.Common.{◌≡◌, drop}
use Rattle.std.specs.List.{list_any}
use Rattle.sd_lex.specs.TreeFold.{dimensions_of}
use Rattle.sd_names.specs.Expressions.{expressions_of_dimensions}
use Rattle.sd_refusal.proofs.bound_test.any_dimension_passes.Given as goal

-- the dimensions that are left decide
abbrev pub invariant-loop-dimension : goal.invariant-loop-dimension
invariant-loop-dimension g l =
    list_any (g.T.BoundTest.of_bound l.test) (expressions_of_dimensions (dimensions_of (drop l.dimension-index l.dimensions)))
    ≡ list_any (g.T.BoundTest.of_bound l.test) (expressions_of_dimensions (dimensions_of l.dimensions))
