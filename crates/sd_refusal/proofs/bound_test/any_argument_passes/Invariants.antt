use Rattle.std.proofs.Common.{◌≡◌, drop, map}
use Rattle.std.specs.List.{list_any}
use Rattle.sd_lex.specs.TreeFold.{call_argument_of}
use Rattle.sd_uses.specs.Uses as uses
use Rattle.sd_refusal.specs.NotAffine.{any_bound}
use Rattle.sd_refusal.proofs.bound_test.any_argument_passes.Given as goal

-- the arguments that are left decide
abbrev pub invariant-loop-name : goal.invariant-loop-name
invariant-loop-name g l =
    list_any (any_bound (g.T.BoundTest.of_bound l.test)) (map uses.argument (map call_argument_of (drop l.name-index l.arguments)))
    ≡ list_any (any_bound (g.T.BoundTest.of_bound l.test)) (map uses.argument (map call_argument_of l.arguments))
