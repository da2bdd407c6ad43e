use Rattle.std.proofs.Common.{◌≡◌, drop, map}
use Rattle.std.specs.List.{list_any, zip}
use Rattle.sd_lex.specs.TreeFold.{call_argument_of}
use Rattle.sd_uses.proofs.shape_mismatch.any_argument.Given as goal

-- what is left decides
abbrev pub invariant-loop-name : goal.invariant-loop-name
invariant-loop-name g l =
    list_any (g.T.ArgumentTest.of_pair l.test) (zip (map call_argument_of (drop l.name-index l.arguments)) l.left)
    ≡ list_any (g.T.ArgumentTest.of_pair l.test) (zip (map call_argument_of l.arguments) l.parameters)
