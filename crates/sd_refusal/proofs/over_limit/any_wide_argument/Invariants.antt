use Rattle.std.proofs.Common.{◌≡◌, drop, map}
use Rattle.std.specs.List.{list_any}
use Rattle.sd_lex.specs.TreeFold.{call_argument_of}
use Rattle.sd_refusal.specs.OverLimit as over
use Rattle.sd_refusal.proofs.over_limit.any_wide_argument.Given as goal

-- the arguments that are left decide
abbrev pub invariant-loop-name : goal.invariant-loop-name
invariant-loop-name l = list_any over.argument_has_wide_step (map call_argument_of (drop l.name-index l.arguments)) ≡ list_any over.argument_has_wide_step (map call_argument_of l.arguments)
