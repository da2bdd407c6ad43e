use Rattle.std.proofs.Common.{◌≡◌, [], drop, map}
use Rattle.sd_lex.specs.TreeFold.{function_of}
use Rattle.sd_source.specs.nodes.KeptCounts.{kept_over}
use Rattle.sd_source.specs.nodes.NodeLimits.{lesser}
use Rattle.sd_source.proofs.nodes.limits.over_in.Given as goal

-- the least line so far with that of the functions that are left
abbrev pub invariant-loop-function : goal.invariant-loop-function
invariant-loop-function l = lesser l.least (kept_over l.limits l.before (map function_of (drop l.function-index l.functions))) ≡ kept_over l.limits (record { parameters = []; counts = [] }) (map function_of l.functions)
