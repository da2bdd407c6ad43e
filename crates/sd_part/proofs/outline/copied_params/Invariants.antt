use Rattle.std.proofs.Common.{◌≡◌, take}
use Rattle.sd_part.proofs.outline.copied_params.Given as goal

-- the parameters so far
abbrev pub invariant-loop-variable : goal.invariant-loop-variable
invariant-loop-variable l = l.copy.items ≡ take l.variable-index l.params
