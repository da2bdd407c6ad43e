use Rattle.std.proofs.Common.{◌≡◌, ◌++◌, take, map}
use Rattle.sd_places.proofs.ranks.naming.push_variables.Given as goal

-- the variables so far
abbrev pub invariant-loop-variable : goal.invariant-loop-variable
invariant-loop-variable l = l.named.items ≡ l.initial.named.items ++ map (λ term. term.0) (take l.variable-index l.variable-items)
