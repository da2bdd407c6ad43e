use Rattle.std.proofs.Common.{◌≡◌, take, map}
use Rattle.sd_prop.specs.propagation.Joined.{propagated}
use Rattle.sd_prop.proofs.collecting.top.annotate.Given as goal

-- those so far
abbrev pub invariant-loop-scope : goal.invariant-loop-scope
invariant-loop-scope l = l.all.items ≡ map (λ scope. (scope.path, propagated scope)) (take l.scope-index l.scope-items)
