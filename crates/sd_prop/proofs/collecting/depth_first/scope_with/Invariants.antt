use Rattle.std.proofs.Common.{◌≡◌, drop}
use Rattle.sd_prop.specs.propagation.Scopes.{scope_with}
use Rattle.sd_prop.proofs.collecting.depth_first.scope_with.Given as goal

-- it is that among those that are left
abbrev pub invariant-loop-scope : goal.invariant-loop-scope
invariant-loop-scope l = scope_with l.path l.scopes ≡ scope_with l.path (drop l.scope-index l.scopes)
