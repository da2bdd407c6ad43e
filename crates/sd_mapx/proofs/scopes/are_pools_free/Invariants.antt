use Rattle.std.proofs.Common.{◌≡◌, drop}
use Rattle.sd_mapx.specs.ScopeTests as definition
use Rattle.sd_mapx.proofs.scopes.are_pools_free.Given as goal

-- the answer is that of the scopes that are left
abbrev pub invariant-loop-scope : goal.invariant-loop-scope
invariant-loop-scope l = definition.are_pools_free l.scopes ≡ definition.are_pools_free (drop l.scope-index l.scopes)
