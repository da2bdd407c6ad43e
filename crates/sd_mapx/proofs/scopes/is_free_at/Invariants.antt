use Rattle.std.proofs.Common.{◌≡◌, drop}
use Rattle.sd_mapx.specs.ScopeTests as definition
use Rattle.sd_mapx.proofs.scopes.is_free_at.Given as goal

-- the answer is that of the scopes that are left
abbrev pub invariant-loop-scope : goal.invariant-loop-scope
invariant-loop-scope l = definition.is_free_at l.path l.scopes ≡ definition.is_free_at l.path (drop l.scope-index l.scopes)
