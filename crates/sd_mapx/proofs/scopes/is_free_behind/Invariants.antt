use Rattle.std.proofs.Common.{◌≡◌, drop}
use Rattle.sd_mapx.specs.ScopeTests as definition
use Rattle.sd_mapx.proofs.scopes.is_free_behind.Given as goal

-- the answer is that of the scopes that are left
abbrev pub invariant-loop-i : goal.invariant-loop-i
invariant-loop-i l = definition.is_free_behind l.path l.scopes ≡ definition.is_free_behind l.path (drop l.i l.scopes)
