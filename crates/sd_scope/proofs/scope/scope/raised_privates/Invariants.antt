use Rattle.std.proofs.Common.{◌≡◌, suc, map, option_map, take}
use Rattle.sd_scope.proofs.scope.scope.raised_privates.Given as goal

abbrev pub invariant-loop-level : goal.invariant-loop-level
invariant-loop-level l = l.inner.items ≡ map (option_map suc) (take l.level-index l.outer)
