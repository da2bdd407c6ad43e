use Rattle.std.proofs.Common.{◌≡◌, max, drop}
use Rattle.sd_compile.specs.Reach as needed
use Rattle.sd_compile.proofs.reach.reach_all.Given as goal

-- with what is left it is that of all
abbrev pub invariant-loop-op : goal.invariant-loop-op
invariant-loop-op l = max l.most (needed.reach_all (drop l.op-index l.ops)) ≡ needed.reach_all l.ops
