use Rattle.std.proofs.Common.{◌≡◌, ◌≤◌, ◌+◌, drop}
use Rattle.sd_tcode.specs.op.Within as within
use Rattle.sd_compile.proofs.reach.most_kept.Given as goal

-- with what is left it is that of all
abbrev pub invariant-loop-op : goal.invariant-loop-op
invariant-loop-op l = record {
  few : l.count ≤ l.op-index;
  left : l.count + within.most_kept (drop l.op-index l.ops) ≡ within.most_kept l.ops;
}
