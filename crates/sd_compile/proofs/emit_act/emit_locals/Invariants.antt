use Rattle.std.proofs.Common.{◌≡◌, ◌++◌, ◌+◌, ◌-◌}
use Rattle.sd_tcode.specs.tcode.Emitted.{locals_code}
use Rattle.sd_compile.proofs.emit_act.emit_locals.Given as goal

-- the code so far and that of what is left is the code of all
abbrev pub invariant-loop-k : goal.invariant-loop-k
invariant-loop-k l = l.ops.items ++ locals_code (l.first + l.k) (l.count - l.k) ≡ l.fn.ops.items ++ locals_code l.first l.count
