use Rattle.std.proofs.Common.{◌≡◌, ◌++◌, drop}
use Rattle.sd_graph.specs.TreeFold.{value_trees}
use Rattle.sd_tcode.specs.tcode.Emitted.{values_code}
use Rattle.sd_compile.proofs.emit.+values.Given as goal

-- the code so far and that of what is left is the code of all
abbrev pub invariant-emit_values-loop-value : goal.invariant-emit_values-loop-value
invariant-emit_values-loop-value l =
    l.ops.items ++ values_code l.layout l.to (value_trees (drop l.value-index l.values)) ≡ l.fn.ops.items ++ values_code l.layout l.free (value_trees l.values)
