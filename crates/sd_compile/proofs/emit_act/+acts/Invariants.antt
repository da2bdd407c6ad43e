use Rattle.std.proofs.Common.{◌≡◌, ◌++◌, drop}
use Rattle.sd_graph.specs.TreeFold.{act_trees}
use Rattle.sd_tcode.specs.tcode.Emitted.{acts_code}
use Rattle.sd_compile.proofs.emit_act.+acts.Given as goal

-- the code so far and that of what is left is the code of all
abbrev pub invariant-emit_acts-loop-act : goal.invariant-emit_acts-loop-act
invariant-emit_acts-loop-act l =
    l.ops.items ++ acts_code l.plain l.layout (act_trees (drop l.act-index l.acts)) ≡ l.fn.ops.items ++ acts_code l.plain l.layout (act_trees l.acts)
