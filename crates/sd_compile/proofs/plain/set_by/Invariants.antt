use Rattle.std.proofs.Common.{◌≡◌, [], drop}
use Rattle.sd_graph.specs.TreeFold.{act_trees}
use Rattle.sd_tcode.specs.tcode.Plain as plain
use Rattle.sd_compile.proofs.plain.set_by.Given as goal

-- what is left sets with what is set as all do
abbrev pub invariant-loop-act : goal.invariant-loop-act
invariant-loop-act l = plain.set_by l.order.items (act_trees (drop l.act-index l.acts)) ≡ plain.set_by [] (act_trees l.acts)
