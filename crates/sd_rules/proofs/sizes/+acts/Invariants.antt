use Rattle.std.proofs.Common.{◌≡◌, drop}
use Rattle.sd_graph.specs.TreeFold.{act_trees}
use Rattle.sd_validity.specs.rules.SizesGone as sizes
use Rattle.sd_rules.proofs.sizes.+acts.Given as goal

-- those left have no size symbol where all have none
abbrev pub invariant-are_acts_free-loop-act : goal.invariant-are_acts_free-loop-act
invariant-are_acts_free-loop-act l = sizes.are_acts_free l.symbols l.variables (act_trees (drop l.act-index l.all)) ≡ sizes.are_acts_free l.symbols l.variables (act_trees l.all)
