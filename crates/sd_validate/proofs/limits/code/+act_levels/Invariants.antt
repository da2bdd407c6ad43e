use Rattle.std.proofs.Common.{◌≡◌, nat_le, drop}
use Rattle.sd_graph.specs.TreeFold.{act_trees}
use Rattle.sd_validity.specs.rules.CodeSize as size
use Rattle.sd_validate.proofs.limits.code.+act_levels.Given as goal

-- those left have no more levels where all have no more
abbrev pub invariant-have_act_levels-loop-act : goal.invariant-have_act_levels-loop-act
invariant-have_act_levels-loop-act l = nat_le (size.acts_levels (act_trees (drop l.act-index l.acts))) l.most ≡ nat_le (size.acts_levels (act_trees l.acts)) l.most
