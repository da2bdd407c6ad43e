use Rattle.std.proofs.Common.{◌≡◌, ◌+◌, drop}
use Rattle.sd_graph.specs.TreeFold.{act_trees}
use Rattle.sd_validity.specs.rules.CodeSize as size
use Rattle.sd_validate.proofs.limits.code.+lines.Given as goal

-- the lines that are left, with those of the statements so far, are as many as at first
abbrev pub invariant-lines_behind-loop-act : goal.invariant-lines_behind-loop-act
invariant-lines_behind-loop-act l = size.acts_lines (act_trees l.acts) + l.rest ≡ l.left + size.acts_lines (act_trees (drop l.act-index l.acts))
