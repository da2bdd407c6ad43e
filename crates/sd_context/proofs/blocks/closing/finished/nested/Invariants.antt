use Rattle.std.proofs.Common.{◌≡◌, map, vec_len}
use Rattle.sd_lex.specs.TreeFold.{statement_of}
use Rattle.sd_context.specs.context.ContextFold.{branch_of}
use Rattle.sd_context.specs.blocks.Closing as closing
use Rattle.sd_context.proofs.blocks.closing.finished.nested.Given as goal

-- the branches that are left, with what was made of those behind them
abbrev pub invariant-loop-branch : goal.invariant-loop-branch
invariant-loop-branch l =
    closing.nested l.kind (map branch_of l.left.items) (map statement_of l.other.items) ≡ closing.nested l.kind (map branch_of l.initial.left.items) (map statement_of l.initial.other.items)

abbrev pub decreases-loop-branch : goal.decreases-loop-branch
decreases-loop-branch l = vec_len l.left
