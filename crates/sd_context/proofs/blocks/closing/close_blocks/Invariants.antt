use Rattle.std.proofs.Common.{◌≡◌, ◌-◌}
use Rattle.sd_context.specs.context.ContextFold.{context_of}
use Rattle.sd_context.specs.blocks.Closing as closing
use Rattle.sd_context.proofs.blocks.closing.close_blocks.Given as goal

-- the blocks that are left to close, from the context so far
abbrev pub invariant-loop : goal.invariant-loop
invariant-loop l = closing.closed_times (l.count - l.counter) (context_of l.context) ≡ closing.closed_times l.count (context_of l.initial.context)
