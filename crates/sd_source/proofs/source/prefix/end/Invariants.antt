use Rattle.std.proofs.Common.{◌≡◌, vec_len}
use Rattle.sd_context.specs.context.ContextFold.{context_of}
use Rattle.sd_source.specs.source.Prefix.{ended}
use Rattle.sd_source.proofs.source.prefix.end.Given as goal

-- the blocks that are left to end, from the context so far
abbrev pub invariant-loop-about : goal.invariant-loop-about
invariant-loop-about l = ended (context_of l.context) ≡ ended (context_of l.initial.context)

abbrev pub decreases-loop-about : goal.decreases-loop-about
decreases-loop-about l = vec_len l.context.outer
