use Rattle.std.proofs.Common.{◌≡◌}
use Rattle.sd_lex.specs.TreeFold.{block_of}
use Rattle.sd_context.specs.context.ContextFold.{context_of}
use Rattle.sd_context.specs.blocks.Judging as judging
use Rattle.sd_context.proofs.blocks.judging.judge_arguments.Given as goal

-- the number and the context so far are those behind the arguments so far
abbrev pub invariant-loop-argument : goal.invariant-loop-argument
invariant-loop-argument l = judging.judged_all l.line l.is_tasklet (l.initial.number, context_of l.initial.context) (judging.statement_heads (block_of l.yielded)) ≡ (l.number, context_of l.context)
