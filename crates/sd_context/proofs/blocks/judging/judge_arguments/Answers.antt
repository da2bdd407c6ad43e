use Rattle.std.proofs.Common.{sym, ◌∙◌, ap}
use Rattle.sd_lex.specs.TreeFold.{statement_of}
use Rattle.sd_line.specs.line.Head.{statement_head}
use Rattle.sd_context.specs.context.ContextFold.{context_of}
use Rattle.sd_context.specs.blocks.Judging.{judged_one}
use Rattle.sd_context.proofs.blocks_lemmas.JudgingLemmas.{arguments_last}
use Rattle.sd_context.proofs.blocks.judging.judge_arguments.Goals as goal

pub loop-argument-preserved : goal.loop-argument-preserved
loop-argument-preserved c =
    arguments_last c.args.line c.args.is_tasklet (c.args.before, context_of c.args.context.now) c.loop-argument.yielded c.in-Some.argument
    ∙ (ap (λ so_far. judged_one c.args.line c.args.is_tasklet so_far (statement_head (statement_of c.in-Some.argument))) c.loop-argument.invariant ∙ sym c.in_ok-number.ensures)
