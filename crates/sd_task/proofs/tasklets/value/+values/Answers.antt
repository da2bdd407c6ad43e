use Rattle.std.proofs.Common.{rules, ◌≤◌, ◌∙◌, ap, length}
use Rattle.sd_graph.specs.TreeFold.{values_listed}
use Rattle.sd_lex.specs.TreeFold.{expression_of}
use Rattle.sd_task.specs.tasklets.Code.{task_value}
use Rattle.sd_task.proofs.tasklets_lemmas.CodeLemmas.{values_mapped}
use Rattle.sd_task.proofs.in_force_lemmas.ListLemmas.{all_mapped}
use Rattle.sd_task.proofs.tasklets.value.+values.Goals as goal

pub values-returns : goal.values-returns
values-returns t c =
    let connectors = c.args.connectors.now in
    let locals = c.args.locals.now in
    let done : length c.args.expressions.now ≤ c.loop-expression.expression-index = search rules in
    ap values_listed (all_mapped (λ e. task_value c.args.variables.now connectors.ins connectors.outs c.args.used.now.keys locals (expression_of e)) _ c.args.expressions.now c.loop-expression.expression-index done c.loop-expression.invariant)
    ∙ values_mapped c.args.variables.now connectors.ins connectors.outs c.args.used.now.keys locals c.args.expressions.now
