use Rattle.std.proofs.Common.{◌≡◌, ◌++◌, drop, map}
use Rattle.sd_graph.specs.TreeFold.{value_tree}
use Rattle.sd_lex.specs.TreeFold.{expression_of}
use Rattle.sd_task.specs.tasklets.Code.{task_value}
use Rattle.sd_task.proofs.tasklets.value.+values.Given as goal

abbrev pub invariant-values-loop-expression : goal.invariant-values-loop-expression
invariant-values-loop-expression l =
    map value_tree l.values.items ++ map (λ e. task_value l.variables l.connectors.ins l.connectors.outs l.used.keys l.locals (expression_of e)) (drop l.expression-index l.expressions)
    ≡ map (λ e. task_value l.variables l.connectors.ins l.connectors.outs l.used.keys l.locals (expression_of e)) l.expressions
