use Rattle.std.proofs.Common.{◌≡◌, drop}
use Rattle.sd_lex.specs.TreeFold.{expressions_of}
use Rattle.sd_task.specs.tasklet_names.UsedNames.{used_values}
use Rattle.sd_task.proofs.tasklet_names.expression.+used.Given as goal

abbrev pub invariant-push_all_used-loop-expression : goal.invariant-push_all_used-loop-expression
invariant-push_all_used-loop-expression l =
    used_values l.variables l.connectors.ins l.connectors.outs l.locals (expressions_of (drop l.expression-index l.expressions)) l.used.keys
    ≡ used_values l.variables l.connectors.ins l.connectors.outs l.locals (expressions_of l.expressions) l.initial.used.keys
