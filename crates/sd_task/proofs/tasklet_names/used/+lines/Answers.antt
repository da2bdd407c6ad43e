use Rattle.std.proofs.Common.{arith, ◌≤◌, ◌∙◌, ap, sym, subst, length}
use Rattle.std.proofs.lemmas.Grind.{common_steps}
use Rattle.sd_lex.specs.TreeFold.{statement_of}
use Rattle.sd_task.specs.in_force.Stack.{oldest}
use Rattle.sd_task.proofs.tasklet_names_lemmas.LocalLemmas.{behind_keeps, behind_longer}
use Rattle.sd_task.proofs.tasklet_names.used.+lines.Goals as goal

pub push_used_block-loop-statement-preserved : goal.push_used_block-loop-statement-preserved
push_used_block-loop-statement-preserved t c =
    let first = c.args.locals.now.names in
    let behind = c.in_ok-push_used_line.ensures.locals in
    let invariant = c.loop-statement.invariant in
    record {
      used = grind (arith, common_steps);
      next = grind (arith, common_steps);
      kept = ap (λ names. oldest (length first) names) behind ∙ behind_keeps c.args.variables.now c.args.connectors.now.ins c.args.connectors.now.outs (statement_of c.statement-item.result) c.loop-statement.locals.names c.loop-statement.locals.next (length first) invariant.long ∙ invariant.kept;
      long = subst (λ names. length first ≤ length names) (sym behind) (behind_longer c.args.variables.now c.args.connectors.now.ins c.args.connectors.now.outs (statement_of c.statement-item.result) c.loop-statement.locals.names c.loop-statement.locals.next (length first) invariant.long);
    }
