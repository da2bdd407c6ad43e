use Rattle.std.proofs.Common.{◌≡◌, ◌≤◌, drop, length, map}
use Rattle.sd_graph.specs.TreeFold.{act_tree}
use Rattle.sd_lex.specs.TreeFold.{block_of}
use Rattle.sd_task.specs.in_force.Stack.{oldest}
use Rattle.sd_task.specs.tasklet_names.UsedNames.{next_behind_all}
use Rattle.sd_task.specs.tasklets.Code.{acts_of}
use Rattle.sd_task.proofs.tasklets_lemmas.CodeLemmas.{acts_before}
use Rattle.sd_task.proofs.tasklets.act.+acts.Given as goal

abbrev pub invariant-acts-loop-statement : goal.invariant-acts-loop-statement
invariant-acts-loop-statement l =
    let first = l.initial.locals in
    record {
      made : acts_before (map act_tree l.acts.items) (acts_of l.variables l.connectors.ins l.connectors.outs l.used.keys (block_of (drop l.statement-index l.body)) l.locals.names l.locals.next)
          ≡ acts_of l.variables l.connectors.ins l.connectors.outs l.used.keys (block_of l.body) first.names first.next;
      next : next_behind_all l.variables l.connectors.ins l.connectors.outs (block_of (drop l.statement-index l.body)) l.locals.names l.locals.next
          ≡ next_behind_all l.variables l.connectors.ins l.connectors.outs (block_of l.body) first.names first.next;
      kept : oldest (length first.names) l.locals.names ≡ first.names;
      long : length first.names ≤ length l.locals.names;
    }
