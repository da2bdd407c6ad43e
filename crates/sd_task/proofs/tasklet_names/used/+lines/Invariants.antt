use Rattle.std.proofs.Common.{◌≡◌, ◌≤◌, drop, length}
use Rattle.sd_lex.specs.TreeFold.{block_of}
use Rattle.sd_task.specs.in_force.Stack.{oldest}
use Rattle.sd_task.specs.tasklet_names.UsedNames.{used_acts_all, next_behind_all}
use Rattle.sd_task.proofs.tasklet_names.used.+lines.Given as goal

abbrev pub invariant-push_used_block-loop-statement : goal.invariant-push_used_block-loop-statement
invariant-push_used_block-loop-statement l =
    let first = l.initial.locals in
    record {
      used : used_acts_all l.variables l.connectors.ins l.connectors.outs (block_of (drop l.statement-index l.body)) l.locals.names l.locals.next l.used.keys
          ≡ used_acts_all l.variables l.connectors.ins l.connectors.outs (block_of l.body) first.names first.next l.initial.used.keys;
      next : next_behind_all l.variables l.connectors.ins l.connectors.outs (block_of (drop l.statement-index l.body)) l.locals.names l.locals.next
          ≡ next_behind_all l.variables l.connectors.ins l.connectors.outs (block_of l.body) first.names first.next;
      kept : oldest (length first.names) l.locals.names ≡ first.names;
      long : length first.names ≤ length l.locals.names;
    }
