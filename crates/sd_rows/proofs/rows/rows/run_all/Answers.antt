use Rattle.std.proofs.Common.{◌≡◌, [], is_some, ap, sym, ◌∙◌}
use Rattle.sd_range.specs.Points.{Walk}
use Rattle.sd_graph.specs.Context.{private_memory}
use Rattle.sd_leaves.proofs.leaves_lemmas.Lists.{none_here}
use Rattle.sd_row.proofs.instance_lemmas.Bodies.{containers_in}
use Rattle.sd_row.proofs.row_lemmas.Comes.{as_finished}
use Rattle.sd_rows.specs.rows.Map.{tree_of, context_at}
use Rattle.sd_rows.proofs.rows_lemmas.Points.{point_first}
use Rattle.sd_rows.proofs.rows_lemmas.RowsOfMap.{rows_begin, row_more, row_stop, rows_end}
use Rattle.sd_rows.proofs.rows.rows.run_all.Goals as goal

pub loop-alloc-init : goal.loop-alloc-init
loop-alloc-init c =
    let task = c.args.task.now in
    record {
      left = rows_begin (tree_of task) task.ins.now task.outs.now task.line task.params.now task.private.now (context_at task) c.args.steps.now c.args.outer.now c.args.machine.now c.in_ok-rows.rows c.requires.steps c.in_ok-rows.ensures;
      instance = c.requires.instance;
      columns = c.requires.columns;
      first = c.in_ok-first.ensures;
      last = c.in_ok-last.ensures;
      band = c.none-band.ensures task c.args.steps.now c.args.instance.now.code;
      own = c.in_ok-own.ensures.contents ∙ ap (λ containers. private_memory containers task.private.now) (containers_in task.graph.now);
    }

pub loop-alloc-preserved : goal.loop-alloc-preserved
loop-alloc-preserved c =
    let task = c.args.task.now in
    record {
      left = row_more (tree_of task) task.ins.now task.outs.now task.line task.params.now task.private.now (context_at task) c.args.steps.now _ c.at.result.now _ _ _ _ _
          (point_first c.loop-alloc.rows c.next.new.self c.at.result.now c.loop-alloc-test.ensures.step c.at.ensures) c.loop-alloc.invariant.left
          (as_finished _ _ _ c.in_ok-end.end c.in-Finished.is c.in_ok-end.ensures.end);
      instance = c.in_ok-end.ensures.instance;
      columns = c.in_ok-end.ensures.columns;
      first = c.in_ok-end.ensures.first;
      last = c.in_ok-end.ensures.last;
      band = c.in_ok-end.ensures.band;
      own = c.in_ok-end.ensures.own;
    }

pub returns-in_default : goal.returns-in_default
returns-in_default c =
    let task = c.args.task.now in
    record {
      end = row_stop (tree_of task) task.ins.now task.outs.now task.line task.params.now task.private.now (context_at task) c.args.steps.now _ c.at.result.now _ _ _ _ _
          (point_first c.loop-alloc.rows c.next.new.self c.at.result.now c.loop-alloc-test.ensures.step c.at.ensures) c.loop-alloc.invariant.left c.in_ok-end.end c.in_ok-end.ensures.end c.in_default.not-Finished;
    }

pub returns : goal.returns
returns c =
    let none : c.loop-alloc.rows.left ≡ [] = none_here c.loop-alloc.rows.left (ap (λ (walk : Walk). is_some walk.current) (sym c.next.ensures.step) ∙ sym c.next.ensures.found ∙ c.loop-alloc-test.false) in
    let task = c.args.task.now in
    record {
      end = rows_end (tree_of task) task.ins.now task.outs.now task.line task.params.now task.private.now (context_at task) c.args.steps.now _ c.loop-alloc.rows.left c.args.machine.now c.loop-alloc.machine none c.loop-alloc.invariant.left;
    }
