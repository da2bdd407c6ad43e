use Rattle.std.proofs.Common.{◌<◌, length, subst, rules}
use Rattle.sd_graph.specs.TreeFold.{graph_tree}
use Rattle.sd_scope.specs.scope.Standing.{context_of}
use Rattle.sd_row.proofs.row_lemmas.Comes.{as_finished}
use Rattle.sd_rows.specs.tasks.Runners.{IsRunnerOf}
use Rattle.sd_rows.proofs.tasks_lemmas.Items.{item_more, item_stop}
use Rattle.sd_rows.proofs.tasks_lemmas.Zips.{zip_length, zip_there, zip_again}
use Rattle.sd_rows.proofs.tasks.tasks.run_tasks.Goals as goal

pub index_mut-requires : goal.index_mut-requires
index_mut-requires c =
    let within : c.loop-number.number < length c.args.items.now = c.loop-number-test.true in
    let there : c.loop-number.number < length c.loop-number.runners.items = subst (λ many. c.loop-number.number < many) (zip_length IsRunnerOf c.args.items.now c.loop-number.runners.items c.loop-number.invariant.runners) within in
    search rules

pub run_item-requires : goal.run_item-requires
run_item-requires c = record {
  runner = zip_there IsRunnerOf c.args.items.now c.loop-number.runners.items c.loop-number.number c.index-items-number.result c.index_mut.result.now c.loop-number.invariant.runners c.loop-number-test.true
      c.index-items-number.is c.index_mut.ensures.value;
}

pub returns-in_default : goal.returns-in_default
returns-in_default c = record {
  end = item_stop _ (context_of (graph_tree c.args.graph.now) c.args.base.now c.args.scope.now) _ _ _ c.args.items.now c.loop-number.number c.index-items-number.result c.loop-number-test.true c.index-items-number.is c.loop-number.invariant.left
      c.in_ok-end.end c.in_ok-end.ensures.end c.in_default.not-Finished;
  runners = zip_again IsRunnerOf c.args.items.now c.loop-number.runners.items c.loop-number.number c.index-items-number.result c.run_item.new.runner c.loop-number.invariant.runners c.loop-number-test.true c.index-items-number.is c.in_ok-end.ensures.runner;
}

pub loop-number-preserved : goal.loop-number-preserved
loop-number-preserved c = record {
  left = item_more _ (context_of (graph_tree c.args.graph.now) c.args.base.now c.args.scope.now) _ _ _ c.args.items.now c.loop-number.number c.index-items-number.result c.loop-number-test.true c.index-items-number.is c.loop-number.invariant.left
      (as_finished _ _ _ c.in_ok-end.end c.in-Finished.is c.in_ok-end.ensures.end);
  runners = zip_again IsRunnerOf c.args.items.now c.loop-number.runners.items c.loop-number.number c.index-items-number.result c.run_item.new.runner c.loop-number.invariant.runners c.loop-number-test.true c.index-items-number.is c.in_ok-end.ensures.runner;
}
