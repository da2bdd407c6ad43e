use Rattle.std.proofs.Common.{◌-◌, subst, arith}
use Rattle.sd_mem.specs.machine.ComesTo.{IsEnd}
use Rattle.sd_row.specs.declared.row.row_run.RowEnd.{RowEnd}
use Rattle.sd_row.specs.row.Point.{below}
use Rattle.sd_row.specs.row.Setting.{row_coming, end_of_row}
use Rattle.sd_row.proofs.row_lemmas.RowSteps.{row_begins, row_ends}
use Rattle.sd_row.proofs.row_lemmas.BlockRuns.{block_more, block_stop, row_stops, until_there}
use Rattle.sd_row.proofs.row_lemmas.Registers.{kept_again, kept_same}
use Rattle.sd_row.proofs.row.row_run.run_row.Goals as goal

pub loop-from-init : goal.loop-from-init
loop-from-init c = record {
  left = λ setting is over. row_begins setting c.args.count (below c.args.machine.now);
  over = λ setting is over. over;
  ready = c.requires.ready;
  scalars = c.requires.scalars;
  columns = kept_same c.args.columns.now;
}

pub loop-from-preserved : goal.loop-from-preserved
loop-from-preserved c = record {
  left = λ setting is over.
      let from = c.loop-from.from in
      let until = c.block_end-until.result in
      let middle = c.loop-from.machine in
      let now = c.run_some.new.machine in
      let here = until_there setting c.args.row.now c.args.code.now c.args.count until c.block_end-until.ensures.within is in
      let ends = subst (λ (end : RowEnd). IsEnd (row_coming setting from (until - from) (below middle)) (below middle) (end_of_row setting end) (below now)) c.in-Finished.is
      (c.run_some.ensures.end setting here (c.loop-from.invariant.over setting is over)) in
      block_more setting (row_coming setting 0 c.args.count (below c.args.machine.now)) (below c.args.machine.now) (below middle) (below now) from until c.args.count (omega (arith, c.block_end-until.ensures.more)) c.block_end-until.ensures.within
      (c.loop-from.invariant.left setting is over) ends;
  over = λ setting is over. c.run_some.ensures.own setting (until_there setting c.args.row.now c.args.code.now c.args.count c.block_end-until.result c.block_end-until.ensures.within is) (c.loop-from.invariant.over setting is over);
  ready = c.run_some.ensures.ready;
  scalars = c.run_some.ensures.scalars;
  columns = kept_again c.args.columns.now c.loop-from.columns c.run_some.new.columns c.loop-from.invariant.columns c.run_some.ensures.columns;
}

pub returns-in_default-clause-end : goal.returns-in_default-clause-end
returns-in_default-clause-end c setting is over =
    let from = c.loop-from.from in
    let until = c.block_end-until.result in
    let middle = c.loop-from.machine in
    let now = c.run_some.new.machine in
    let here = until_there setting c.args.row.now c.args.code.now c.args.count until c.block_end-until.ensures.within is in
    block_stop setting (row_coming setting 0 c.args.count (below c.args.machine.now)) (below c.args.machine.now) (below middle) (below now) from until c.args.count (omega (arith, c.block_end-until.ensures.more)) c.block_end-until.ensures.within
    (c.loop-from.invariant.left setting is over) (end_of_row setting c.run_some.result)
    (c.run_some.ensures.end setting here (c.loop-from.invariant.over setting is over)) (row_stops setting c.run_some.result c.in_default.not-Finished)

pub returns-clause-end : goal.returns-clause-end
returns-clause-end c setting is over =
    row_ends setting (row_coming setting 0 c.args.count (below c.args.machine.now)) (below c.args.machine.now) (below c.loop-from.machine) c.loop-from.from c.args.count (omega arith) (c.loop-from.invariant.left setting is over)

pub returns-in_default-clause-own : goal.returns-in_default-clause-own
returns-in_default-clause-own c setting is over =
    c.run_some.ensures.own setting (until_there setting c.args.row.now c.args.code.now c.args.count c.block_end-until.result c.block_end-until.ensures.within is) (c.loop-from.invariant.over setting is over)
