use Rattle.std.proofs.Common.{◌-◌, sym, ◌∙◌, subst, rules, map}
use Rattle.sd_work.specs.BigStep.{Reached}
use Rattle.sd_mem.specs.machine.ComesTo.{IsEnd}
use Rattle.sd_mem.specs.declared.machine.end.End.TheVariants as ends
use Rattle.sd_row.specs.row.Point.{IsOver, below}
use Rattle.sd_row.specs.row.Setting.{row_coming, end_of_row}
use Rattle.sd_tcode.specs.op.Machine.{held}
use Rattle.sd_tcode.proofs.tcode_lemmas.Frames.{dims_held}
use Rattle.sd_row.proofs.row.row_run.run_some.Goals as goal

pub returns-then-run_products-clause-end : goal.returns-then-run_products-clause-end
returns-then-run_products-clause-end c setting is over =
    c.run_products.ensures.done (search rules) setting (map held c.args.frame.now.arrays.items) is over (dims_held c.args.frame.now.arrays.items ∙ c.requires.ready.fits.arrays) c.requires.scalars.extents

pub returns-then-run_block-clause-end : goal.returns-then-run_block-clause-end
returns-then-run_block-clause-end c setting is over =
    let same = c.run_products.ensures.not_done (search rules) in
    subst (λ (old : Reached). IsEnd (row_coming setting c.args.from (c.args.until - c.args.from) (below old)) (below old) ends.Finished (below c.run_block.new.machine)) same
    (c.run_block.ensures.done (search rules) setting (map held c.args.frame.now.arrays.items) is (subst (λ (old : Reached). IsOver setting.own old) (sym same) over) (dims_held c.args.frame.now.arrays.items ∙ c.requires.ready.fits.arrays) c.requires.scalars.extents)

pub returns-then-run_block-clause-own : goal.returns-then-run_block-clause-own
returns-then-run_block-clause-own c setting is over =
    c.run_block.ensures.own (search rules) setting is (subst (λ (old : Reached). IsOver setting.own old) (sym (c.run_products.ensures.not_done (search rules))) over)

pub returns-clause-end : goal.returns-clause-end
returns-clause-end c setting is over =
    let same = c.run_block.ensures.not_done (search rules) ∙ c.run_products.ensures.not_done (search rules) in
    subst (λ (old : Reached). IsEnd (row_coming setting c.args.from (c.args.until - c.args.from) (below old)) (below old) (end_of_row setting c.run_each-2.result) (below c.run_each-2.new.machine)) same
    (c.run_each-2.ensures.end setting is (subst (λ (old : Reached). IsOver setting.own old) (sym same) over))

pub returns-clause-own : goal.returns-clause-own
returns-clause-own c setting is over =
    let same = c.run_block.ensures.not_done (search rules) ∙ c.run_products.ensures.not_done (search rules) in
    c.run_each-2.ensures.own setting is (subst (λ (old : Reached). IsOver setting.own old) (sym same) over)
