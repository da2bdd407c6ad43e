use Rattle.std.proofs.Common.{rules, FitsSigned, to_z-of_z, ◌∙◌, refl, map}
use Rattle.std.specs.Int.{w64}
use Rattle.sd_work.specs.Memory.{elements_of}
use Rattle.sd_mem.specs.mem.Cells.{array_lent}
use Rattle.sd_cut.specs.Elements.{told, IsUntouched}
use Rattle.sd_cut.proofs.RowLemmas.{row_next, row_done, told_pushed, all_pushed}
use Rattle.sd_cut.proofs.rows.with_row.Goals as goal

pub loop-number-preserved : goal.loop-number-preserved
loop-number-preserved c =
    let fits : FitsSigned w64 c.value_or_zero.result = search rules in
    let pushed = simp to_z-of_z at c.in_ok-push.ensures.items in
    record {
      untouched = all_pushed IsUntouched c.loop-number.all.items c.push.new.self.items _ pushed c.loop-number.invariant.untouched refl;
      told_so = row_next (elements_of (array_lent c.args.elements)) (map told c.loop-number.all.items) (map told c.push.new.self.items) c.loop-number.number c.in_ok-end.end c.value_or_zero.result
          c.loop-number-test.true c.value_or_zero.ensures (told_pushed c.loop-number.all.items c.push.new.self.items _ pushed) ∙ c.loop-number.invariant.told_so;
    }

pub returns-clause-told : goal.returns-clause-told
returns-clause-told c =
    row_done (elements_of (array_lent c.args.elements)) (map told c.loop-number.all.items) (map told c.args.cuts.items) c.args.place c.args.count c.loop-number.number c.in_ok-end.end (search rules) (search rules)
    c.loop-number.invariant.told_so
