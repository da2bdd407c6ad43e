use Rattle.std.proofs.Common.{get_or, ◌∙◌, arith, w64, FitsSigned, to_z, of_z}
use Rattle.std.proofs.lemmas.Int.{to_z-of_z}
use Rattle.std.proofs.lemmas.List.{get_or_default}
use Rattle.sd_tcode.specs.tcode.Held.{given}
use Rattle.sd_tcode.specs.columns.Columns.{value_on}
use Rattle.sd_row.proofs.row_lemmas.Loading.{none_set, one_more_set, all_are_set}
use Rattle.sd_row.proofs.row.point.set_variables.Goals as goal

pub set-requires : goal.set-requires
set-requires c = omega (arith, c.loop-number.invariant.set.many, c.loop-number-test.true)

pub loop-number-init : goal.loop-number-init
loop-number-init c = record {
  set = none_set (λ numbers. value_on numbers c.args.k) c.args.variables.now (given c.args.frame.now) c.requires.variables;
  ready = λ code ready. ready;
}

pub loop-number-preserved : goal.loop-number-preserved
loop-number-preserved c =
    let number = c.loop-number.number in
    let fits : FitsSigned w64 c.at.result = record { sfits = c.at.type_inv } in
    record {
      set = one_more_set (λ numbers. value_on numbers c.args.k) c.args.variables.now number (given c.args.frame.now) (given c.loop-number.frame) (given c.set.new.self) (get_or c.args.variables.now number _) (to_z w64 (of_z w64 c.at.result))
          c.loop-number.invariant.set c.loop-number-test.true (get_or_default c.args.variables.now number _ _ c.loop-number-test.true)
          (to_z-of_z w64 c.at.result fits ∙ c.at.ensures) c.set.ensures.given;
      ready = λ code ready. c.set.ensures.ready code (c.loop-number.invariant.ready code ready);
    }

pub returns-clause-given : goal.returns-clause-given
returns-clause-given c =
    all_are_set (λ numbers. value_on numbers c.args.k) c.args.variables.now c.loop-number.number (given c.args.frame.now) (given c.loop-number.frame) (omega arith) c.loop-number.invariant.set
