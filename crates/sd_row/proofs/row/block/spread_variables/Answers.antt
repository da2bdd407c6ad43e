use Rattle.std.proofs.Common.{◌≡◌, ◌+◌, ◌++◌, length, map, take, get_or, refl, ap, ◌∙◌, arith}
use Rattle.std.proofs.lemmas.List.{get_or_default, take_all}
use Rattle.sd_tcode.specs.declared.columns.spacing.Spaced.{Spaced}
use Rattle.sd_tcode.specs.columns.Columns.{value_on, registers_of}
use Rattle.sd_row.proofs.row_lemmas.Registers.{one_more, none_more, registers_many, kept_again, kept_same, no_numbers}
use Rattle.sd_row.proofs.row.block.spread_variables.Goals as goal

pub loop-number-init : goal.loop-number-init
loop-number-init c = record {
  kept = kept_same c.args.columns.now;
  set = λ run below. none_more c.args.first (registers_of c.args.columns.now run);
}

pub loop-number-preserved : goal.loop-number-preserved
loop-number-preserved c =
    let variables = c.args.variables.now in
    let number = c.loop-number.number in
    let first = c.args.first in
    let columns = c.loop-number.columns in
    let member : Spaced = get_or variables number no_numbers in
    let room = c.loop-number.invariant.kept.registers in
    record {
      kept = kept_again c.args.columns.now columns c.spread.new.self c.loop-number.invariant.kept c.spread.ensures.kept;
      set = λ run below.
          ap (take (first + (number + 1))) (c.spread.ensures.set run below)
          ∙ one_more (λ numbers. value_on numbers (c.args.from + run)) (take first (registers_of c.args.columns.now run)) (registers_of columns run) first number variables member _ c.loop-number-test.true (omega (arith, registers_many columns run, room, c.requires.registers, c.loop-number-test.true))
          (get_or_default variables number no_numbers _ c.loop-number-test.true) refl (c.loop-number.invariant.set run below);
    }

pub returns-clause-set : goal.returns-clause-set
returns-clause-set c run below =
    let variables = c.args.variables.now in
    let regs = registers_of c.loop-number.columns run in
    let all : length variables ≡ c.loop-number.number = omega (arith, c.loop-number-test.false, c.loop-number.auto.number-end) in
    ap (λ count. take (c.args.first + count) regs) all
    ∙ c.loop-number.invariant.set run below
    ∙ ap (λ variables. take c.args.first (registers_of c.args.columns.now run) ++ map (λ numbers. value_on numbers (c.args.from + run)) variables) (take_all c.loop-number.number variables c.loop-number-test.false)
