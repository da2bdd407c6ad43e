use Rattle.std.proofs.Common.{length, get_or, ap, ◌∙◌, arith, w64, FitsSigned, to_z, of_z}
use Rattle.std.proofs.lemmas.Int.{to_z-of_z}
use Rattle.std.proofs.lemmas.List.{get_or_default}
use Rattle.sd_work.specs.Memory.{look}
use Rattle.sd_tcode.specs.tcode.Held.{given}
use Rattle.sd_row.specs.declared.view.window.Window.{Window}
use Rattle.sd_row.specs.row.Point.{seen_on}
use Rattle.sd_row.proofs.row_lemmas.Loading.{room_there, none_loaded, one_loaded, all_loaded}
use Rattle.sd_row.proofs.view.running.load_first.Goals as goal

pub load-requires : goal.load-requires
load-requires c =
    room_there (given c.loop-number.frame) c.loop-number.number (length c.args.inputs.now) c.loop-number.invariant.loaded.singles c.loop-number.invariant.loaded.many c.loop-number-test.true

pub loop-number-init : goal.loop-number-init
loop-number-init c = record {
  loaded = none_loaded (λ (window : Window). seen_on c.args.k c.args.machine.now.memories window.first) c.args.inputs.now (given c.args.frame.now) c.requires.inputs c.requires.singles;
  ready = λ code ready. ready;
}

pub loop-number-preserved : goal.loop-number-preserved
loop-number-preserved c =
    let memories = c.args.machine.now.memories in
    let number = c.loop-number.number in
    let fits : FitsSigned w64 c.look.result = record { sfits = c.look.type_inv } in
    record {
      loaded = one_loaded (λ (window : Window). seen_on c.args.k memories window.first) c.args.inputs.now number (given c.args.frame.now) (given c.loop-number.frame) (given c.load.new.self) (get_or c.args.inputs.now number _) (to_z w64 (of_z w64 c.look.result))
          c.loop-number.invariant.loaded c.loop-number-test.true (get_or_default c.args.inputs.now number _ _ c.loop-number-test.true)
          (to_z-of_z w64 c.look.result fits ∙ c.look.ensures ∙ ap (λ reference. look reference memories) c.cell.ensures) c.load.ensures.given;
      ready = λ code ready. c.load.ensures.ready code (c.loop-number.invariant.ready code ready);
    }

pub returns-clause-given : goal.returns-clause-given
returns-clause-given c =
    all_loaded (λ (window : Window). seen_on c.args.k c.args.machine.now.memories window.first) c.args.inputs.now c.loop-number.number (given c.args.frame.now) (given c.loop-number.frame) (omega arith) c.loop-number.invariant.loaded
