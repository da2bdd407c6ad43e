use Rattle.std.proofs.Common.{[], ◌∷◌, ℤ, length, map, get_or, ap, ◌∙◌, arith, rules, w64, FitsSigned, to_z, of_z}
use Rattle.std.proofs.lemmas.Int.{to_z-of_z}
use Rattle.std.proofs.lemmas.List.{get_or_default}
use Rattle.sd_tcode.specs.tcode.Held.{given}
use Rattle.sd_row.proofs.row_lemmas.Loading.{room_there, none_loaded, one_loaded, all_loaded}
use Rattle.sd_rows.specs.consume.Own.{seen_from}
use Rattle.sd_rows.proofs.consume.source.load_element.Goals as goal

pub load-requires : goal.load-requires
load-requires c =
    room_there (given c.loop-number.frame) c.loop-number.number (length c.args.sources.now) c.loop-number.invariant.loaded.singles c.loop-number.invariant.loaded.many c.loop-number-test.true

pub loop-number-init : goal.loop-number-init
loop-number-init c = record {
  loaded = none_loaded (seen_from (to_z w64 (of_z w64 c.args.value)) c.args.machine.now.memories) c.args.sources.now (given c.args.frame.now) c.requires.reads c.requires.singles;
  ready = λ code ready. ready;
}

pub loop-number-preserved : goal.loop-number-preserved
loop-number-preserved c =
    let sources = c.args.sources.now in
    let number = c.loop-number.number in
    let fits : FitsSigned w64 c.seen.result = record { sfits = c.seen.type_inv } in
    record {
      loaded = one_loaded (seen_from (to_z w64 (of_z w64 c.args.value)) c.args.machine.now.memories) sources number (given c.args.frame.now) (given c.loop-number.frame) (given c.load.new.self) (get_or sources number _) (to_z w64 (of_z w64 c.seen.result))
          c.loop-number.invariant.loaded c.loop-number-test.true (get_or_default sources number _ _ c.loop-number-test.true)
          (to_z-of_z w64 c.seen.result fits ∙ c.seen.ensures) c.load.ensures.given;
      ready = λ code ready. c.load.ensures.ready code (c.loop-number.invariant.ready code ready);
    }

pub returns-clause-given : goal.returns-clause-given
returns-clause-given c =
    let fits : FitsSigned w64 c.args.value = search rules in
    all_loaded (seen_from (to_z w64 (of_z w64 c.args.value)) c.args.machine.now.memories) c.args.sources.now c.loop-number.number (given c.args.frame.now) (given c.loop-number.frame) (omega arith) c.loop-number.invariant.loaded
    ∙ ap (λ (value : ℤ). record (given c.args.frame.now) { values = map (λ source. seen_from value c.args.machine.now.memories source ∷ []) c.args.sources.now }) (to_z-of_z w64 c.args.value fits)
