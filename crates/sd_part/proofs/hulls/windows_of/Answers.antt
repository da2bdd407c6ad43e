use Rattle.std.proofs.Common.{inl, inr, sym, ◌∙◌, arith}
use Rattle.std.proofs.lemmas.Bool.{cases_lt}
use Rattle.std.proofs.lemmas.List.{get_or_past}
use Rattle.sd_part.proofs.HullLists.{window_above}
use Rattle.sd_part.proofs.hulls.windows_of.Goals as goal

pub returns-clause-windows : goal.returns-clause-windows
returns-clause-windows c =
    let end = c.numbers_below-number-end.result in
    let long = c.loop-number.invariant.long in
    let over = c.loop-number-test.false in
    λ container. elim (cases_lt container c.loop-number.number) [
      | inl less ↦ c.loop-number.invariant.windows container less
      | inr above ↦ get_or_past _ container _ (omega (arith, long, above)) ∙ sym (window_above c.args.boxes.now end container c.numbers_below-number-end.ensures.below (omega (arith, over, above)))
    ]
