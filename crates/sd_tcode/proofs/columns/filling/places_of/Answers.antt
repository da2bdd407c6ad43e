use Rattle.std.proofs.Common.{rules, ◌≡◌, ◌+◌, ◌*◌, ◌<◌, ◌^◌, pos, FitsSigned, w64, sym, ◌∙◌, arith}
use Rattle.std.proofs.lemmas.Int.{to_z-of_z}
use Rattle.sd_tcode.proofs.columns_lemmas.Sides.{next_at, not_behind}
use Rattle.sd_tcode.proofs.columns.filling.places_of.Goals as goal

pub returns-clause-places : goal.returns-clause-places
returns-clause-places g c i below =
    let step = c.args.elements.now.step in
    let first = c.in_ok-first.first in
    let distance = c.in_ok-distance.distance in
    let at_fits : FitsSigned w64 c.at.result = record { sfits = c.at.type_inv } in
    let step_fits : FitsSigned w64 step = search rules in
    let apart : step ≡ pos distance = sym (c.in_ok-distance.ensures ∙ to_z-of_z w64 step step_fits) in
    let end_small : first + distance * c.args.count < 2 ^ 63 = search rules in
    next_at c.args.elements.now c.args.from i first distance apart (c.in_ok-first.ensures ∙ to_z-of_z w64 c.at.result at_fits ∙ c.at.ensures) (omega (arith, end_small, not_behind first distance c.args.count i below))
