use Rattle.std.proofs.Common.{◌≡◌, ◌+◌, ◌<◌, ◌^◌, map, slice_index_or, pos, FitsSigned, w64, ap, sym, ◌∙◌, arith, rules}
use Rattle.std.proofs.lemmas.Int.{to_z-of_z}
use Rattle.sd_tcode.proofs.columns_lemmas.Sides.{next_to, in_part}
use Rattle.sd_tcode.proofs.columns.filling.neighbours.Goals as goal

pub returns-in-Some-clause-values : goal.returns-in-Some-clause-values
returns-in-Some-clause-values g c i below =
    let element = g.T.Cell.element in
    let cells = c.args.cells.now in
    let first = c.in_ok-first.first in
    let end = c.in_ok-end_of.field-0 in
    let there = c.in-Some.ensures.lookup.0 in
    let end_is : end ≡ first + c.args.count = c.in_ok-end_of.ensures.0 in
    let small : end < 2 ^ 63 = c.in_ok-end_of.ensures.1 in
    let one : c.args.elements.now.step ≡ pos 1 = search rules in
    let fits : FitsSigned w64 c.at.result = record { sfits = c.at.type_inv } in
    in_part element cells c.in-Some.part.now first end i (search rules) (omega (arith, below, end_is)) there.1
    ∙ ap (λ place. slice_index_or (map element cells) place (pos 0))
    (sym (next_to c.args.elements.now c.args.from i first one (c.in_ok-first.ensures ∙ to_z-of_z w64 c.at.result fits ∙ c.at.ensures) (omega (arith, below, end_is, small))))
