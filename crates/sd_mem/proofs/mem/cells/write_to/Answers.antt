use Rattle.std.proofs.Common.{ap, sym, ◌∙◌, FitsSigned}
use Rattle.std.specs.Int.{w64}
use Rattle.std.proofs.lemmas.Int.{to_z-of_z}
use Rattle.sd_num.specs.Width.{wrapped_to}
use Rattle.sd_num.specs.Resolution.{resolved}
use Rattle.sd_num.proofs.StoredLemmas.{wrapped_to-element}
use Rattle.sd_mem.proofs.mem.cells.write_to.Goals as goal

pub returns-in-Some : goal.returns-in-Some
returns-in-Some g c =
    let width = g.T.Cell.WIDTH in
    let old = c.value.result in
    let new = c.value-in-Some.result in
    let old_fits : FitsSigned w64 old = record { sfits = c.value.type_inv } in
    let new_fits : FitsSigned w64 new = record { sfits = c.value-in-Some.type_inv } in
    let both_fits : FitsSigned w64 c.resolve.result = record { sfits = c.resolve.type_inv } in
    let was = to_z-of_z w64 old old_fits ∙ sym (wrapped_to-element width old c.value.ensures.width) ∙ ap (wrapped_to width) c.value.ensures.value in
    let is = to_z-of_z w64 new new_fits ∙ c.value-in-Some.ensures.value ∙ c.of-in-Some.ensures ∙ ap (wrapped_to width) (to_z-of_z w64 c.args.value c.ranges.value) in
    rw c.in-Some.is (c.of-in-Some-2.ensures ∙ ap (wrapped_to width) (to_z-of_z w64 c.resolve.result both_fits ∙ c.resolve.ensures ∙ (λ i. resolved c.in-Some.resolution (was i) (is i))))
