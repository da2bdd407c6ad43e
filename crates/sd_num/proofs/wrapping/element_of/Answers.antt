use Rattle.std.proofs.Common.{ap, ◌∙◌, ◌^◌, w64, pos}
use Rattle.std.specs.Int.{w128, cast_signed, int_rem_euclid, int_wrap}
use Rattle.std.specs.Int.RustNames.{unsigned_abs}
use Rattle.std.proofs.lemmas.Int.{to_z-of_z}
use Rattle.sd_num.proofs.wrapping.element_of.Goals as goal

pub returns : goal.returns
unfolding int_wrap
returns c =
    let rest = c.rem_euclid in
    to_z-of_z w64 c.cast_signed.result (record { sfits = c.cast_signed.type_inv })
    ∙ c.cast_signed.ensures
    ∙ ap (λ z. cast_signed w64 (unsigned_abs z)) (to_z-of_z w128 rest.result (record { sfits = rest.type_inv }) ∙ rest.ensures.value ∙ ap (λ z. int_rem_euclid z (pos (2 ^ 64))) (to_z-of_z w128 c.args.value c.ranges.value))
