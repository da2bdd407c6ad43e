use Rattle.std.proofs.Common.{ap, sym, ◌∙◌, ◌≡◌, ◌≢◌, ◌⊎◌, inl, inr, pos, w64, ◌+ℤ◌, ◌-ℤ◌, to_z, of_z}
use Rattle.std.specs.Int.RustNames.{int_div, int_rem}
use Rattle.std.specs.Int.Signed.{lt_z}
use Rattle.std.proofs.Math.IntN.{pred_ℤ}
use Rattle.std.proofs.lemmas.Int.{to_z-of_z}
use Rattle.sd_num.specs.Wrapped.{wrapped}
use Rattle.sd_num.proofs.FloorLemmas.{kept, moved, rem_read, quot_read, less_one, nonzero, between_is, unequal, equal}
use Rattle.sd_num.proofs.floor.divided.Goals.{else-remainder-ne0-via-then-remainder-ne0+else-remainder-b, else-remainder-ne0-via-else-remainder-ne0}
use Rattle.sd_num.proofs.floor.divided.Goals as goal

pub returns-then-remainder-b-clause-some : goal.returns-then-remainder-b-clause-some
returns-then-remainder-b-clause-some c =
    let a = c.args.a in
    let b = c.args.b in
    let r = c.wrapping_rem-remainder.result in
    let q = c.wrapping_div-quotient.result in
    let b-is = to_z-of_z w64 b c.ranges.b in
    let r-is : to_z w64 (of_z w64 r) ≡ int_rem a b = to_z-of_z w64 r (record { sfits = c.wrapping_rem-remainder.type_inv }) ∙ rem_read a b r c.ranges.a c.ranges.b c.wrapping_rem-remainder.ensures in
    let q-is : to_z w64 (of_z w64 q) ≡ wrapped (int_div a b) = to_z-of_z w64 q (record { sfits = c.wrapping_div-quotient.type_inv }) ∙ quot_read a b q c.ranges.a c.ranges.b c.wrapping_div-quotient.ensures in
    let differ : lt_z (int_rem a b) (pos 0) ≢ lt_z b (pos 0) = λ e. unequal _ _ c.if-remainder-b.true (ap (λ z. lt_z z (pos 0)) r-is ∙ e ∙ sym (ap (λ z. lt_z z (pos 0)) b-is)) in
    let ne : int_rem a b ≢ pos 0 = λ e. c.if-remainder-ne0.true (ap (of_z w64) (rem_read a b r c.ranges.a c.ranges.b c.wrapping_rem-remainder.ensures ∙ e)) in
    let is = moved a b (nonzero b c.if-b-eq0.false) ne differ in
    let sum-is : to_z w64 (of_z w64 c.add.result) ≡ int_rem a b +ℤ b =
    to_z-of_z w64 c.add.result (record { sfits = c.add.type_inv }) ∙ c.add.ensures ∙ (λ i. wrapped (r-is i +ℤ b-is i)) ∙ between_is a b _ _ c.ranges.b is in (
      pred_ℤ (int_div a b),
      rw sum-is is,
      to_z-of_z w64 c.sub.result (record { sfits = c.sub.type_inv }) ∙ c.sub.ensures ∙ ap (λ z. wrapped (z -ℤ pos 1)) q-is ∙ less_one (int_div a b),
    )

pub returns-clause-some : goal.returns-clause-some
returns-clause-some c =
    let a = c.args.a in
    let b = c.args.b in
    let r = c.wrapping_rem-remainder.result in
    let q = c.wrapping_div-quotient.result in
    let b-is = to_z-of_z w64 b c.ranges.b in
    let r-read = rem_read a b r c.ranges.a c.ranges.b c.wrapping_rem-remainder.ensures in
    let r-is : to_z w64 (of_z w64 r) ≡ int_rem a b = to_z-of_z w64 r (record { sfits = c.wrapping_rem-remainder.type_inv }) ∙ r-read in
    let q-is : to_z w64 (of_z w64 q) ≡ wrapped (int_div a b) = to_z-of_z w64 q (record { sfits = c.wrapping_div-quotient.type_inv }) ∙ quot_read a b q c.ranges.a c.ranges.b c.wrapping_div-quotient.ensures in
    let same : (int_rem a b ≡ pos 0) ⊎ (lt_z (int_rem a b) (pos 0) ≡ lt_z b (pos 0)) = elim c.else-remainder-ne0.branch [
      | else-remainder-ne0-via-then-remainder-ne0+else-remainder-b w ↦ inr (sym (ap (λ z. lt_z z (pos 0)) r-is) ∙ equal _ _ w.if-remainder-b.false ∙ ap (λ z. lt_z z (pos 0)) b-is)
      | else-remainder-ne0-via-else-remainder-ne0 w ↦ inl (sym r-is ∙ ap (to_z w64) w.if-remainder-ne0.false)
    ] in
    (int_div a b, rw r-is (kept a b (nonzero b c.if-b-eq0.false) same), q-is)
