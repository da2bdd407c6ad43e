-- The quotient and the remainder as functions are those of a division that rounds down, and of no other.
use Rattle.std.proofs.Common.{◌≡◌, ◌≢◌, inl, inr, ℕ, zero, suc, ◌-◌, ◌/◌, ◌%◌, ◌<◌, refl, sym, subst, ℤ, pos, negsuc, neg_ℤ, ◌+ℤ◌, ◌*ℤ◌, arith}
use Rattle.std.proofs.lemmas.Int.{ints, quot-rem}
use Rattle.std.proofs.Math.Nat.{mod-lt}
use Rattle.std.proofs.Math.IntN.{*ℤ-negsuc}
use Rattle.std.specs.Int.{int_div_euclid}
use Rattle.sd_num.specs.Floor.{IsFloorDivision, floor_quotient, floor_remainder}
use Rattle.sd_num.proofs.FloorUnique.{one_quotient, one_remainder}
use Rattle.sd_num.proofs.Products.{*ℤ_distrib}

-- by a positive divisor
by_positive : (a : ℤ) (n : ℕ) → (r : ℕ) × (r < suc n) × (int_div_euclid a (pos (suc n)) *ℤ pos (suc n) +ℤ pos r ≡ a)
by_positive (pos a) n = (a % suc n, mod-lt a (omega arith), quot-rem (pos a) (pos (suc n)))
by_positive (negsuc a) n =
    let m : ℕ = a / suc n in
    let below : a % suc n < suc n = mod-lt a (omega arith) in (
      n - a % suc n,
      omega (arith, below),
      omega (arith, ints, below, quot-rem (pos a) (pos (suc n)), *ℤ_distrib (negsuc m) (pos (suc m)) (pos (suc n)), *ℤ_distrib (pos m) (pos 1) (pos (suc n))),
    )

pub floor_divides : (a b : ℤ) → b ≢ pos 0 → IsFloorDivision a b (floor_quotient a b) (floor_remainder a b)
floor_divides a (pos zero) some = absurd (some refl)
floor_divides a (pos (suc n)) some =
    let divides = by_positive a n in
    record { whole = omega (arith, ints); between = inl (omega (arith, ints, divides.1, divides.2), omega (arith, ints, divides.1, divides.2)) }
floor_divides a (negsuc n) some =
    let divides = by_positive (neg_ℤ a) n in
    let turned = *ℤ-negsuc (int_div_euclid (neg_ℤ a) (pos (suc n))) n in
    record { whole = omega (arith, ints); between = inr (omega (arith, ints, divides.1, divides.2, turned), omega (arith, ints, divides.1, divides.2, turned)) }

-- each floor division has this quotient
pub quotient_is : (a b q r : ℤ) → b ≢ pos 0 → IsFloorDivision a b q r → q ≡ floor_quotient a b
quotient_is a b q r some division = one_quotient a b q r (floor_quotient a b) (floor_remainder a b) division (floor_divides a b some)

-- and this remainder
pub remainder_is : (a b q r : ℤ) → b ≢ pos 0 → IsFloorDivision a b q r → r ≡ floor_remainder a b
remainder_is a b q r some division = one_remainder a b q r (floor_quotient a b) (floor_remainder a b) division (floor_divides a b some)

-- these two are a floor division
pub division_of : (a b q r : ℤ) → b ≢ pos 0 → (q ≡ floor_quotient a b) × (r ≡ floor_remainder a b) → IsFloorDivision a b q r
division_of a b q r some values =
    subst (λ x. IsFloorDivision a b x r) (sym values.0) (subst (λ y. IsFloorDivision a b (floor_quotient a b) y) (sym values.1) (floor_divides a b some))

-- computed on all four pairs of signs, with and without a rest
seven_by_two : floor_quotient (pos 7) (pos 2) ≡ pos 3
seven_by_two = refl

minus_seven_by_two : floor_quotient (neg_ℤ (pos 7)) (pos 2) ≡ neg_ℤ (pos 4)
minus_seven_by_two = refl

seven_by_minus_two : floor_quotient (pos 7) (neg_ℤ (pos 2)) ≡ neg_ℤ (pos 4)
seven_by_minus_two = refl

minus_seven_by_minus_two : floor_quotient (neg_ℤ (pos 7)) (neg_ℤ (pos 2)) ≡ pos 3
minus_seven_by_minus_two = refl

its_rest : floor_remainder (neg_ℤ (pos 7)) (neg_ℤ (pos 2)) ≡ neg_ℤ (pos 1)
its_rest = refl
