-- A floor division has one quotient and one remainder.
use Rattle.std.proofs.Common.{ℕ, suc, ◌≡◌, ◌⊎◌, inl, inr, ap, ℤ, pos, negsuc, ◌+ℤ◌, ◌-ℤ◌, ◌*ℤ◌, ◌<ℤ◌, ◌≤ℤ◌, unsigned_abs, arith}
use Rattle.std.proofs.lemmas.Int.{ints, by_lt_z}
use Rattle.std.proofs.Math.IntN.{pos-*ℤ-pos, *ℤ-negsuc}
use Rattle.sd_num.specs.Floor.{IsFloorDivision}
use Rattle.sd_num.proofs.Products.{*ℤ_distrib}

abbrev Between : ℤ → ℤ → Type 0
Between b r = ((pos 0 ≤ℤ r) × (r <ℤ b)) ⊎ ((b <ℤ r) × (r ≤ℤ pos 0))

-- two remainders are no whole divisors apart
less_apart : (k : ℕ) (b r s : ℤ) → Between b r → Between b s → r ≡ s +ℤ (pos (suc k) *ℤ b) → ⊥
less_apart k (pos n) r s (inl h) (inl g) e = omega (arith, ints, h.0, h.1, g.0, g.1, e, pos-*ℤ-pos (suc k) n)
less_apart k (pos n) r s (inr h) g e = omega (arith, ints, h.0, h.1)
less_apart k (pos n) r s (inl h) (inr g) e = omega (arith, ints, g.0, g.1)
less_apart k (negsuc n) r s (inr h) (inr g) e = omega (arith, ints, h.0, h.1, g.0, g.1, e, *ℤ-negsuc (pos (suc k)) n, pos-*ℤ-pos (suc k) (suc n))
less_apart k (negsuc n) r s (inl h) g e = omega (arith, ints, h.0, h.1)
less_apart k (negsuc n) r s (inr h) (inl g) e = omega (arith, ints, g.0, g.1)

-- no quotient is less than another
not_less : (a b q r p s : ℤ) → IsFloorDivision a b q r → IsFloorDivision a b p s → q <ℤ p → ⊥
not_less a b q r p s d e less =
    let k : ℕ = unsigned_abs (p -ℤ q -ℤ pos 1) in
    let more : p ≡ q +ℤ pos (suc k) = omega (arith, ints) in
    less_apart k b r s d.between e.between
    (omega (arith, ints, d.whole, e.whole, ap (λ z. z *ℤ b) more, *ℤ_distrib q (pos (suc k)) b))

pub one_quotient : (a b q r p s : ℤ) → IsFloorDivision a b q r → IsFloorDivision a b p s → q ≡ p
one_quotient a b q r p s d e = by_lt_z q p (λ less. absurd (not_less a b q r p s d e less)) (λ not_above. by_lt_z p q (λ less. absurd (not_less a b p s q r e d less)) (λ not_below. omega (arith, ints)))

pub one_remainder : (a b q r p s : ℤ) → IsFloorDivision a b q r → IsFloorDivision a b p s → r ≡ s
one_remainder a b q r p s d e = omega (arith, ints, d.whole, e.whole, ap (λ z. z *ℤ b) (one_quotient a b q r p s d e))
