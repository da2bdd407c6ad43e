-- A division that rounds towards zero, and what is moved to round down.
use Rattle.std.proofs.Common.{not, subst, ℕ, zero, suc, ◌/◌, ◌^◌, ◌<◌, ◌≤◌, ◌≡◌, ◌≢◌, ◌⊎◌, inl, inr, ⊎_elim, Bool, true, false, ap, sym, ◌∙◌, refl, ℤ, pos, negsuc, neg_ℤ, ◌+ℤ◌, ◌-ℤ◌, ◌<ℤ◌, ◌≤ℤ◌, FitsSigned, w64}
use native.Mathlib.Omega.{arith}
use Rattle.std.proofs.Math.Nat.{eq-or-lt_of_le, div-le_self}
use Rattle.std.proofs.Math.IntN.{pred_ℤ, -ℤ_one, pred_ℤ-*ℤ}
use Rattle.std.specs.Int.{cast_signed, cast_unsigned, int_wrap}
use Rattle.std.specs.Int.RustNames.{int_div, int_rem, unsigned_abs}
use Rattle.std.specs.Bool.{beq}
use Rattle.std.specs.Int.Signed.{lt_z}
use Rattle.std.proofs.lemmas.Int.{ints, to_z-of_z, int_wrap_fits, int_wrap-add_left, quot-rem, rem_below, SFits-int_wrap}
use Rattle.sd_num.specs.Wrapped.{wrapped}
use Rattle.sd_num.specs.Floor.{IsFloorDivision}

abs_neg : (n : ℕ) → unsigned_abs (neg_ℤ (pos n)) ≡ n
abs_neg zero = refl
abs_neg (suc n) = refl

pub quot_size : (a b : ℤ) → unsigned_abs (int_div a b) ≤ unsigned_abs a
quot_size (pos a) (pos b) = div-le_self a b
quot_size (pos a) (negsuc b) = omega (arith, abs_neg (a / suc b), div-le_self a (suc b))
quot_size (negsuc a) (pos b) = omega (arith, abs_neg (suc a / b), div-le_self (suc a) b)
quot_size (negsuc a) (negsuc b) = div-le_self (suc a) (suc b)

at_limit : cast_signed w64 (2 ^ 63) ≡ wrapped (pos (2 ^ 63))
unfolding int_wrap
at_limit = refl

wraps_fit : (z : ℤ) → FitsSigned w64 z → cast_signed w64 (cast_unsigned w64 z) ≡ wrapped z
wraps_fit z fits = to_z-of_z w64 z fits ∙ sym (int_wrap_fits w64 z fits)

-- a number of at most 2 ^ 63 in size wraps at most at its end
pub wraps_once : (z : ℤ) → unsigned_abs z ≤ 2 ^ 63 → cast_signed w64 (cast_unsigned w64 z) ≡ wrapped z
wraps_once (negsuc n) h = wraps_fit (negsuc n) (record { sfits = omega (arith, h) })
wraps_once (pos n) h = ⊎_elim (λ e. rw e at_limit) (λ lt. wraps_fit (pos n) (record { sfits = lt })) (eq-or-lt_of_le h)

abbrev Between : ℤ → ℤ → Type 0
Between b r = ((pos 0 ≤ℤ r) × (r <ℤ b)) ⊎ ((b <ℤ r) × (r ≤ℤ pos 0))

kept_between : (b r : ℤ) → unsigned_abs r < unsigned_abs b → (r ≡ pos 0) ⊎ (lt_z r (pos 0) ≡ lt_z b (pos 0)) → Between b r
kept_between (pos b) (pos r) h same = inl (omega (arith, ints), omega (arith, ints, h))
kept_between (pos b) (negsuc r) h (inl e) = grind (arith, ints, e)
kept_between (pos b) (negsuc r) h (inr e) = grind (arith, e)
kept_between (negsuc b) (negsuc r) h same = inr (omega (arith, ints, h), omega (arith, ints))
kept_between (negsuc b) (pos zero) h same = inr (omega (arith, ints), omega (arith, ints))
kept_between (negsuc b) (pos (suc r)) h (inl e) = grind (arith, ints, e)
kept_between (negsuc b) (pos (suc r)) h (inr e) = grind (arith, e)

moved_between : (b r : ℤ) → unsigned_abs r < unsigned_abs b → r ≢ pos 0 → lt_z r (pos 0) ≢ lt_z b (pos 0) → Between b (r +ℤ b)
moved_between (pos b) (pos r) h n differ = elim (differ (grind arith)) [ ]
moved_between (pos b) (negsuc r) h n differ = inl (omega (arith, ints, h), omega (arith, ints, h))
moved_between (negsuc b) (negsuc r) h n differ = elim (differ (grind arith)) [ ]
moved_between (negsuc b) (pos zero) h n differ = elim (n refl) [ ]
moved_between (negsuc b) (pos (suc r)) h n differ = inr (omega (arith, ints, h), omega (arith, ints, h))

pub kept : (a b : ℤ) → 0 < unsigned_abs b → (int_rem a b ≡ pos 0) ⊎ (lt_z (int_rem a b) (pos 0) ≡ lt_z b (pos 0)) → IsFloorDivision a b (int_div a b) (int_rem a b)
kept a b some same = record { whole = quot-rem a b; between = kept_between b (int_rem a b) (rem_below a b some) same }

pub moved : (a b : ℤ) → 0 < unsigned_abs b → int_rem a b ≢ pos 0 → lt_z (int_rem a b) (pos 0) ≢ lt_z b (pos 0) → IsFloorDivision a b (pred_ℤ (int_div a b)) (int_rem a b +ℤ b)
moved a b some n differ = record {
  whole = omega (arith, ints, pred_ℤ-*ℤ (int_div a b) b, quot-rem a b);
  between = moved_between b (int_rem a b) (rem_below a b some) n differ;
}

abs_le : (a : ℤ) → FitsSigned w64 a → unsigned_abs a ≤ 2 ^ 63
abs_le (pos a) f = omega (arith, f.sfits)
abs_le (negsuc a) f = omega (arith, f.sfits)

size_le : (a b : ℤ) → FitsSigned w64 a → unsigned_abs (int_div a b) ≤ 2 ^ 63
size_le a b f = omega (arith, quot_size a b, abs_le a f)

-- ---- as the code has them: numbers read back from their bits

pub rem_read : (a b r : ℤ) → FitsSigned w64 a → FitsSigned w64 b → r ≡ int_rem (cast_signed w64 (cast_unsigned w64 a)) (cast_signed w64 (cast_unsigned w64 b)) → r ≡ int_rem a b
rem_read a b r f g h = h ∙ (λ i. int_rem (to_z-of_z w64 a f i) (to_z-of_z w64 b g i))

pub quot_read : (a b q : ℤ) → FitsSigned w64 a → FitsSigned w64 b → q ≡ cast_signed w64 (cast_unsigned w64 (int_div (cast_signed w64 (cast_unsigned w64 a)) (cast_signed w64 (cast_unsigned w64 b)))) → q ≡ wrapped (int_div a b)
quot_read a b q f g h =
    h ∙ (λ i. cast_signed w64 (cast_unsigned w64 (int_div (to_z-of_z w64 a f i) (to_z-of_z w64 b g i))))
    ∙ wraps_once (int_div a b) (size_le a b f)

pub less_one : (q : ℤ) → wrapped (wrapped q -ℤ pos 1) ≡ wrapped (pred_ℤ q)
less_one q = int_wrap-add_left w64 q (neg_ℤ (pos 1)) ∙ ap wrapped (-ℤ_one q)

pub nonzero : (b : ℤ) → (cast_unsigned w64 b ≡ 0 → ⊥) → 0 < unsigned_abs b
nonzero (pos n) h = omega (arith, h)
nonzero (negsuc n) h = omega arith

between_fits : (b r : ℤ) → FitsSigned w64 b → Between b r → FitsSigned w64 r
between_fits (pos b) (pos r) f (inl h) = record { sfits = omega (arith, ints, f.sfits, h.1) }
between_fits (pos b) (pos r) f (inr h) = record { sfits = omega (arith, ints, h.0, h.1) }
between_fits (pos b) (negsuc r) f (inl h) = record { sfits = omega (arith, ints, h.0) }
between_fits (pos b) (negsuc r) f (inr h) = record { sfits = omega (arith, ints, h.0) }
between_fits (negsuc b) (pos r) f (inl h) = record { sfits = omega (arith, ints, h.1) }
between_fits (negsuc b) (pos r) f (inr h) = record { sfits = omega (arith, ints, h.1) }
between_fits (negsuc b) (negsuc r) f (inl h) = record { sfits = omega (arith, ints, h.0) }
between_fits (negsuc b) (negsuc r) f (inr h) = record { sfits = omega (arith, ints, f.sfits, h.0) }

pub between_is : (a b q r : ℤ) → FitsSigned w64 b → IsFloorDivision a b q r → wrapped r ≡ r
between_is a b q r f d = int_wrap_fits w64 r (between_fits b r f d.between)

pub unequal : (x y : Bool) → not (beq x y) ≡ true → x ≢ y
unequal true true h e = grind (arith, h)
unequal true false h e = grind (arith, e)
unequal false true h e = grind (arith, e)
unequal false false h e = grind (arith, h)

pub equal : (x y : Bool) → not (beq x y) ≡ false → x ≡ y
equal true true h = refl
equal true false h = grind (arith, h)
equal false true h = grind (arith, h)
equal false false h = refl

-- nothing lies between zero and a divisor of zero
none_between : (b r : ℤ) → Between b r → b ≢ pos 0
none_between b r (inl h) e = omega (arith, ints, h.0, h.1, e)
none_between b r (inr h) e = omega (arith, ints, h.0, h.1, e)

pub some_divisor : (a b quotient remainder : ℤ) → IsFloorDivision a b quotient remainder → b ≢ pos 0
some_divisor a b quotient remainder d = none_between b remainder d.between

-- a division of numbers read back from their bits
pub read_back : (a b quotient remainder : ℤ) → FitsSigned w64 a → FitsSigned w64 b → IsFloorDivision (cast_signed w64 (cast_unsigned w64 a)) (cast_signed w64 (cast_unsigned w64 b)) quotient remainder → IsFloorDivision a b quotient remainder
read_back a b quotient remainder f g d =
    subst (λ z. IsFloorDivision z b quotient remainder) (to_z-of_z w64 a f)
    (subst (λ z. IsFloorDivision (cast_signed w64 (cast_unsigned w64 a)) z quotient remainder) (to_z-of_z w64 b g) d)

pub wrapped_read : (z x : ℤ) → z ≡ wrapped x → cast_signed w64 (cast_unsigned w64 z) ≡ wrapped x
wrapped_read z x e = to_z-of_z w64 z (subst (FitsSigned w64) (sym e) (SFits-int_wrap w64 x)) ∙ e

pub remainder_read : (a b quotient r : ℤ) → FitsSigned w64 b → IsFloorDivision a b quotient r → IsFloorDivision a b quotient (cast_signed w64 (cast_unsigned w64 r))
remainder_read a b quotient r g d = subst (IsFloorDivision a b quotient) (sym (to_z-of_z w64 r (between_fits b r g d.between))) d
