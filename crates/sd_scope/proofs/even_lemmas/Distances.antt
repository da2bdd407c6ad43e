-- Numbers at equal distances: their sums and products, one after another, between bounds, and their one distance.
use Rattle.std.proofs.Common.{◌≡◌, ℕ, zero, suc, ◌+◌, ◌*◌, ◌<◌, ◌≤◌, ℤ, pos, negsuc, ◌+ℤ◌, ◌-ℤ◌, ◌*ℤ◌, ◌≤ℤ◌, refl, ap, sym, ◌∙◌, arith}
use Rattle.std.proofs.lemmas.Int.{ints}
use Rattle.std.proofs.Math.Nat.{mul-le-mul}
use Rattle.std.proofs.Math.IntN.{pos-*ℤ-pos, negsuc-*ℤ-pos, zero-*ℤ, *ℤ-zero}
use Rattle.sd_num.proofs.Products.{*ℤ_assoc, *ℤ_distrib, *ℤ_distrib_left}
use Rattle.sd_scope.specs.even.Even.{spaced}

-- the first one
pub spaced_first : (first step : ℤ) → spaced first step 0 ≡ first
spaced_first first step = omega (arith, ints, *ℤ-zero step)

-- one that stays
pub spaced_still : (number : ℤ) (k : ℕ) → spaced number (pos 0) k ≡ number
spaced_still number k = omega (arith, ints, zero-*ℤ (pos k))

-- a sum
pub spaced_sum : (a s b t : ℤ) (k : ℕ) → spaced a s k +ℤ spaced b t k ≡ spaced (a +ℤ b) (s +ℤ t) k
spaced_sum a s b t k = omega (arith, ints, *ℤ_distrib s t (pos k))

-- a product
pub spaced_product : (factor a s : ℤ) (k : ℕ) → factor *ℤ spaced a s k ≡ spaced (factor *ℤ a) (factor *ℤ s) k
spaced_product factor a s k = omega (arith, ints, *ℤ_distrib_left factor a (s *ℤ pos k), *ℤ_assoc factor s (pos k))

-- one step on from the begin
pub spaced_next : (begin step : ℤ) (k : ℕ) → spaced (begin +ℤ step) step k ≡ spaced begin step (suc k)
spaced_next begin step k = grind (arith, ints)

-- one step on from a position
pub spaced_step : (first step : ℤ) (k : ℕ) → spaced first step k +ℤ step ≡ spaced first step (suc k)
spaced_step first step k = grind (arith, ints)

-- from a position on
pub spaced_from : (first step : ℤ) (k m : ℕ) → spaced (spaced first step k) step m ≡ spaced first step (k + m)
spaced_from first step k zero = grind (arith, ints)
spaced_from first step k (suc m) =
    let further : suc (k + m) ≡ k + suc m = omega arith in
    sym (spaced_step (spaced first step k) step m) ∙ ap (λ x. x +ℤ step) (spaced_from first step k m) ∙ spaced_step first step (k + m) ∙ ap (spaced first step) further

-- between two that are not below a bound none is below it
pub not_below_between : (low first step : ℤ) (k n : ℕ) → k ≤ n → low ≤ℤ first → low ≤ℤ spaced first step n → low ≤ℤ spaced first step k
not_below_between low first (pos step) k n before begins ends =
    let further : step * k ≤ step * n = mul-le-mul (omega arith) before in
    omega (arith, ints, further, pos-*ℤ-pos step k, pos-*ℤ-pos step n, begins, ends)
not_below_between low first (negsuc step) k n before begins ends =
    let further : suc step * k ≤ suc step * n = mul-le-mul (omega arith) before in
    omega (arith, ints, further, negsuc-*ℤ-pos step k, negsuc-*ℤ-pos step n, begins, ends)

-- and between two that are not above a bound none is above it
pub not_above_between : (high first step : ℤ) (k n : ℕ) → k ≤ n → first ≤ℤ high → spaced first step n ≤ℤ high → spaced first step k ≤ℤ high
not_above_between high first (pos step) k n before begins ends =
    let further : step * k ≤ step * n = mul-le-mul (omega arith) before in
    omega (arith, ints, further, pos-*ℤ-pos step k, pos-*ℤ-pos step n, begins, ends)
not_above_between high first (negsuc step) k n before begins ends =
    let further : suc step * k ≤ suc step * n = mul-le-mul (omega arith) before in
    omega (arith, ints, further, negsuc-*ℤ-pos step k, negsuc-*ℤ-pos step n, begins, ends)

-- steps up lead up, and steps down lead down
none_stays : (step : ℤ) (n : ℕ) → 0 < n → step *ℤ pos n ≡ pos 0 → step ≡ pos 0
none_stays (pos zero) n some is = refl
none_stays (pos (suc step)) (suc n) some is = absurd (omega (arith, ints, is, pos-*ℤ-pos (suc step) (suc n)))
none_stays (negsuc step) (suc n) some is = absurd (omega (arith, ints, is, negsuc-*ℤ-pos step (suc n)))
none_stays step zero some is = absurd (omega (arith, some))

-- two numbers that are not the same have one distance
pub one_distance : (first step other : ℤ) (n : ℕ) → 0 < n → spaced first step n ≡ spaced first other n → step ≡ other
one_distance first step other n some is =
    let whole : (step -ℤ other) +ℤ other ≡ step = omega (arith, ints) in
    let none : (step -ℤ other) *ℤ pos n ≡ pos 0 = omega (arith, ints, is, *ℤ_distrib (step -ℤ other) other (pos n), ap (λ x. x *ℤ pos n) whole) in
    let same : step -ℤ other ≡ pos 0 = none_stays (step -ℤ other) n some none in
    omega (arith, ints, same)
