-- The numbers of a range by their positions.
use Rattle.std.proofs.Common.{◌≡◌, ℕ, zero, suc, ◌+◌, ◌-◌, ◌<◌, ℤ, ◌+ℤ◌, ◌∷◌, ◌++◌, drop, slice_get, Some, refl, ap, sym, ◌∙◌, arith}
use Rattle.sd_range.specs.Range.{counted_from}
use Rattle.sd_scope.specs.even.Even.{spaced}
use Rattle.sd_scope.proofs.even_lemmas.Distances.{spaced_first, spaced_next}

-- the number at a position
pub counted_at : (begin step : ℤ) (count k : ℕ) → k < count → slice_get (counted_from begin step count) k ≡ Some (spaced begin step k)
counted_at begin step zero k below = absurd (omega (arith, below))
counted_at begin step (suc count) zero below = ap Some (sym (spaced_first begin step))
counted_at begin step (suc count) (suc k) below = counted_at (begin +ℤ step) step count k (omega (arith, below)) ∙ ap Some (spaced_next begin step k)

-- the numbers from a position on
pub counted_behind : (begin step : ℤ) (count k : ℕ) → drop k (counted_from begin step count) ≡ counted_from (spaced begin step k) step (count - k)
counted_behind begin step zero zero = refl
counted_behind begin step zero (suc k) = let none : 0 - suc k ≡ 0 = omega arith in rw none refl
counted_behind begin step (suc count) zero =
    let all : suc count - 0 ≡ suc count = omega arith in
    rw all (ap (λ first. counted_from first step (suc count)) (sym (spaced_first begin step)))
counted_behind begin step (suc count) (suc k) =
    let less : suc count - suc k ≡ count - k = omega arith in
    counted_behind (begin +ℤ step) step count k
    ∙ ap (λ first. counted_from first step (count - k)) (spaced_next begin step k)
    ∙ ap (counted_from (spaced begin step (suc k)) step) (sym less)

-- so many numbers and so many more
pub counted_parts : (begin step : ℤ) (count others : ℕ) → counted_from begin step (count + others) ≡ counted_from begin step count ++ counted_from (spaced begin step count) step others
counted_parts begin step zero others =
    let all : 0 + others ≡ others = omega arith in
    ap (counted_from begin step) all ∙ ap (λ first. counted_from first step others) (sym (spaced_first begin step))
counted_parts begin step (suc count) others =
    let all : suc count + others ≡ suc (count + others) = omega arith in
    ap (counted_from begin step) all
    ∙ ap (λ list. begin ∷ list) (counted_parts (begin +ℤ step) step count others)
    ∙ ap (λ first. begin ∷ (counted_from (begin +ℤ step) step count ++ counted_from first step others)) (spaced_next begin step count)
