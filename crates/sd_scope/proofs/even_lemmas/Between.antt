-- Between two indices that are inside all are inside, and their numbers in row order go at equal distances.
use Rattle.std.proofs.Common.{◌≡◌, ℕ, ◌+◌, ◌*◌, ◌≤◌, ℤ, pos, negsuc, ◌+ℤ◌, ◌-ℤ◌, ◌*ℤ◌, ◌≤ℤ◌, List, [], ◌∷◌, true, unsigned_abs, ap, ◌∙◌, arith}
use Rattle.std.specs.List.{AllZip}
use Rattle.std.proofs.lemmas.Int.{ints}
use Rattle.std.proofs.Math.IntN.{pos-*ℤ-pos}
use Rattle.sd_range.specs.Points.{product}
use Rattle.sd_range.specs.Subset.{inside}
use Rattle.sd_range.proofs.SubsetLaws.{IsWithin, inside-each, inside-from_each}
use Rattle.sd_graph.specs.RowOrder.{row_number}
use Rattle.sd_scope.specs.even.Even.{spaced}
use Rattle.sd_scope.proofs.even_lemmas.Lines.{at_line, stays}
use Rattle.sd_scope.proofs.even_lemmas.Distances.{spaced_first, spaced_product, spaced_sum, not_below_between, not_above_between}

-- ---- inside

-- a number between two that are within is within
within_between : (extent : ℕ) (first step : ℤ) (k n : ℕ) → k ≤ n → IsWithin extent (spaced first step 0) → IsWithin extent (spaced first step n) → IsWithin extent (spaced first step k)
within_between extent first step k n before low high =
    let last = pos extent -ℤ pos 1 in
    let begins : first ≤ℤ last = omega (arith, ints, low, spaced_first first step) in
    let ends : spaced first step n ≤ℤ last = omega (arith, ints, high) in
    let within : spaced first step k ≤ℤ last = not_above_between last first step k n before begins ends in
    (not_below_between (pos 0) first step k n before (omega (arith, ints, low, spaced_first first step)) high.0, omega (arith, ints, within))

each_between : (extents : List ℕ) (lines : List (ℤ × ℤ)) (k n : ℕ) → k ≤ n → AllZip IsWithin extents (at_line lines 0) → AllZip IsWithin extents (at_line lines n) → AllZip IsWithin extents (at_line lines k)
each_between [] [] k n before low high = tt
each_between [] (line ∷ lines) k n before low high = absurd low
each_between (extent ∷ extents) [] k n before low high = absurd low
each_between (extent ∷ extents) (line ∷ lines) k n before low high =
    (within_between extent line.0 line.1 k n before low.0 high.0, each_between extents lines k n before low.1 high.1)

-- an index between two that are inside is inside
pub inside_between : (extents : List ℕ) (lines : List (ℤ × ℤ)) (k n : ℕ) → k ≤ n → inside extents (at_line lines 0) ≡ true → inside extents (at_line lines n) ≡ true → inside extents (at_line lines k) ≡ true
inside_between extents lines k n before low high =
    inside-from_each extents (at_line lines k)
    (each_between extents lines k n before (inside-each extents (at_line lines 0) low) (inside-each extents (at_line lines n) high))

-- ---- numbers in row order

-- a number in row order, as a whole number
counted : (number : ℤ) (rows rest : ℕ) → pos 0 ≤ℤ number → pos (unsigned_abs number * rows + rest) ≡ (pos rows *ℤ number) +ℤ pos rest
counted (pos number) rows rest low = omega (arith, ints, pos-*ℤ-pos rows number)
counted (negsuc number) rows rest low = absurd (omega (arith, ints, low))

-- the numbers of indices that are inside go at equal distances
abbrev pub IsRow : (extents : List ℕ) → (lines : List (ℤ × ℤ)) → Type 0
IsRow extents lines = (first : ℤ) × (step : ℤ) × ((k : ℕ) → AllZip IsWithin extents (at_line lines k) → pos (row_number extents (at_line lines k)) ≡ spaced first step k)

pub row_goes : (extents : List ℕ) (lines : List (ℤ × ℤ)) → IsRow extents lines
row_goes [] lines = let zeros = stays (pos 0) in (zeros.0, zeros.1, λ k each. zeros.2 k)
row_goes (extent ∷ extents) [] = (pos 0, pos 0, λ k each. absurd each)
row_goes (extent ∷ extents) (line ∷ lines) =
    let rest = row_goes extents lines in
    let rows = pos (product extents) in (
      (rows *ℤ line.0) +ℤ rest.0,
      (rows *ℤ line.1) +ℤ rest.1,
      λ k each.
          counted (spaced line.0 line.1 k) (product extents) (row_number extents (at_line lines k)) each.0.0
          ∙ ap (λ others. (rows *ℤ spaced line.0 line.1 k) +ℤ others) (rest.2 k each.1)
          ∙ ap (λ first. first +ℤ spaced rest.0 rest.1 k) (spaced_product rows line.0 line.1 k)
          ∙ spaced_sum (rows *ℤ line.0) (rows *ℤ line.1) rest.0 rest.1 k,
    )
