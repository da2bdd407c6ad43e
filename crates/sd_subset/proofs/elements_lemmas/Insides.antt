-- Indices that are not inside.
use Rattle.std.proofs.Common.{◌≡◌, ◌≢◌, ℕ, suc, ◌+◌, ◌<◌, ℤ, pos, List, [], ◌∷◌, length, drop, Bool, true, false, ◌&&◌, int_le, int_lt, refl, ap, slice_index_or, add-one, drop-cons}
use Rattle.sd_range.specs.Subset.{inside}

-- two tests that pass together are the second one where the first passes, and fail where it fails
second : (a b : Bool) → a ≡ true → (a && b) ≡ b
second true b is = refl
second false b is = cc

first : (a b : Bool) → a ≡ false → (a && b) ≡ false
first true b is = cc
first false b is = refl

-- an index with another length is outside
pub other_length : (extents : List ℕ) (index : List ℤ) → length extents ≢ length index → inside extents index ≡ false
other_length [] [] other = absurd (other refl)
other_length [] (number ∷ index) other = refl
other_length (extent ∷ extents) [] other = refl
other_length (extent ∷ extents) (number ∷ index) other =
    failing (int_le (pos 0) number && int_lt number (pos extent)) (inside extents index) (other_length extents index (λ same. other (ap suc same)))
  where
    failing : (a b : Bool) → b ≡ false → (a && b) ≡ false
    failing true b is = is
    failing false b is = refl

-- what is left of an index from one of its numbers on, by the test of that number
pub left-from : (extents : List ℕ) (index : List ℤ) (i e : ℕ) (n : ℤ) → i < length extents → i < length index →
    inside (drop i extents) (drop i index) ≡ ((int_le (pos 0) (slice_index_or index i n) && int_lt (slice_index_or index i n) (pos (slice_index_or extents i e))) && inside (drop (i + 1) extents) (drop (i + 1) index))
left-from extents index i e n below within = rw (add-one, drop-cons extents i e below, drop-cons index i n within) refl

-- so it is outside where that number fails
pub left-fails : (extents : List ℕ) (index : List ℤ) (i e : ℕ) (n : ℤ) → i < length extents → i < length index →
    (int_le (pos 0) (slice_index_or index i n) && int_lt (slice_index_or index i n) (pos (slice_index_or extents i e))) ≡ false → inside (drop i extents) (drop i index) ≡ false
left-fails extents index i e n below within fails =
    rw (left-from extents index i e n below within)
    (first (int_le (pos 0) (slice_index_or index i n) && int_lt (slice_index_or index i n) (pos (slice_index_or extents i e))) (inside (drop (i + 1) extents) (drop (i + 1) index)) fails)

-- and inside where the rest is, if it passes
pub left-passes : (extents : List ℕ) (index : List ℤ) (i e : ℕ) (n : ℤ) → i < length extents → i < length index →
    (int_le (pos 0) (slice_index_or index i n) && int_lt (slice_index_or index i n) (pos (slice_index_or extents i e))) ≡ true →
    inside (drop (i + 1) extents) (drop (i + 1) index) ≡ inside (drop i extents) (drop i index)
left-passes extents index i e n below within passes =
    rw (left-from extents index i e n below within)
    (rw (second (int_le (pos 0) (slice_index_or index i n) && int_lt (slice_index_or index i n) (pos (slice_index_or extents i e))) (inside (drop (i + 1) extents) (drop (i + 1) index)) passes) refl)
