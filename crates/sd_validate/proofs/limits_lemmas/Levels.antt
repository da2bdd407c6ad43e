-- Limits on greatest numbers and on sums.
use Rattle.std.proofs.Common.{◌≡◌, ℕ, suc, ◌+◌, ◌-◌, ◌<◌, min, max, nat_le, ℤ, unsigned_abs, List, length, drop, slice_index_or, true, false, [], ◌∷◌, ◌&&◌, arith, add-one, drop-cons}
use Rattle.sd_range.specs.Weight.{weight_of}
use Rattle.sd_graph.specs.TreeFold.{value_trees}
use Rattle.sd_graph.specs.declared.tasklet.Value.{Value}
use Rattle.sd_validity.specs.rules.CodeSize.{greatest_levels, subscript_levels}

-- the greater of two numbers is within a limit where both are
pub max_within : (a b most : ℕ) → nat_le (max a b) most ≡ (nat_le a most && nat_le b most)
max_within a b most = grind arith

-- one more than a number is within no limit of 0
pub none_within : (a most : ℕ) → (0 < most → ⊥) → nat_le (suc a) most ≡ false
none_within a most none = grind arith

-- and within another limit where the number is within one less
pub one_within : (a most : ℕ) → 0 < most → nat_le (suc a) most ≡ nat_le a (most - 1)
one_within a most some = grind arith

-- a sum that stands still at a number above the limit
pub held_within : (number most limit : ℕ) → limit < most → nat_le (min number most) limit ≡ nat_le number limit
held_within number most limit below = grind arith

-- one coefficient more, of terms whose coefficients are added up to a number at which the sum stands still
pub weight_more : (default : ℕ × ℤ) (most weight next : ℕ) (terms : List (ℕ × ℤ)) (i : ℕ) → i < length terms →
    next ≡ min (weight + unsigned_abs (slice_index_or terms i default).1) most → min (next + weight_of (drop (i + 1) terms)) most ≡ min (weight + weight_of (drop i terms)) most
weight_more default most weight next terms i below sum =
    let rest = weight_of (drop (suc i) terms) in
    let first : min (next + rest) most ≡ min (weight + (unsigned_abs (slice_index_or terms i default).1 + rest)) most = omega (arith, sum) in
    rw (add-one, drop-cons terms i default below) first

-- an input without subscripts has no levels
pub subscripts_none : (values : List Value) (most : ℕ) → (0 < length values → ⊥) → nat_le (subscript_levels (value_trees values)) most ≡ true
subscripts_none [] most none = grind arith
subscripts_none (value ∷ values) most none = absurd (none (omega arith))

-- one with subscripts is within no limit of 0
pub subscripts_over : (values : List Value) (most : ℕ) → 0 < length values → (0 < most → ⊥) → nat_le (subscript_levels (value_trees values)) most ≡ false
subscripts_over [] most some none = absurd (omega (arith, some))
subscripts_over (value ∷ values) most some none = none_within (greatest_levels (value_trees (value ∷ values))) most none

-- and within another limit where the subscripts are within one less
pub subscripts_within : (values : List Value) (most : ℕ) → 0 < length values → 0 < most →
    nat_le (subscript_levels (value_trees values)) most ≡ nat_le (greatest_levels (value_trees values)) (most - 1)
subscripts_within [] most some more = absurd (omega (arith, some))
subscripts_within (value ∷ values) most some more = one_within (greatest_levels (value_trees (value ∷ values))) most more
