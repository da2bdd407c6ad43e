-- What the elements of a subset are, and the indices inside a container.
use Rattle.std.proofs.Common.{◌≡◌, ◌↔◌, inl, inr, zero, suc, ℕ, ℤ, pos, ◌+◌, ◌/◌, ◌+ℤ◌, ◌<ℤ◌, ◌≤ℤ◌, List, [], ◌∷◌, length, map, IsTrue, Bool, true, false, ◌&&◌, int_le, int_lt, ◌-ℤ◌, unsigned_abs, refl, ap, sym, ◌∙◌, subst, arith}
use Rattle.std.specs.List.{All, AllByRecursion, AllPairs, AllZip, Contains}
use Rattle.std.proofs.lemmas.Int.{ints, by_lt_z}
use Rattle.std.proofs.lemmas.Simd.{map-map}
use Rattle.sd_range.specs.Points.{tuples, product, Precedes}
use Rattle.sd_range.specs.Affine.{affine_value}
use Rattle.sd_range.specs.Range.{counted_from, stepped, range_values}
use Rattle.sd_range.specs.Subset.{IsDim, dim_values, inside, whole}
use Rattle.sd_range.specs.declared.affine.Affine.{Affine}
use Rattle.sd_range.specs.declared.subset.Dim.{Dim}
use Rattle.sd_range.specs.declared.subset.Dim.TheVariants.{Index, Span}
use Rattle.std.proofs.lemmas.List.Elements.{recursion_from_All}
use Rattle.sd_range.proofs.Stepped.{count-filled}
use Rattle.sd_range.proofs.RangeLaws.{range-rises, counted-rises}
use Rattle.sd_range.proofs.Members.{Contains-nil, Contains-first, Contains-later, Contains-cases, AllZip-map, AllZip-from_map, AllZip-weaker}
use Rattle.sd_range.proofs.TupleLaws.{one_of_each, each_choice, length-tuples, tuples-in_order}

-- an element has in each dimension one of its indices, and each such choice is one
pub elements-members : (dims : List Dim) (values index : List ℤ) →
    (Contains (tuples (map (dim_values values) dims)) index) ↔ (AllZip (λ dim number. Contains (dim_values values dim) number) dims index)
elements-members dims values index = (
  λ member. AllZip-from_map Contains (dim_values values) dims index (one_of_each (map (dim_values values) dims) index member),
  λ choice. each_choice (map (dim_values values) dims) index (AllZip-map Contains (dim_values values) dims index choice),
)

-- there are as many elements as the product of the numbers of indices
pub elements-count : (dims : List Dim) (values : List ℤ) → length (tuples (map (dim_values values) dims)) ≡ product (map (λ dim. length (dim_values values dim)) dims)
elements-count dims values =
    length-tuples (map (dim_values values) dims)
    ∙ ap product (map-map length (dim_values values) dims)

-- numbers one apart are those from the first one to the last one
pub counted-members : (count : ℕ) (first number : ℤ) → (Contains (counted_from first (pos 1) count) number) ↔ ((first ≤ℤ number) × (number <ℤ (first +ℤ pos count)))
counted-members zero first number =
    (λ member. absurd (Contains-nil number member), λ (low, high). absurd (omega (arith, ints)))
counted-members (suc count) first number =
    let later = counted-members count (first +ℤ pos 1) number in (
      λ member. elim (Contains-cases first (counted_from (first +ℤ pos 1) (pos 1) count) number member) [
        | inl here ↦ (omega (arith, ints), omega (arith, ints))
        | inr there ↦ (omega (arith, ints, (later.0 there).0), omega (arith, ints, (later.0 there).1))
      ],
      λ (low, high). by_lt_z first number
          (λ above. Contains-later first (counted_from (first +ℤ pos 1) (pos 1) count) number (later.1 (omega (arith, ints), omega (arith, ints))))
          (λ below. let same : first ≡ number = omega (arith, ints) in
          subst (Contains (counted_from first (pos 1) (suc count))) same (Contains-first first (counted_from (first +ℤ pos 1) (pos 1) count))),
    )

-- a list of so many numbers has that length
pub counted-length : (count : ℕ) (first step : ℤ) → length (counted_from first step count) ≡ count
counted-length zero first step = refl
counted-length (suc count) first step = ap suc (counted-length count (first +ℤ step) step)

-- a number is below the extent of its dimension, and not below 0
abbrev pub IsWithin : ℕ → ℤ → Type 0
IsWithin extent number = (pos 0 ≤ℤ number) × (number <ℤ pos extent)

-- such a number passes the test of its dimension
passes : (extent : ℕ) (number : ℤ) → IsWithin extent number → (int_le (pos 0) number && int_lt number (pos extent)) ≡ true
passes extent number below = grind (arith, ints)

-- a number that passes the test is such a one
is_within : (extent : ℕ) (number : ℤ) → (int_le (pos 0) number && int_lt number (pos extent)) ≡ true → IsWithin extent number
is_within extent number test = (grind (arith, ints), grind (arith, ints))

-- both of two tests that pass together pass
both : (a b : Bool) → (a && b) ≡ true → (a ≡ true) × (b ≡ true)
both true b test = (refl, test)
both false b test = cc

-- an index is inside where each number is below its extent
pub inside-from_each : (extents : List ℕ) (index : List ℤ) → AllZip IsWithin extents index → IsTrue (inside extents index)
inside-from_each [] [] each = refl
inside-from_each [] (number ∷ index) each = absurd each
inside-from_each (extent ∷ extents) [] each = absurd each
inside-from_each (extent ∷ extents) (number ∷ index) each = rw (passes extent number each.0) (inside-from_each extents index each.1)

-- of an index that is inside each number is below its extent
pub inside-each : (extents : List ℕ) (index : List ℤ) → IsTrue (inside extents index) → AllZip IsWithin extents index
inside-each [] [] test = tt
inside-each [] (number ∷ index) test = cc
inside-each (extent ∷ extents) [] test = cc
inside-each (extent ∷ extents) (number ∷ index) test =
    let parts = both (int_le (pos 0) number && int_lt number (pos extent)) (inside extents index) test in
    (is_within extent number parts.0, inside-each extents index parts.1)

-- the indices of one dimension are the numbers below its extent
within-counted : (extent : ℕ) (number : ℤ) → (Contains (counted_from (pos 0) (pos 1) extent) number) ↔ IsWithin extent number
within-counted extent number =
    let counted = counted-members extent (pos 0) number in
    (λ member. ((counted.0 member).0, omega (arith, ints, (counted.0 member).1)), λ within. counted.1 (within.0, omega (arith, ints, within.1)))

-- the indices inside are those of the whole container
pub whole-members : (extents : List ℕ) (index : List ℤ) → IsTrue (inside extents index) ↔ Contains (whole extents) index
whole-members extents index = (
  λ test. each_choice (map (counted_from (pos 0) (pos 1)) extents) index (AllZip-map Contains (counted_from (pos 0) (pos 1)) extents index
      (AllZip-weaker IsWithin (λ extent number. Contains (counted_from (pos 0) (pos 1) extent) number)
      (λ extent number. (within-counted extent number).1) extents index (inside-each extents index test))),
  λ member. inside-from_each extents index (AllZip-weaker (λ extent number. Contains (counted_from (pos 0) (pos 1) extent) number) IsWithin
      (λ extent number. (within-counted extent number).0) extents index
      (AllZip-from_map Contains (counted_from (pos 0) (pos 1)) extents index (one_of_each (map (counted_from (pos 0) (pos 1)) extents) index member))),
)

-- each dimension has as many indices as its extent
counted_each : (extents : List ℕ) → map length (map (counted_from (pos 0) (pos 1)) extents) ≡ extents
counted_each [] = refl
counted_each (extent ∷ extents) = ap (λ count. count ∷ map length (map (counted_from (pos 0) (pos 1)) extents)) (counted-length extent (pos 0) (pos 1)) ∙ ap (λ others. extent ∷ others) (counted_each extents)

-- there are as many as the product of the extents
pub whole-count : (extents : List ℕ) → length (whole extents) ≡ product extents
whole-count extents = length-tuples (map (counted_from (pos 0) (pos 1)) extents) ∙ ap product (counted_each extents)

-- the indices of a dimension rise
dim-rises : (dim : Dim) (values : List ℤ) → IsDim dim → AllPairs (λ a b. a <ℤ b) (dim_values values dim)
dim-rises (Index at) values ok = λ i j d before below. absurd (omega arith)
dim-rises (Span r) values ok = range-rises r values ok

-- those of each dimension do
dims-rise : (dims : List Dim) (values : List ℤ) → AllByRecursion IsDim dims → AllByRecursion (AllPairs (λ a b. a <ℤ b)) (map (dim_values values) dims)
dims-rise [] values each = tt
dims-rise (dim ∷ dims) values each = (dim-rises dim values each.0, dims-rise dims values each.1)

-- the elements of a subset come in row order
pub elements-in_order : (dims : List Dim) (values : List ℤ) → All IsDim dims → AllPairs Precedes (tuples (map (dim_values values) dims))
elements-in_order dims values each = tuples-in_order (map (dim_values values) dims) (dims-rise dims values (recursion_from_All IsDim dims each))

-- the numbers below each extent rise
extents-rise : (extents : List ℕ) → AllByRecursion (AllPairs (λ a b. a <ℤ b)) (map (counted_from (pos 0) (pos 1)) extents)
extents-rise [] = tt
extents-rise (extent ∷ extents) = (counted-rises extent (pos 0) (pos 1) (omega (arith, ints)), extents-rise extents)

-- all indices come in row order
pub whole-in_order : (extents : List ℕ) → AllPairs Precedes (whole extents)
whole-in_order extents = tuples-in_order (map (counted_from (pos 0) (pos 1)) extents) (extents-rise extents)

-- from a number to itself there is that number alone
stepped-one : (number : ℤ) → stepped number number (pos 1) ≡ number ∷ []
stepped-one number =
    let no_gap : unsigned_abs (number -ℤ number) ≡ 0 = omega (arith, ints) in
    ap (counted_from number (pos 1)) (count-filled number number (pos 1) (omega (arith, ints)) ∙ ap (λ gap. gap / 1 + 1) no_gap)

-- an index has the value of the range from it to itself
pub index-range : (at : Affine) (values : List ℤ) → dim_values values (Index at) ≡ range_values values (record { begin = at; ends = at ∷ []; step = pos 1 })
index-range at values = sym (stepped-one (affine_value values at))
