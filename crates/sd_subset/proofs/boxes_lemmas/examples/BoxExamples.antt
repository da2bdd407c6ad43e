-- Small boxes, computed: which are harmless to each other and which are not.
use Rattle.std.proofs.Common.{◌≡◌, inl, inr, ℤ, pos, neg_ℤ, [], ◌∷◌, refl, subst, arith}
use Rattle.std.proofs.lemmas.Int.{ints}
use Rattle.sd_range.proofs.Members.{Contains-first, Contains-cases, Contains-nil}
use Rattle.sd_range.specs.Arithmetic.{affine_difference}
use Rattle.sd_range.specs.declared.affine.Affine.{Affine}
use Rattle.sd_subset.specs.boxes.Box.{Parameter, Box, replaced}
use Rattle.sd_subset.specs.boxes.Apart.{AreApart, IsBelow, IsSingle, AreHarmless}
use Rattle.sd_subset.specs.boxes.Hull.{hull}

abbrev pub number : ℤ → Affine
number n = record { constant = n; terms = [] }

-- the variable 0 so many times, and a number
abbrev line : (factor number : ℤ) → Affine
line factor number = record { constant = number; terms = (0, factor) ∷ [] }

-- the parameter 0, from 0 to 3
abbrev pub i : (step : ℤ) → Parameter
i step = (0, record { begin = number (pos 0); ends = number (pos 3) ∷ []; step = step })

abbrev from_to : Affine → Affine → Box
from_to low high = record { low = low; high = high } ∷ []

-- a lower bound takes the begin for a positive coefficient and the last end for a negative one; an upper bound the other way
bounds_of_a_rise : replaced (i (pos 1) ∷ []) (from_to (line (pos 2) (pos 1)) (line (pos 2) (pos 1))) ≡ from_to (number (pos 1)) (number (pos 7))
bounds_of_a_rise = refl

bounds_of_a_fall : replaced (i (pos 1) ∷ []) (from_to (line (neg_ℤ (pos 1)) (pos 3)) (line (neg_ℤ (pos 1)) (pos 3))) ≡ from_to (number (pos 0)) (number (pos 3))
bounds_of_a_fall = refl

-- one element for each point
abbrev own_element : Box
own_element = from_to (line (pos 1) (pos 0)) (line (pos 1) (pos 0))

pub own_elements_are_harmless : AreHarmless [] (i (pos 1) ∷ []) own_element own_element
own_elements_are_harmless = inr (
  inr (inl (record {
    moves = λ is. cc;
    alone = (λ other. absurd (other refl), tt);
    parallel = record { high = refl; other_low = refl; other_high = refl };
    wide = record { wide = omega (arith, ints); other_wide = omega (arith, ints) };
  })),
  tt,
)

-- two elements for each point, a step of one apart
abbrev two_elements : Box
two_elements = from_to (line (pos 1) (pos 0)) (line (pos 1) (pos 1))

-- a parameter from 0 to 3 is not single
pub not_single : IsSingle [] (i (pos 1)) → ⊥
not_single (end, member, single) = elim (Contains-cases (number (pos 3)) [] end member) [
  | inl is ↦ subst (λ e. IsBelow (affine_difference e (number (pos 0))) (pos 1) → ⊥) is (λ s. omega (arith, ints, s.below)) single
  | inr none ↦ absurd (Contains-nil end none)
]

-- with a step of four it is: three is below it
single_by_its_step : IsSingle [] (i (pos 4))
single_by_its_step = (number (pos 3), Contains-first (number (pos 3)) [], record { constant = refl; below = omega (arith, ints) })

-- the second element of a point is the first of the next
two_elements_are_not_harmless : AreHarmless [] (i (pos 1) ∷ []) two_elements two_elements → ⊥
two_elements_are_not_harmless (inl (inl (inl above))) = omega (arith, ints, above.above)
two_elements_are_not_harmless (inl (inl (inr above))) = omega (arith, ints, above.above)
two_elements_are_not_harmless (inl (inr none)) = absurd none
two_elements_are_not_harmless (inr (inl single, rest)) = not_single single
two_elements_are_not_harmless (inr (inr (inl separates), rest)) = omega (arith, ints, separates.wide.wide)
two_elements_are_not_harmless (inr (inr (inr none), rest)) = absurd none

-- with steps of two it is not
two_elements_by_two_are_harmless : AreHarmless [] (i (pos 2) ∷ []) two_elements two_elements
two_elements_by_two_are_harmless = inr (
  inr (inl (record {
    moves = λ is. cc;
    alone = (λ other. absurd (other refl), tt);
    parallel = record { high = refl; other_low = refl; other_high = refl };
    wide = record { wide = omega (arith, ints); other_wide = omega (arith, ints) };
  })),
  tt,
)

-- neighbouring elements are apart, one element with itself is not
neighbours_are_apart : AreApart [] (i (pos 1) ∷ []) (from_to (number (pos 4)) (number (pos 4))) (from_to (number (pos 5)) (number (pos 5)))
neighbours_are_apart = inl (inr (record { constant = refl; above = omega (arith, ints) }))

one_element_is_not_apart : AreApart [] (i (pos 1) ∷ []) (from_to (number (pos 4)) (number (pos 4))) (from_to (number (pos 4)) (number (pos 4))) → ⊥
one_element_is_not_apart (inl (inl above)) = omega (arith, ints, above.above)
one_element_is_not_apart (inl (inr above)) = omega (arith, ints, above.above)
one_element_is_not_apart (inr none) = absurd none

-- a stream is harmless only where each parameter is single
streams_are_not_harmless : AreHarmless [] (i (pos 1) ∷ []) [] [] → ⊥
streams_are_not_harmless (inl none) = absurd none
streams_are_not_harmless (inr (inl single, rest)) = not_single single
streams_are_not_harmless (inr (inr none, rest)) = absurd none

-- the hull of boxes that can be compared, and of two that cannot
hull_of_two : hull (9 ∷ []) (from_to (number (pos 5)) (number (pos 6)) ∷ from_to (number (pos 1)) (number (pos 2)) ∷ []) ≡ from_to (number (pos 1)) (number (pos 6))
hull_of_two = refl

hull_of_all : hull (9 ∷ []) (from_to (line (pos 1) (pos 0)) (line (pos 1) (pos 0)) ∷ from_to (line (pos 2) (pos 0)) (line (pos 2) (pos 0)) ∷ []) ≡ from_to (number (pos 0)) (number (pos 8))
hull_of_all = refl
