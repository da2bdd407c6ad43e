-- What holds of each member of a list.
use Rattle.std.proofs.Common.{◌≡◌, ◌⊎◌, inl, inr, ℕ, zero, suc, ◌+◌, ◌<◌, ◌≤◌, List, [], ◌∷◌, length, subst, arith}
use Rattle.std.proofs.lemmas.Bool.{cases_lt}
use Rattle.std.specs.Prelude.{slice_index_or}
use Rattle.std.specs.List.{AllByRecursion}

-- what holds below a number and at it holds below the next one
pub below_next : (P : ℕ → Type 0) (k : ℕ) → ((j : ℕ) → j < k → P j) → P k → (j : ℕ) → j < k + 1 → P j
below_next P k before here j h = by_place (cases_lt j k)
  where
    by_place : (j < k) ⊎ (k ≤ j) → P j
    by_place (inl less) = before j less
    by_place (inr more) = let same : k ≡ j = omega (arith, more, h) in subst P same here

-- a list that is not there is short too
pub few_each : (all : List (List ℕ)) → AllByRecursion (λ extents. length extents ≤ 4) all → (connector : ℕ) → length (slice_index_or all connector []) ≤ 4
few_each [] each connector = omega arith
few_each (extents ∷ all) each zero = each.0
few_each (extents ∷ all) each (suc connector) = few_each all each.1 connector

-- a list whose members are all short
pub all_few : (all : List (List ℕ)) → ((connector : ℕ) → length (slice_index_or all connector []) ≤ 4) → AllByRecursion (λ extents. length extents ≤ 4) all
all_few [] few = tt
all_few (extents ∷ all) few = (few 0, all_few all (λ connector. few (suc connector)))
