-- The first part that has a count other than 0.
use Rattle.std.proofs.Common.{◌≡◌, ℕ, zero, suc, ◌+◌, ◌≤◌, ◌<◌, List, [], ◌∷◌, length, take, map, get_or, slice_set, refl, sym, ap, ◌∙◌, arith}
use Rattle.std.proofs.lemmas.List.Sums.{sum_by-cons}
use Rattle.std.specs.List.{sum}

pub sum-more : (x : ℕ) (xs : List ℕ) → sum (x ∷ xs) ≡ x + sum xs
sum-more = sum_by-cons (λ x. x)

-- a part is behind others that have so many units as those before it, and between them is no unit
pub found-behind : (counts : List ℕ) (from number rest : ℕ) → sum (take number counts) + rest ≡ sum (take from counts) → rest < get_or counts number 0
    → (from ≤ number) × (sum (take from counts) ≡ sum (take number counts))
found-behind [] from number rest same inside = absurd (omega (arith, inside))
found-behind (count ∷ counts) zero zero rest same inside = (omega arith, refl)
found-behind (count ∷ counts) (suc from) zero rest same inside =
    let more : sum (take (suc from) (count ∷ counts)) ≡ count + sum (take from counts) = sum-more count (take from counts) in
    let here : rest < count = inside in
    let none : sum (take zero (count ∷ counts)) ≡ 0 = refl in
    absurd (omega (arith, same, more, here, none))
found-behind (count ∷ counts) zero (suc number) rest same inside =
    let none : sum (take zero (count ∷ counts)) ≡ 0 = refl in
    (omega arith, omega (arith, same, none))
found-behind (count ∷ counts) (suc from) (suc number) rest same inside =
    let first : sum (take (suc from) (count ∷ counts)) ≡ count + sum (take from counts) = sum-more count (take from counts) in
    let second : sum (take (suc number) (count ∷ counts)) ≡ count + sum (take number counts) = sum-more count (take number counts) in
    let behind = found-behind counts from number rest (omega (arith, same, first, second)) inside in
    let above = behind.0 in
    let level = behind.1 in
    (omega (arith, above), omega (arith, level, first, second))

pub in-list : (counts : List ℕ) (number rest : ℕ) → rest < get_or counts number 0 → number < length counts
in-list [] number rest inside = absurd (omega (arith, inside))
in-list (count ∷ counts) zero rest inside = omega arith
in-list (count ∷ counts) (suc number) rest inside = let within = in-list counts number rest inside in omega (arith, within)

-- no unit is behind so many
pub none-behind : (counts : List ℕ) (from : ℕ) → sum counts ≤ sum (take from counts) → sum (take from counts) ≡ sum counts
none-behind [] zero most = refl
none-behind [] (suc from) most = refl
none-behind (count ∷ counts) zero most =
    let none : sum (take zero (count ∷ counts)) ≡ 0 = refl in
    omega (arith, most, none)
none-behind (count ∷ counts) (suc from) most =
    let first : sum (take (suc from) (count ∷ counts)) ≡ count + sum (take from counts) = sum-more count (take from counts) in
    let all : sum (count ∷ counts) ≡ count + sum counts = sum-more count counts in
    let rest = none-behind counts from (omega (arith, most, first, all)) in
    omega (arith, rest, first, all)

pub whole : (counts : List ℕ) (from : ℕ) → length counts ≤ from → sum (take from counts) ≡ sum counts
whole [] zero over = refl
whole [] (suc from) over = refl
whole (count ∷ counts) zero over = absurd (omega (arith, over))
whole (count ∷ counts) (suc from) over =
    sum-more count (take from counts) ∙ ap (λ (rest : ℕ). count + rest) (whole counts from (omega (arith, over))) ∙ sym (sum-more count counts)

-- another part in the place of one
pub one-more : {A : Type 0} (counted : A → ℕ) (parts : List A) (number : ℕ) (part : A) → number < length parts
    → sum (take (suc number) (map counted (slice_set parts number part))) ≡ sum (take number (map counted parts)) + counted part
one-more counted [] number part within = absurd (omega (arith, within))
one-more counted (first ∷ parts) zero part within =
    let here : sum (take 1 (map counted (part ∷ parts))) ≡ counted part + sum (take 0 (map counted parts)) = sum-more (counted part) (take 0 (map counted parts)) in
    let none : sum (take 0 (map counted parts)) ≡ 0 = refl in
    let empty : sum (take 0 (map counted (first ∷ parts))) ≡ 0 = refl in
    omega (arith, here, none, empty)
one-more counted (first ∷ parts) (suc number) part within =
    let rest = one-more counted parts number part (omega (arith, within)) in
    let now : sum (take (suc (suc number)) (map counted (first ∷ slice_set parts number part))) ≡ counted first + sum (take (suc number) (map counted (slice_set parts number part))) = sum-more (counted first) (take (suc number) (map counted (slice_set parts number part))) in
    let old : sum (take (suc number) (map counted (first ∷ parts))) ≡ counted first + sum (take number (map counted parts)) = sum-more (counted first) (take number (map counted parts)) in
    omega (arith, rest, now, old)
