-- The first part of which something is left, by the counts of what is unfinished.
use Rattle.std.proofs.Common.{◌≡◌, ℕ, zero, suc, ◌+◌, ◌<◌, ◌≤◌, nat_eq, List, [], ◌∷◌, take, get_or, Bool, true, false, cond, not, refl, sym, ap, ◌∙◌, arith, rules}
use Rattle.std.specs.List.{sum}
use Rattle.sd_moves.specs.numbered.Counts.{one_if}
use Rattle.sd_left.specs.left.Telling.{count_of_first}
use Rattle.sd_left.proofs.left_lemmas.Sameness.{sum-cons}

is-none : (count : ℕ) → count ≡ 0 → nat_eq count 0 ≡ true
is-none zero none = search rules
is-none (suc count) none = absurd (omega (arith, none))

not-none : (count : ℕ) → 0 < count → nat_eq count 0 ≡ false
not-none zero less = absurd (omega (arith, less))
not-none (suc count) less = search rules

pub first-found : (moves unfinished : List ℕ) (number rest : ℕ) → sum (take number unfinished) + rest ≡ 0 → rest < get_or unfinished number 0
    → get_or moves number 0 ≡ count_of_first moves unfinished
first-found [] unfinished number rest before inside = refl
first-found (count ∷ moves) [] number rest before inside = absurd (omega (arith, inside))
first-found (count ∷ moves) (left ∷ unfinished) zero rest before inside =
    sym (ap (λ (over : Bool). cond over (count_of_first moves unfinished) count) (not-none left (omega (arith, inside))))
first-found (count ∷ moves) (left ∷ unfinished) (suc number) rest before inside =
    let parted : sum (left ∷ take number unfinished) ≡ left + sum (take number unfinished) = sum-cons left (take number unfinished) in
    first-found moves unfinished number rest (omega (arith, before, parted)) inside
    ∙ sym (ap (λ (over : Bool). cond over (count_of_first moves unfinished) count) (is-none left (omega (arith, before, parted))))

pub none-found : (moves unfinished : List ℕ) → sum unfinished ≤ 0 → count_of_first moves unfinished ≡ 0
none-found [] unfinished none = refl
none-found (count ∷ moves) [] none = refl
none-found (count ∷ moves) (left ∷ unfinished) none =
    let parted : sum (left ∷ unfinished) ≡ left + sum unfinished = sum-cons left unfinished in
    ap (λ (over : Bool). cond over (count_of_first moves unfinished) count) (is-none left (omega (arith, none, parted)))
    ∙ none-found moves unfinished (omega (arith, none, parted))

-- a count of what is unfinished is a flag
pub flag-told : (unfinished : Bool) → nat_eq (one_if unfinished) 0 ≡ not unfinished
flag-told true = search rules
flag-told false = search rules

-- the first one has no more moves than all have
pub first-within : (moves unfinished : List ℕ) → count_of_first moves unfinished ≤ sum moves
first-within [] unfinished = omega arith
first-within (count ∷ moves) [] = omega arith
first-within (count ∷ moves) (left ∷ unfinished) =
    let parted : sum (count ∷ moves) ≡ count + sum moves = sum-cons count moves in
    either (nat_eq left 0) (count_of_first moves unfinished) count (sum (count ∷ moves)) (omega (arith, parted, first-within moves unfinished)) (omega (arith, parted))
  where
    either : (over : Bool) (first count most : ℕ) → first ≤ most → count ≤ most → cond over first count ≤ most
    either true first count most one other = one
    either false first count most one other = other
