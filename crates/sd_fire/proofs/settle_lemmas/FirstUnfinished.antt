-- Parts that are finished, by where the first unit of their counts is.
use Rattle.std.proofs.Common.{◌≡◌, ℕ, zero, suc, ◌+◌, ◌<◌, ◌≤◌, nat_eq, nat_le, List, [], ◌∷◌, take, map, get_or, Bool, true, false, ◌&&◌, refl, sym, ap, ap₂, ◌∙◌, arith, rules}
use Rattle.std.specs.List.{sum}
use Rattle.sd_work.specs.Settle.{all_true}
use Rattle.sd_fire.proofs.settle_lemmas.Sums.{sum-more}

-- each count is 0
abbrev pub all-done : List ℕ → Bool
all-done counts = all_true (map (λ count. nat_eq count 0) counts)

and-false : (so : Bool) → (so && false) ≡ false
and-false true = refl
and-false false = refl

not-none : (count : ℕ) → 0 < count → nat_eq count 0 ≡ false
not-none zero less = absurd (omega (arith, less))
not-none (suc count) less = search rules

is-none : (count : ℕ) → count ≡ 0 → nat_eq count 0 ≡ true
is-none zero none = search rules
is-none (suc count) none = absurd (omega (arith, none))

pub one-behind : (counts : List ℕ) (first rest number : ℕ) → sum (take first counts) + rest ≡ 0 → rest < get_or counts first 0 → first < number → all-done (take number counts) ≡ false
one-behind [] first rest number before inside less = absurd (omega (arith, inside))
one-behind (count ∷ counts) first rest zero before inside less = absurd (omega (arith, less))
one-behind (count ∷ counts) zero rest (suc number) before inside less = ap (λ (so : Bool). so && all-done (take number counts)) (not-none count (omega (arith, inside)))
one-behind (count ∷ counts) (suc first) rest (suc number) before inside less =
    let parted : sum (take (suc first) (count ∷ counts)) ≡ count + sum (take first counts) = sum-more count (take first counts) in
    ap (λ (so : Bool). nat_eq count 0 && so) (one-behind counts first rest number (omega (arith, before, parted)) inside (omega (arith, less)))
    ∙ and-false (nat_eq count 0)

pub none-before : (counts : List ℕ) (first rest number : ℕ) → sum (take first counts) + rest ≡ 0 → number ≤ first → all-done (take number counts) ≡ true
none-before [] first rest zero before most = refl
none-before [] first rest (suc number) before most = refl
none-before (count ∷ counts) first rest zero before most = refl
none-before (count ∷ counts) zero rest (suc number) before most = absurd (omega (arith, most))
none-before (count ∷ counts) (suc first) rest (suc number) before most =
    let parted : sum (take (suc first) (count ∷ counts)) ≡ count + sum (take first counts) = sum-more count (take first counts) in
    ap₂ (λ (a b : Bool). a && b) (is-none count (omega (arith, before, parted))) (none-before counts first rest number (omega (arith, before, parted)) (omega (arith, most)))

pub none-at-all : (counts : List ℕ) (number : ℕ) → sum counts ≤ 0 → all-done (take number counts) ≡ true
none-at-all [] zero none = refl
none-at-all [] (suc number) none = refl
none-at-all (count ∷ counts) zero none = refl
none-at-all (count ∷ counts) (suc number) none =
    let parted : sum (count ∷ counts) ≡ count + sum counts = sum-more count counts in
    ap₂ (λ (a b : Bool). a && b) (is-none count (omega (arith, none, parted))) (none-at-all counts number (omega (arith, none, parted)))

-- so many are finished where the first unfinished one is not among them
pub first-reaches : (counts : List ℕ) (first rest number : ℕ) → sum (take first counts) + rest ≡ 0 → rest < get_or counts first 0 → all-done (take number counts) ≡ nat_le number first
first-reaches counts first rest number before inside = by-size (nat_le number first) refl
  where
    by-size : (within : Bool) → nat_le number first ≡ within → all-done (take number counts) ≡ nat_le number first
    by-size true is = none-before counts first rest number before (search rules) ∙ sym is
    by-size false is = one-behind counts first rest number before inside (search rules) ∙ sym is
