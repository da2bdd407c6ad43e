-- How often a number stands in a list.
use Rattle.std.proofs.Common.{◌≡◌, ◌∙◌, ℕ, zero, suc, ◌+◌, ◌<◌, ◌≤◌, List, [], ◌∷◌, ◌++◌, nat_eq, Bool, true, false, not, ◌||◌, ◌&&◌, refl, ap, sym, subst, arith, zero-add}
use Rattle.std.specs.List.{list_all}
use Rattle.std.proofs.lemmas.List.Folds.{list_all-append}
use Rattle.sd_graph.specs.LoopScope.{numbers_below}
use Rattle.sd_graph.specs.Wiring.{has_number}
use Rattle.sd_graph.proofs.Among.{nat_eq_same}
use Rattle.sd_validity.specs.rules.NamesInForce.{are_new, are_apart}
use Rattle.sd_validity.proofs.rules_lemmas.HoldingLemmas.{both}

abbrev pub one_if : Bool → ℕ
one_if true = 1
one_if false = 0

abbrev pub times : (number : ℕ) → List ℕ → ℕ
times number [] = 0
times number (first ∷ rest) = one_if (nat_eq number first) + times number rest

pub times_joined : (number : ℕ) (first second : List ℕ) → times number (first ++ second) ≡ times number first + times number second
times_joined number [] second = sym (zero-add (times number second))
times_joined number (one ∷ first) second = omega (arith, times_joined number first second)

itself_once : (number : ℕ) → one_if (nat_eq number number) ≡ 1
itself_once number = ap one_if (nat_eq_same number number refl)

-- ---- whether it stands there

no_first : (number : ℕ) (same : Bool) (rest : List ℕ) → one_if same + times number rest ≡ 0 → (times number rest ≡ 0 → has_number rest number ≡ false) → (same || has_number rest number) ≡ false
no_first number true rest none later = absurd (omega (arith, none))
no_first number false rest none later = later (omega (arith, none))

pub not_there : (number : ℕ) (numbers : List ℕ) → times number numbers ≡ 0 → has_number numbers number ≡ false
not_there number [] none = refl
not_there number (first ∷ rest) none = no_first number (nat_eq number first) rest none (not_there number rest)

some_first : (number : ℕ) (same : Bool) (rest : List ℕ) → 1 ≤ one_if same + times number rest → (1 ≤ times number rest → has_number rest number ≡ true) → (same || has_number rest number) ≡ true
some_first number true rest some later = refl
some_first number false rest some later = later (omega (arith, some))

pub is_there : (number : ℕ) (numbers : List ℕ) → 1 ≤ times number numbers → has_number numbers number ≡ true
is_there number [] some = absurd (omega (arith, some))
is_there number (first ∷ rest) some = some_first number (nat_eq number first) rest some (is_there number rest)

-- ---- tests of all numbers

pub each_passes : (test : ℕ → Bool) (numbers : List ℕ) → ((number : ℕ) → 1 ≤ times number numbers → test number ≡ true) → list_all test numbers ≡ true
each_passes test [] passes = refl
each_passes test (first ∷ rest) passes =
    rw (passes first (omega (arith, itself_once first))) (each_passes test rest (λ number some. passes number (omega (arith, some))))

pub each_below_passes : (test : ℕ → Bool) (count : ℕ) → ((number : ℕ) → number < count → test number ≡ true) → list_all test (numbers_below count) ≡ true
each_below_passes test zero passes = refl
each_below_passes test (suc count) passes =
    let first : list_all test (numbers_below count) ≡ true = each_below_passes test count (λ number below. passes number (omega (arith, below))) in
    let last : list_all test (count ∷ []) ≡ true = rw (passes count (omega arith)) refl in
    let both : (list_all test (numbers_below count) && list_all test (count ∷ [])) ≡ true = rw (first, last) refl in
    list_all-append test (numbers_below count) (count ∷ []) ∙ both

-- the numbers stand once, and are none of those that are known
pub new_from : (known numbers : List ℕ) → ((number : ℕ) → times number numbers ≤ 1) → ((number : ℕ) → 1 ≤ times number numbers → times number known ≡ 0) → are_new known numbers ≡ true
new_from known [] once apart = refl
new_from known (first ∷ rest) once apart =
    rw (not_there first known (apart first (omega (arith, itself_once first))))
    (new_from (known ++ first ∷ []) rest (λ number. omega (arith, once number))
    (λ number some. omega (arith, some, once number, apart number (omega (arith, some)), times_joined number known (first ∷ []))))

pub apart_from : (known numbers : List ℕ) → ((number : ℕ) → 1 ≤ times number numbers → times number known ≡ 0) → are_apart known numbers ≡ true
apart_from known numbers apart = each_passes (λ number. not (has_number known number)) numbers (λ number some. rw (not_there number known (apart number some)) refl)

-- ---- back

at_first : (number : ℕ) (same : Bool) (rest : List ℕ) → (same || has_number rest number) ≡ true → (has_number rest number ≡ true → 1 ≤ times number rest) → 1 ≤ one_if same + times number rest
at_first number true rest is later = omega arith
at_first number false rest is later = omega (arith, later is)

-- what is there stands there at least once
pub some_times : (number : ℕ) (numbers : List ℕ) → has_number numbers number ≡ true → 1 ≤ times number numbers
some_times number [] is = cc
some_times number (first ∷ rest) is = at_first number (nat_eq number first) rest is (some_times number rest)

no_more : (number : ℕ) (same : Bool) (rest : List ℕ) → (same || has_number rest number) ≡ false → (has_number rest number ≡ false → times number rest ≡ 0) → one_if same + times number rest ≡ 0
no_more number true rest none later = cc
no_more number false rest none later = omega (arith, later none)

-- what is not there stands there not once
pub no_times : (number : ℕ) (numbers : List ℕ) → has_number numbers number ≡ false → times number numbers ≡ 0
no_times number [] none = refl
no_times number (first ∷ rest) none = no_more number (nat_eq number first) rest none (no_times number rest)

same_number : (a b : ℕ) → nat_eq a b ≡ true → a ≡ b
same_number a b is = grind (arith, is)

is_not : (a : Bool) → not a ≡ true → a ≡ true → ⊥
is_not true none is = cc
is_not false none is = cc

-- it stands once at most, and not once where it is known
abbrev pub IsNewOnce : (number : ℕ) → (known : List ℕ) → (times : ℕ) → Type 0
IsNewOnce number known times = (times ≤ 1) × (has_number known number ≡ true → times ≡ 0)

-- a number in front of others is known from there on
one_new : (number first : ℕ) (known : List ℕ) (others : ℕ) (same : Bool) → nat_eq number first ≡ same → (has_number known first ≡ true → ⊥) → IsNewOnce number (known ++ first ∷ []) others →
    IsNewOnce number known (one_if same + others)
one_new number first known others true is unknown later =
    let last : has_number (known ++ first ∷ []) number ≡ true = is_there number (known ++ first ∷ []) (omega (arith, times_joined number known (first ∷ []), ap one_if is)) in
    let none : others ≡ 0 = later.1 last in
    (omega (arith, none), λ there. absurd (unknown (subst (λ one. has_number known one ≡ true) (same_number number first is) there)))
one_new number first known others false is unknown later = (
  omega (arith, later.0),
  λ there. (
      let still : has_number (known ++ first ∷ []) number ≡ true = is_there number (known ++ first ∷ []) (omega (arith, times_joined number known (first ∷ []), some_times number known there)) in
      omega (arith, later.1 still)
      ),
)

-- new numbers stand once, and none of those that are known is one
pub new_times : (number : ℕ) (known numbers : List ℕ) → are_new known numbers ≡ true → IsNewOnce number known (times number numbers)
new_times number known [] new = (omega arith, λ is. refl)
new_times number known (first ∷ rest) new =
    let parts = both (not (has_number known first)) (are_new (known ++ first ∷ []) rest) new in
    one_new number first known (times number rest) (nat_eq number first) refl (is_not (has_number known first) parts.0) (new_times number (known ++ first ∷ []) rest parts.1)
