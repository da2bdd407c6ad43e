-- The states at which `for` loops begin: conditions of branches and of `while` loops stand in other ones.
use Rattle.std.proofs.Common.{◌≡◌, ◌⊎◌, inl, inr, ℕ, ◌+◌, ◌<◌, ◌≤◌, List, [], ◌∷◌, ◌++◌, refl, arith}
use Rattle.std.specs.Prelude.{⊤}
use Rattle.std.specs.List.{AllByRecursion}
use Rattle.sd_lex.specs.PlainTree.{StatementTree, for_loop, while_loop, branch, Block, no_statement, and_statement}
use Rattle.sd_program.specs.Declared.{states_in, states_in_all, states_in_other}
use Rattle.sd_made.proofs.elab_lemmas.StateRanges.{split}
use Rattle.sd_validity.proofs.bound_places_lemmas.EachPlace.{all_joined}
use Rattle.sd_made.proofs.depths_lemmas.Loops.{other_room}

abbrev pub IsOne : List ℕ → ℕ → Type 0
IsOne [] number = ⊥
IsOne (first ∷ numbers) number = (first ≡ number) ⊎ IsOne numbers number

one_first : (first second : List ℕ) (number : ℕ) → IsOne first number → IsOne (first ++ second) number
one_first [] second number is = absurd is
one_first (other ∷ first) second number (inl here) = inl here
one_first (other ∷ first) second number (inr there) = inr (one_first first second number there)

one_second : (first second : List ℕ) (number : ℕ) → IsOne second number → IsOne (first ++ second) number
one_second [] second number is = is
one_second (other ∷ first) second number is = inr (one_second first second number is)

of_two : (first second : List ℕ) (number : ℕ) → IsOne (first ++ second) number → IsOne first number ⊎ IsOne second number
of_two [] second number is = inr is
of_two (other ∷ first) second number (inl here) = inl (inl here)
of_two (other ∷ first) second number (inr there) = elim (of_two first second number there) [ inl is ↦ inl (inr is) | inr is ↦ inr is ]

abbrev mutual
  -- those of a statement; the first state that it makes has this number
  pub starts_of : StatementTree → (state : ℕ) → List ℕ
  starts_of (for_loop line name begin end step body) state = state ∷ starts_of_all body (state + 1 + 1)
  starts_of (while_loop line when body) state = starts_of_all body (state + 1 + 1)
  starts_of (branch line when body other) state = starts_of_all body (state + 1) ++ starts_of_all other (state + 1 + states_in_all body + 1)
  starts_of statement state = []

  pub starts_of_all : Block → (state : ℕ) → List ℕ
  starts_of_all no_statement state = []
  starts_of_all (and_statement first rest) state = starts_of first state ++ starts_of_all rest (state + states_in first)

-- from a state on, and below the one before another
abbrev Before : (low high : ℕ) → List ℕ → Type 0
Before low high numbers = AllByRecursion (λ number. (low ≤ number) × (number + 1 < high)) numbers

further_before : (low high least most : ℕ) → least ≤ low → high ≤ most → (numbers : List ℕ) → Before low high numbers → Before least most numbers
further_before low high least most l h [] all = tt
further_before low high least most l h (number ∷ numbers) all = ((omega (arith, l, all.0.0), omega (arith, h, all.0.1)), further_before low high least most l h numbers all.1)

mutual
  one_before : (statement : StatementTree) (state : ℕ) → Before state (state + states_in statement) (starts_of statement state)
  one_before (for_loop line name begin end step body) state =
      ((omega arith, omega arith), further_before (state + 1 + 1) (state + 1 + 1 + states_in_all body) state _ (omega arith) (omega arith) (starts_of_all body (state + 1 + 1)) (all_before body (state + 1 + 1)))
  one_before (while_loop line when body) state =
      further_before (state + 1 + 1) (state + 1 + 1 + states_in_all body) state _ (omega arith) (omega arith) (starts_of_all body (state + 1 + 1)) (all_before body (state + 1 + 1))
  one_before (branch line when body other) state =
      let behind : ℕ = state + 1 + states_in_all body + 1 in
      all_joined (λ number. (state ≤ number) × (number + 1 < state + (1 + states_in_all body + states_in_other other))) (starts_of_all body (state + 1)) (starts_of_all other behind)
      (further_before (state + 1) (state + 1 + states_in_all body) state _ (omega arith) (omega arith) (starts_of_all body (state + 1)) (all_before body (state + 1)))
      (further_before behind (behind + states_in_all other) state _ (omega arith) (omega (arith, other_room other)) (starts_of_all other behind) (all_before other behind))
  one_before statement state = tt

  all_before : (block : Block) (state : ℕ) → Before state (state + states_in_all block) (starts_of_all block state)
  all_before no_statement state = tt
  all_before (and_statement first rest) state =
      all_joined (λ number. (state ≤ number) × (number + 1 < state + (states_in first + states_in_all rest))) (starts_of first state) (starts_of_all rest (state + states_in first))
      (further_before state (state + states_in first) state _ (omega arith) (omega arith) (starts_of first state) (one_before first state))
      (further_before (state + states_in first) (state + states_in first + states_in_all rest) state _ (omega arith) (omega arith) (starts_of_all rest (state + states_in first)) (all_before rest (state + states_in first)))

placed : (low high : ℕ) (numbers : List ℕ) (number : ℕ) → Before low high numbers → IsOne numbers number → (low ≤ number) × (number + 1 < high)
placed low high [] number all is = absurd is
placed low high (first ∷ numbers) number all (inl here) = (omega (arith, all.0.0, here), omega (arith, all.0.1, here))
placed low high (first ∷ numbers) number all (inr there) = placed low high numbers number all.1 there

-- ---- in a whole program

module _ (whole : List ℕ) where
  -- no `for` loop begins at the state before this one
  abbrev pub IsApart : (state : ℕ) → Type 0
  IsApart state = (number : ℕ) → number + 1 ≡ state → IsOne whole number → ⊥

  abbrev mutual
    -- conditions of branches and of `while` loops stand where no `for` loop begins
    pub StartsOne : StatementTree → (state : ℕ) → Type 0
    StartsOne (branch line when body other) state = IsApart state × StartsAll body (state + 1) × StartsAll other (state + 1 + states_in_all body + 1)
    StartsOne (while_loop line when body) state = IsApart (state + 1) × StartsAll body (state + 1 + 1)
    StartsOne (for_loop line name begin end step body) state = IsOne whole state × StartsAll body (state + 1 + 1)
    StartsOne statement state = ⊤

    pub StartsAll : Block → (state : ℕ) → Type 0
    StartsAll no_statement state = ⊤
    StartsAll (and_statement first rest) state = StartsOne first state × StartsAll rest (state + states_in first)

  -- the loops that begin in these states are these, and those are there
  abbrev Own : (low count : ℕ) → List ℕ → Type 0
  Own low count own = (number : ℕ) → low ≤ number → number < low + count → IsOne whole number → IsOne own number

  abbrev AreThere : List ℕ → Type 0
  AreThere own = (number : ℕ) → IsOne own number → IsOne whole number

  -- behind so many states
  apart_behind : (state count : ℕ) (numbers : List ℕ) → Before state (state + count) numbers → Own state count numbers → IsApart state → IsApart (state + count)
  apart_behind state count numbers all own apart number e is = elim (split number state) [
    | inl before ↦ elim (split (number + 1) state) [ inl more ↦ absurd (omega (arith, more, e)) | inr least ↦ apart number (omega (arith, before, least)) is ]
    | inr inside ↦ (let found = placed state (state + count) numbers number all (own number inside (omega (arith, e)) is) in absurd (omega (arith, found.1, e)))
  ]

  mutual
    one_starts : (statement : StatementTree) (state : ℕ) → IsApart state → Own state (states_in statement) (starts_of statement state) → AreThere (starts_of statement state) → StartsOne statement state
    one_starts (branch line when body other) state apart own there =
        let behind : ℕ = state + 1 + states_in_all body + 1 in
        let first : List ℕ = starts_of_all body (state + 1) in
        let second : List ℕ = starts_of_all other behind in (
          apart,
          all_starts body (state + 1)
              (λ number e is. elim (of_two first second number (own number (omega (arith, e)) (omega (arith, e)) is)) [
                | inl in_first ↦ (let found = placed (state + 1) (state + 1 + states_in_all body) first number (all_before body (state + 1)) in_first in absurd (omega (arith, found.0, e)))
                | inr in_second ↦ (let found = placed behind (behind + states_in_all other) second number (all_before other behind) in_second in absurd (omega (arith, found.0, e)))
              ])
              (λ number least most is. elim (of_two first second number (own number (omega (arith, least)) (omega (arith, most)) is)) [
                | inl in_first ↦ in_first
                | inr in_second ↦ (let found = placed behind (behind + states_in_all other) second number (all_before other behind) in_second in absurd (omega (arith, found.0, most)))
              ])
              (λ number is. there number (one_first first second number is)),
          all_starts other behind
              (λ number e is. elim (of_two first second number (own number (omega (arith, e)) (omega (arith, e, other_room other)) is)) [
                | inl in_first ↦ (let found = placed (state + 1) (state + 1 + states_in_all body) first number (all_before body (state + 1)) in_first in absurd (omega (arith, found.1, e)))
                | inr in_second ↦ (let found = placed behind (behind + states_in_all other) second number (all_before other behind) in_second in absurd (omega (arith, found.0, e)))
              ])
              (λ number least most is. elim (of_two first second number (own number (omega (arith, least)) (omega (arith, most, other_room other)) is)) [
                | inl in_first ↦ (let found = placed (state + 1) (state + 1 + states_in_all body) first number (all_before body (state + 1)) in_first in absurd (omega (arith, found.1, least)))
                | inr in_second ↦ in_second
              ])
              (λ number is. there number (one_second first second number is)),
        )
    one_starts (while_loop line when body) state apart own there =
        let inner : List ℕ = starts_of_all body (state + 1 + 1) in (
          (λ number e is. (let found = placed (state + 1 + 1) (state + 1 + 1 + states_in_all body) inner number (all_before body (state + 1 + 1)) (own number (omega (arith, e)) (omega (arith, e)) is) in absurd (omega (arith, found.0, e)))),
          all_starts body (state + 1 + 1)
              (λ number e is. (let found = placed (state + 1 + 1) (state + 1 + 1 + states_in_all body) inner number (all_before body (state + 1 + 1)) (own number (omega (arith, e)) (omega (arith, e)) is) in absurd (omega (arith, found.0, e))))
              (λ number least most is. own number (omega (arith, least)) (omega (arith, most)) is) there,
        )
    one_starts (for_loop line name begin end step body) state apart own there =
        let inner : List ℕ = starts_of_all body (state + 1 + 1) in (
          there state (inl refl),
          all_starts body (state + 1 + 1)
              (λ number e is. elim (own number (omega (arith, e)) (omega (arith, e)) is) [
                | inl first ↦ absurd (omega (arith, first, e))
                | inr later ↦ (let found = placed (state + 1 + 1) (state + 1 + 1 + states_in_all body) inner number (all_before body (state + 1 + 1)) later in absurd (omega (arith, found.0, e)))
              ])
              (λ number least most is. elim (own number (omega (arith, least)) (omega (arith, most)) is) [ inl first ↦ absurd (omega (arith, first, least)) | inr later ↦ later ])
              (λ number is. there number (inr is)),
        )
    one_starts statement state apart own there = tt

    all_starts : (block : Block) (state : ℕ) → IsApart state → Own state (states_in_all block) (starts_of_all block state) → AreThere (starts_of_all block state) → StartsAll block state
    all_starts no_statement state apart own there = tt
    all_starts (and_statement first rest) state apart own there =
        let next : ℕ = state + states_in first in
        let one : List ℕ = starts_of first state in
        let others : List ℕ = starts_of_all rest next in
        let own_first : Own state (states_in first) one =
        λ number least most is. elim (of_two one others number (own number least (omega (arith, most)) is)) [
          | inl in_first ↦ in_first
          | inr in_others ↦ (let found = placed next (next + states_in_all rest) others number (all_before rest next) in_others in absurd (omega (arith, found.0, most)))
        ] in (
          one_starts first state apart own_first (λ number is. there number (one_first one others number is)),
          all_starts rest next (apart_behind state (states_in first) one (one_before first state) own_first apart)
              (λ number least most is. elim (of_two one others number (own number (omega (arith, least)) (omega (arith, most)) is)) [
                | inl in_first ↦ (let found = placed state next one number (one_before first state) in_first in absurd (omega (arith, found.1, least)))
                | inr in_others ↦ in_others
              ])
              (λ number is. there number (one_second one others number is)),
        )

-- of a program's block, which begins behind state 0
pub block_starts : (block : Block) → StartsAll (starts_of_all block 1) block 1
block_starts block =
    all_starts (starts_of_all block 1) block 1
    (λ number e is. (let found = placed 1 (1 + states_in_all block) (starts_of_all block 1) number (all_before block 1) is in absurd (omega (arith, found.0, e)))) (λ number least most is. is) (λ number is. is)
