-- The loops of a program by the numbers of their states: no more are about a state than about the statement that makes it.
use Rattle.std.proofs.Common.{◌≡◌, ◌⊎◌, inl, inr, ℕ, ◌+◌, ◌<◌, ◌≤◌, nat_le, List, [], ◌∷◌, ◌++◌, Bool, true, false, ◌&&◌, refl, arith}
use Rattle.std.specs.Prelude.{⊤}
use Rattle.std.specs.List.{AllByRecursion}
use Rattle.sd_lex.specs.PlainTree.{StatementTree, argument_array, local_array, local_stream, for_loop, while_loop, branch, Block, no_statement, and_statement}
use Rattle.sd_program.specs.Declared.{states_in, states_in_all, states_in_other}
use Rattle.sd_validity.proofs.bound_places_lemmas.EachPlace.{all_joined}

-- the states of a loop: its begin and its end
abbrev pub Loops : Type 0
Loops = List (ℕ × ℕ)

abbrev pub one_if : Bool → ℕ
one_if true = 1
one_if false = 0

pub most_one : (test : Bool) → one_if test ≤ 1
most_one true = omega arith
most_one false = omega arith

-- a state stands in a loop
abbrev pub is_in : (state : ℕ) → ℕ × ℕ → Bool
is_in state loop = nat_le loop.0 state && nat_le state loop.1

-- in how many of these loops it stands
abbrev pub about : Loops → (state : ℕ) → ℕ
about [] state = 0
about (loop ∷ loops) state = one_if (is_in state loop) + about loops state

abbrev pub IsAmong : Loops → ℕ × ℕ → Type 0
IsAmong [] loop = ⊥
IsAmong (first ∷ loops) loop = (first ≡ loop) ⊎ IsAmong loops loop

among_first : (first second : Loops) (loop : ℕ × ℕ) → IsAmong first loop → IsAmong (first ++ second) loop
among_first [] second loop is = absurd is
among_first (other ∷ first) second loop (inl here) = inl here
among_first (other ∷ first) second loop (inr there) = inr (among_first first second loop there)

among_second : (first second : Loops) (loop : ℕ × ℕ) → IsAmong second loop → IsAmong (first ++ second) loop
among_second [] second loop is = is
among_second (other ∷ first) second loop is = inr (among_second first second loop is)

about_joined : (first second : Loops) (state : ℕ) → about (first ++ second) state ≡ about first state + about second state
about_joined [] second state = omega arith
about_joined (loop ∷ first) second state = omega (arith, about_joined first second state)

-- ---- where loops stand

abbrev mutual
  -- those of a statement; the first state that it makes has this number
  pub loops_of : StatementTree → (state : ℕ) → Loops
  loops_of (for_loop line name begin end step body) state = (state, state + 1 + states_in_all body) ∷ loops_of_all body (state + 1 + 1)
  loops_of (while_loop line when body) state = (state, state + 1 + states_in_all body) ∷ loops_of_all body (state + 1 + 1)
  loops_of (branch line when body other) state = loops_of_all body (state + 1) ++ loops_of_all other (state + 1 + states_in_all body + 1)
  loops_of statement state = []

  pub loops_of_all : Block → (state : ℕ) → Loops
  loops_of_all no_statement state = []
  loops_of_all (and_statement first rest) state = loops_of first state ++ loops_of_all rest (state + states_in first)

-- from a state on, and below another
abbrev Between : (low high : ℕ) → Loops → Type 0
Between low high loops = AllByRecursion (λ loop. (low ≤ loop.0) × (loop.1 < high)) loops

further_between : (low high least most : ℕ) → least ≤ low → high ≤ most → (loops : Loops) → Between low high loops → Between least most loops
further_between low high least most l h [] all = tt
further_between low high least most l h (loop ∷ loops) all = ((omega (arith, l, all.0.0), omega (arith, h, all.0.1)), further_between low high least most l h loops all.1)

-- a block behind the first one of a branch
pub other_room : (other : Block) → states_in_all other + 1 ≤ states_in_other other
other_room no_statement = omega arith
other_room (and_statement first rest) = omega arith

mutual
  one_between : (statement : StatementTree) (state : ℕ) → Between state (state + states_in statement) (loops_of statement state)
  one_between (for_loop line name begin end step body) state =
      ((omega arith, omega arith), further_between (state + 1 + 1) (state + 1 + 1 + states_in_all body) state _ (omega arith) (omega arith) (loops_of_all body (state + 1 + 1)) (all_between body (state + 1 + 1)))
  one_between (while_loop line when body) state =
      ((omega arith, omega arith), further_between (state + 1 + 1) (state + 1 + 1 + states_in_all body) state _ (omega arith) (omega arith) (loops_of_all body (state + 1 + 1)) (all_between body (state + 1 + 1)))
  one_between (branch line when body other) state =
      let behind : ℕ = state + 1 + states_in_all body + 1 in
      all_joined (λ loop. (state ≤ loop.0) × (loop.1 < state + (1 + states_in_all body + states_in_other other))) (loops_of_all body (state + 1)) (loops_of_all other behind)
      (further_between (state + 1) (state + 1 + states_in_all body) state _ (omega arith) (omega arith) (loops_of_all body (state + 1)) (all_between body (state + 1)))
      (further_between behind (behind + states_in_all other) state _ (omega arith) (omega (arith, other_room other)) (loops_of_all other behind) (all_between other behind))
  one_between statement state = tt

  all_between : (block : Block) (state : ℕ) → Between state (state + states_in_all block) (loops_of_all block state)
  all_between no_statement state = tt
  all_between (and_statement first rest) state =
      all_joined (λ loop. (state ≤ loop.0) × (loop.1 < state + (states_in first + states_in_all rest))) (loops_of first state) (loops_of_all rest (state + states_in first))
      (further_between state (state + states_in first) state _ (omega arith) (omega arith) (loops_of first state) (one_between first state))
      (further_between (state + states_in first) (state + states_in first + states_in_all rest) state _ (omega arith) (omega arith) (loops_of_all rest (state + states_in first)) (all_between rest (state + states_in first)))

not_in : (state : ℕ) (loop : ℕ × ℕ) → (state < loop.0) ⊎ (loop.1 < state) → is_in state loop ≡ false
not_in state loop (inl lower) = (let out : nat_le loop.0 state ≡ false = grind (arith, lower) in rw out refl)
not_in state loop (inr higher) = by_begin (nat_le loop.0 state) (nat_le state loop.1) (grind (arith, higher)) where
  by_begin : (first second : Bool) → second ≡ false → (first && second) ≡ false
  by_begin true second out = out
  by_begin false second out = refl

either_side : (low high : ℕ) (loop : ℕ × ℕ) (state : ℕ) → (low ≤ loop.0) × (loop.1 < high) → (state < low) ⊎ (high ≤ state) → (state < loop.0) ⊎ (loop.1 < state)
either_side low high loop state between (inl lower) = inl (omega (arith, between.0, lower))
either_side low high loop state between (inr higher) = inr (omega (arith, between.1, higher))

none_about : (low high : ℕ) (loops : Loops) (state : ℕ) → Between low high loops → (state < low) ⊎ (high ≤ state) → about loops state ≡ 0
none_about low high [] state all out = refl
none_about low high (loop ∷ loops) state all out =
    let here : is_in state loop ≡ false = not_in state loop (either_side low high loop state all.0 out) in
    rw here (omega (arith, none_about low high loops state all.1 out))

-- ---- what is about statements

module _ (whole : Loops) where
  abbrev mutual
    -- no more loops are about the states that a statement makes than so many, and those that it makes itself, which are there
    pub AboutOne : StatementTree → (state depth : ℕ) → Type 0
    AboutOne (argument_array line name bits extents) state depth = ⊤
    AboutOne (local_array line name extents bits) state depth = ⊤
    AboutOne (local_stream line name bits size) state depth = ⊤
    AboutOne (branch line when body other) state depth = AboutAll body (state + 1) depth × AboutAll other (state + 1 + states_in_all body + 1) depth
    AboutOne (while_loop line when body) state depth = IsAmong whole (state, state + 1 + states_in_all body) × AboutAll body (state + 1 + 1) (depth + 1)
    AboutOne (for_loop line name begin end step body) state depth = IsAmong whole (state, state + 1 + states_in_all body) × AboutAll body (state + 1 + 1) (depth + 1)
    AboutOne statement state depth = about whole state ≤ depth

    pub AboutAll : Block → (state depth : ℕ) → Type 0
    AboutAll no_statement state depth = ⊤
    AboutAll (and_statement first rest) state depth = AboutOne first state depth × AboutAll rest (state + states_in first) depth

  -- about these states are so many loops, and those of the states themselves
  abbrev Apart : (depth low count : ℕ) → (own : Loops) → Type 0
  Apart depth low count own = (state : ℕ) → low ≤ state → state < low + count → about whole state ≤ depth + about own state

  abbrev AreThere : (own : Loops) → Type 0
  AreThere own = (loop : ℕ × ℕ) → IsAmong own loop → IsAmong whole loop

  loop_about : (depth state count : ℕ) (loop : ℕ × ℕ) (own : Loops) → Apart depth state (2 + count + 1) (loop ∷ own) → Apart (depth + 1) (state + 1 + 1) count own
  loop_about depth state count loop own apart number least most =
      omega (arith, apart number (omega (arith, least)) (omega (arith, most)), most_one (is_in number loop))

  mutual
    one_about : (statement : StatementTree) (state depth : ℕ) → Apart depth state (states_in statement) (loops_of statement state) → AreThere (loops_of statement state) → AboutOne statement state depth
    one_about (argument_array line name bits extents) state depth apart there = tt
    one_about (local_array line name extents bits) state depth apart there = tt
    one_about (local_stream line name bits size) state depth apart there = tt
    one_about (branch line when body other) state depth apart there =
        let behind : ℕ = state + 1 + states_in_all body + 1 in
        let first : Loops = loops_of_all body (state + 1) in
        let second : Loops = loops_of_all other behind in (
          all_about body (state + 1) depth
              (λ number least most.
              omega (
                arith,
                apart number (omega (arith, least)) (omega (arith, most)),
                about_joined first second number,
                none_about behind (behind + states_in_all other) second number (all_between other behind) (inl (omega (arith, most))),
              ))
              (λ loop is. there loop (among_first first second loop is)),
          all_about other behind depth
              (λ number least most.
              omega (
                arith,
                apart number (omega (arith, least)) (omega (arith, most, other_room other)),
                about_joined first second number,
                none_about (state + 1) (state + 1 + states_in_all body) first number (all_between body (state + 1)) (inr (omega (arith, least))),
              ))
              (λ loop is. there loop (among_second first second loop is)),
        )
    one_about (while_loop line when body) state depth apart there = (
      there (state, state + 1 + states_in_all body) (inl refl),
      all_about body (state + 1 + 1) (depth + 1) (loop_about depth state (states_in_all body) (state, state + 1 + states_in_all body) (loops_of_all body (state + 1 + 1)) apart) (λ loop is. there loop (inr is)),
    )
    one_about (for_loop line name begin end step body) state depth apart there = (
      there (state, state + 1 + states_in_all body) (inl refl),
      all_about body (state + 1 + 1) (depth + 1) (loop_about depth state (states_in_all body) (state, state + 1 + states_in_all body) (loops_of_all body (state + 1 + 1)) apart) (λ loop is. there loop (inr is)),
    )
    one_about statement state depth apart there = omega (arith, apart state (omega arith) (omega arith))

    all_about : (block : Block) (state depth : ℕ) → Apart depth state (states_in_all block) (loops_of_all block state) → AreThere (loops_of_all block state) → AboutAll block state depth
    all_about no_statement state depth apart there = tt
    all_about (and_statement first rest) state depth apart there =
        let next : ℕ = state + states_in first in
        let one : Loops = loops_of first state in
        let others : Loops = loops_of_all rest next in (
          one_about first state depth
              (λ number least most.
              omega (arith, apart number least (omega (arith, most)), about_joined one others number, none_about next (next + states_in_all rest) others number (all_between rest next) (inl most)))
              (λ loop is. there loop (among_first one others loop is)),
          all_about rest next depth
              (λ number least most.
              omega (arith, apart number (omega (arith, least)) (omega (arith, most)), about_joined one others number, none_about state next one number (one_between first state) (inr least)))
              (λ loop is. there loop (among_second one others loop is)),
        )

-- about the statements of a block stand the loops of the block alone
pub block_about : (block : Block) (state : ℕ) → AboutAll (loops_of_all block state) block state 0
block_about block state = all_about (loops_of_all block state) block state 0 (λ number least most. omega arith) (λ loop is. is)
