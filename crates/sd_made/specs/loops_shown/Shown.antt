-- Which loop variables show in the states that statements make.
use Rattle.std.specs.Prelude.{◌≡◌, ℕ, ◌+◌, List, [], ◌∷◌, ◌++◌, ⊤}
use Rattle.sd_lex.specs.PlainTree.{StatementTree, argument_array, local_array, local_stream, for_loop, while_loop, branch, Block, no_statement, and_statement}
use Rattle.sd_program.specs.Declared.{states_in, states_in_all}
use Rattle.sd_elab.specs.items.Counts.{variables_in, variables_in_all}

-- the loop variables that show in each state
module _ (shows : ℕ → List ℕ) where
  abbrev mutual
    -- Those around the statement show in its states, and in the block of a `for` loop its variable too. The first state that it makes and its first variable have these numbers.
    pub ShowsOne : StatementTree → (state variable : ℕ) → (loops : List ℕ) → Type 0
    ShowsOne (argument_array line name bits extents) state variable loops = ⊤
    ShowsOne (local_array line name extents bits) state variable loops = ⊤
    ShowsOne (local_stream line name bits size) state variable loops = ⊤
    ShowsOne (branch line when body other) state variable loops =
        (shows state ≡ loops) × ShowsAll body (state + 1) variable loops × ShowsOther other (state + 1 + states_in_all body) (variable + variables_in_all body) loops
    ShowsOne (while_loop line when body) state variable loops =
        (shows state ≡ loops) × (shows (state + 1) ≡ loops) × ShowsAll body (state + 1 + 1) variable loops × (shows (state + 1 + 1 + states_in_all body) ≡ loops)
    ShowsOne (for_loop line name begin end step body) state variable loops =
        (shows state ≡ loops ++ variable ∷ []) × (shows (state + 1) ≡ loops ++ variable ∷ []) × ShowsAll body (state + 1 + 1) (variable + 1) (loops ++ variable ∷ [])
        × (shows (state + 1 + 1 + states_in_all body) ≡ loops)
    ShowsOne statement state variable loops = shows state ≡ loops

    pub ShowsAll : Block → (state variable : ℕ) → (loops : List ℕ) → Type 0
    ShowsAll no_statement state variable loops = ⊤
    ShowsAll (and_statement first rest) state variable loops = ShowsOne first state variable loops × ShowsAll rest (state + states_in first) (variable + variables_in first) loops

    -- in an `else`, whose own state has this number, and in the state behind both
    pub ShowsOther : Block → (state variable : ℕ) → (loops : List ℕ) → Type 0
    ShowsOther no_statement state variable loops = shows state ≡ loops
    ShowsOther (and_statement first rest) state variable loops =
        (shows state ≡ loops) × (ShowsOne first (state + 1) variable loops × ShowsAll rest (state + 1 + states_in first) (variable + variables_in first) loops)
        × (shows (state + 1 + (states_in first + states_in_all rest)) ≡ loops)
