-- Where transitions of a block's states lead, state by state.
use Rattle.std.proofs.Common.{◌≡◌, ◌⊎◌, inl, inr, ℕ, zero, suc, ◌+◌, ◌<◌, ◌≤◌, List, [], ◌∷◌, ◌++◌, length, refl, sym, subst, arith, add-zero}
use Rattle.std.specs.List.{AllByRecursion}
use Rattle.sd_lex.specs.PlainTree.{StatementTree, argument_array, local_array, local_stream, assign, copy, reduce, map_scope, tasklet, consume_scope, call, for_loop, while_loop, branch, input, output, set, set_at, tasklet_branch, Block, no_statement, and_statement}
use Rattle.sd_range.specs.Arithmetic.{affine_zero}
use Rattle.sd_graph.specs.PlainTree.{ItemTrees, no_item, ExitTree, GraphTree, StateTrees}
use Rattle.sd_graph.specs.TreeFold.{PlainState}
use Rattle.sd_graph.specs.TreeParts.{exits_at}
use Rattle.sd_program.specs.Names.{Name}
use Rattle.sd_program.specs.Declared.{states_in, states_in_all, states_in_other}
use Rattle.sd_task.specs.in_force.Ranges.{affine_or}
use Rattle.sd_task.specs.task.ElementCode.{guard_of, below}
use Rattle.sd_elab.specs.states.Exits.{plainly, setting, if_holds, back_to, stepped_on}
use Rattle.sd_elab.specs.states.Standing.{Standing, behind, behind_all, state_behind, with_loop_variable}
use Rattle.sd_elab.specs.states.States.{chained, chained_all, chained_other}
use Rattle.sd_made.proofs.elab_lemmas.StateLists.{HasStates, first_of_two, second_of_two}
use Rattle.sd_made.proofs.elab_lemmas.StateCounts.{some_other, branch_behind, all_counted}

-- which of two numbers is the lower
pub split : (number other : ℕ) → (number < other) ⊎ (other ≤ number)
split zero zero = inr (omega arith)
split zero (suc other) = inl (omega arith)
split (suc number) zero = inr (omega arith)
split (suc number) (suc other) = elim (split number other) [ inl less ↦ inl (omega (arith, less)) | inr more ↦ inr (omega (arith, more)) ]

module _ (graphs : Name → GraphTree) (states : StateTrees) where
  abbrev pub Has : (next : ℕ) → List PlainState → Type 0
  Has next listed = HasStates (exits_at states) next listed

  -- behind a loop
  pub loop_behind : (at inside : Standing) (body : Block) (back : List ExitTree) (rest : List PlainState) → inside.state ≡ at.state + 1 + 1 →
      Has (at.state + 1 + 1) (chained_all graphs body inside no_item back ++ rest) → Has (at.state + (2 + states_in_all body + 1)) rest
  loop_behind at inside body back rest stands has =
      subst (λ number. Has number rest) (omega (arith, all_counted graphs body inside no_item back))
      (second_of_two (exits_at states) (at.state + 1 + 1) (chained_all graphs body inside no_item back) rest has)

  -- in its block
  pub loop_inside : (at inside : Standing) (body : Block) (back : List ExitTree) (rest : List PlainState) → inside.state ≡ at.state + 1 + 1 →
      Has (at.state + 1 + 1) (chained_all graphs body inside no_item back ++ rest) → Has inside.state (chained_all graphs body inside no_item back)
  loop_inside at inside body back rest stands has =
      subst (λ number. Has number (chained_all graphs body inside no_item back)) (sym stands)
      (first_of_two (exits_at states) (at.state + 1 + 1) (chained_all graphs body inside no_item back) rest has)

  -- behind the first block of an `if`, whose states are so many, the next one with this number
  pub else_states : (other : Block) (at : Standing) (next : ℕ) (first : ℕ → List PlainState) (rest : ItemTrees → List PlainState) (body : ℕ) → at.state ≡ next + body →
      ((join : ℕ) → length (first join) ≡ body + 1) → Has next (chained_other graphs other at first rest) →
      (join : ℕ) × (at.state ≤ join) × (join + 1 ≡ at.state + states_in_other other) × Has next (first join) × Has (at.state + states_in_other other) (rest no_item)
      × (((other ≡ no_statement) × (join ≡ at.state)) ⊎ (Has (at.state + 1) (chained_all graphs other (state_behind at) no_item (plainly join ∷ [])) × (join ≡ at.state + 1 + states_in_all other)))
  else_states no_statement at next first rest body stands counted has = (
    at.state,
    omega arith,
    refl,
    first_of_two (exits_at states) next (first at.state) (rest no_item) has,
    subst (λ number. Has number (rest no_item)) (omega (arith, stands, counted at.state)) (second_of_two (exits_at states) next (first at.state) (rest no_item) has),
    inl (refl, refl),
  )
  else_states (and_statement statement others) at next first rest body stands counted has =
      let join : ℕ = at.state + 1 + (states_in statement + states_in_all others) in
      let inner : List PlainState = chained_all graphs (and_statement statement others) (state_behind at) no_item (plainly join ∷ []) in
      let both : Has (at.state + 1) (inner ++ rest no_item) =
      subst (λ number. Has number (inner ++ rest no_item)) (omega (arith, stands, counted join)) (second_of_two (exits_at states) next (first join) (inner ++ rest no_item) has) in (
        join,
        omega arith,
        omega arith,
        first_of_two (exits_at states) next (first join) (inner ++ rest no_item) has,
        subst (λ number. Has number (rest no_item)) (omega (arith, all_counted graphs (and_statement statement others) (state_behind at) no_item (plainly join ∷ [])))
            (second_of_two (exits_at states) (at.state + 1) inner (rest no_item) both),
        inr (first_of_two (exits_at states) (at.state + 1) inner (rest no_item) both, refl),
      )

  -- the states of what follows a statement
  pub behind_states : (statement : StatementTree) (at : Standing) (items : ItemTrees) (rest : ItemTrees → List PlainState) → Has at.state (chained graphs statement at items rest) →
      (made : ItemTrees) × Has (at.state + states_in statement) (rest made)
  behind_states (argument_array line name bits extents) at items rest has = (items, subst (λ number. Has number (rest items)) (sym (add-zero at.state)) has)
  behind_states (local_array line name extents bits) at items rest has = (items, subst (λ number. Has number (rest items)) (sym (add-zero at.state)) has)
  behind_states (local_stream line name bits size) at items rest has = (items, subst (λ number. Has number (rest items)) (sym (add-zero at.state)) has)
  behind_states (branch line when body other) at items rest has =
      let made = else_states other (behind_all body (state_behind at)) (at.state + 1) (λ join. chained_all graphs body (state_behind at) no_item (plainly join ∷ [])) rest (states_in_all body) refl
      (λ join. all_counted graphs body (state_behind at) no_item (plainly join ∷ [])) has.1 in
      (no_item, subst (λ number. Has number (rest no_item)) (sym (branch_behind at.state (states_in_all body) (states_in_other other))) made.4)
  behind_states (while_loop line when body) at items rest has = (no_item, loop_behind at (state_behind (state_behind at)) body _ (rest no_item) refl has.1.1)
  behind_states (for_loop line name begin end step body) at items rest has = (no_item, loop_behind at (with_loop_variable name (state_behind (state_behind at))) body _ (rest no_item) refl has.1.1)
  behind_states (assign line name target add value) at items rest has = (_, has.1)
  behind_states (copy line to to_dimensions from from_dimensions) at items rest has = (_, has.1)
  behind_states (reduce line lambda from to axis identity) at items rest has = (_, has.1)
  behind_states (map_scope line parameters ranges body) at items rest has = (_, has.1)
  behind_states (tasklet line body) at items rest has = (_, has.1)
  behind_states (consume_scope line stream size name element worker body) at items rest has = (_, has.1)
  behind_states (call line name arguments) at items rest has = (_, has.1)
  behind_states (input line connector memlet) at items rest has = (no_item, has.1)
  behind_states (output line connector memlet) at items rest has = (no_item, has.1)
  behind_states (set line name value) at items rest has = (no_item, has.1)
  behind_states (set_at line name target value) at items rest has = (no_item, has.1)
  behind_states (tasklet_branch line when body other) at items rest has = (no_item, has.1)

  -- ---- what holds of each transition that leads to one of a block's own states

  module _ (P : ExitTree → Type 0) (low high : ℕ) (within : (exit : ExitTree) → low ≤ exit.to → exit.to < high → P exit) where
    one_within : (at : Standing) (items : ItemTrees) (listed : List PlainState) → low ≤ at.state → at.state + 1 ≤ high → Has at.state ((items, plainly at.state ∷ []) ∷ listed) → (number : ℕ) →
        at.state ≤ number + 1 → number + 1 < at.state + 1 → AllByRecursion P (exits_at states number)
    one_within at items listed least most has number from before =
        subst (AllByRecursion P) (sym (has.0 number (omega (arith, from, before)))) (within (plainly at.state) least (omega (arith, most)), tt)

    mutual
      pub statement_within : (statement : StatementTree) (at : Standing) (items : ItemTrees) (rest : ItemTrees → List PlainState) → low ≤ at.state → at.state + states_in statement ≤ high →
          Has at.state (chained graphs statement at items rest) → (number : ℕ) → at.state ≤ number + 1 → number + 1 < at.state + states_in statement → AllByRecursion P (exits_at states number)
      statement_within (argument_array line name bits extents) at items rest least most has number from before = absurd (omega (arith, from, before))
      statement_within (local_array line name extents bits) at items rest least most has number from before = absurd (omega (arith, from, before))
      statement_within (local_stream line name bits size) at items rest least most has number from before = absurd (omega (arith, from, before))
      statement_within (branch line when body other) at items rest least most has number from before =
          let middle : Standing = behind_all body (state_behind at) in
          let made = else_states other middle (at.state + 1) (λ join. chained_all graphs body (state_behind at) no_item (plainly join ∷ [])) rest (states_in_all body) refl
          (λ join. all_counted graphs body (state_behind at) no_item (plainly join ∷ [])) has.1 in
          elim (split (number + 1) (at.state + 1)) [
            | inl here ↦ subst (AllByRecursion P) (sym (has.0 number (omega (arith, from, here)))) (
              within (if_holds (guard_of at.table line when) at.state) least (omega (arith, most, some_other other)),
              (within (plainly middle.state) (omega (arith, least)) (omega (arith, most, some_other other)), tt),
            )
            | inr later ↦ elim (split (number + 1) (middle.state + 1)) [
              | inl inside ↦ block_within body (state_behind at) no_item (plainly made.0 ∷ []) (omega (arith, least)) (omega (arith, most)) made.3
                  (within (plainly made.0) (omega (arith, least, made.1)) (omega (arith, most, made.2)), tt) number later inside
              | inr beyond ↦ elim made.5 [
                | inl none ↦ absurd (omega (arith, beyond, before, subst (λ block. states_in_other other ≡ states_in_other block) none.0 refl))
                | inr some ↦ block_within other (state_behind middle) no_item (plainly made.0 ∷ []) (omega (arith, least)) (omega (arith, most, made.2, some.1)) some.0
                    (within (plainly made.0) (omega (arith, least, made.1)) (omega (arith, most, made.2)), tt) number beyond (omega (arith, before, made.2, some.1))
              ]
            ]
          ]
      statement_within (while_loop line when body) at items rest least most has number from before =
          let inside : Standing = state_behind (state_behind at) in
          let back : List ExitTree = back_to at.state [] ∷ [] in
          elim (split (number + 1) (at.state + 1)) [
            | inl here ↦ subst (AllByRecursion P) (sym (has.0 number (omega (arith, from, here)))) (within (plainly at.state) least (omega (arith, most)), tt)
            | inr later ↦ elim (split (number + 1) (at.state + 1 + 1)) [
              | inl begin ↦ subst (AllByRecursion P) (sym (has.1.0 number (omega (arith, later, begin)))) (
                within (if_holds (guard_of at.table line when) (at.state + 1)) (omega (arith, least)) (omega (arith, most)),
                (within (plainly (at.state + 1 + 1 + states_in_all body)) (omega (arith, least)) (omega (arith, most)), tt),
              )
              | inr beyond ↦ block_within body inside no_item back (omega (arith, least)) (omega (arith, most)) (loop_inside at inside body back (rest no_item) refl has.1.1)
                  (within (back_to at.state []) least (omega (arith, most)), tt) number beyond (omega (arith, before))
            ]
          ]
      statement_within (for_loop line name start end step body) at items rest least most has number from before =
          let inside : Standing = with_loop_variable name (state_behind (state_behind at)) in
          let turn : ExitTree = back_to at.state ((at.variable, stepped_on at.variable step) ∷ []) in
          elim (split (number + 1) (at.state + 1)) [
            | inl here ↦ subst (AllByRecursion P) (sym (has.0 number (omega (arith, from, here))))
                (within (setting at.state at.variable (affine_or affine_zero at.table.variables start)) least (omega (arith, most)), tt)
            | inr later ↦ elim (split (number + 1) (at.state + 1 + 1)) [
              | inl begin ↦ subst (AllByRecursion P) (sym (has.1.0 number (omega (arith, later, begin)))) (
                within (if_holds (below inside.table line name end) (at.state + 1)) (omega (arith, least)) (omega (arith, most)),
                (within (plainly (at.state + 1 + 1 + states_in_all body)) (omega (arith, least)) (omega (arith, most)), tt),
              )
              | inr beyond ↦ block_within body inside no_item (turn ∷ []) (omega (arith, least)) (omega (arith, most)) (loop_inside at inside body (turn ∷ []) (rest no_item) refl has.1.1)
                  (within turn least (omega (arith, most)), tt) number beyond (omega (arith, before))
            ]
          ]
      statement_within (assign line name target add value) at items rest least most has number from before = one_within at items _ least most has number from before
      statement_within (copy line to to_dimensions from_name from_dimensions) at items rest least most has number from before = one_within at items _ least most has number from before
      statement_within (reduce line lambda from_name to axis identity) at items rest least most has number from before = one_within at items _ least most has number from before
      statement_within (map_scope line parameters ranges body) at items rest least most has number from before = one_within at items _ least most has number from before
      statement_within (tasklet line body) at items rest least most has number from before = one_within at items _ least most has number from before
      statement_within (consume_scope line stream size name element worker body) at items rest least most has number from before = one_within at items _ least most has number from before
      statement_within (call line name arguments) at items rest least most has number from before = one_within at items _ least most has number from before
      statement_within (input line connector memlet) at items rest least most has number from before = one_within at items _ least most has number from before
      statement_within (output line connector memlet) at items rest least most has number from before = one_within at items _ least most has number from before
      statement_within (set line name value) at items rest least most has number from before = one_within at items _ least most has number from before
      statement_within (set_at line name target value) at items rest least most has number from before = one_within at items _ least most has number from before
      statement_within (tasklet_branch line when body other) at items rest least most has number from before = one_within at items _ least most has number from before

      -- so it is of the last state's transitions, where it is of these
      pub block_within : (block : Block) (at : Standing) (items : ItemTrees) (exits : List ExitTree) → low ≤ at.state → at.state + states_in_all block ≤ high →
          Has at.state (chained_all graphs block at items exits) → AllByRecursion P exits → (number : ℕ) → at.state ≤ number + 1 → number + 1 < at.state + states_in_all block + 1 →
          AllByRecursion P (exits_at states number)
      block_within no_statement at items exits least most has ends number from before = subst (AllByRecursion P) (sym (has.0 number (omega (arith, from, before)))) ends
      block_within (and_statement first rest) at items exits least most has ends number from before =
          let made = behind_states first at items (λ items. chained_all graphs rest (behind first at) items exits) has in
          elim (split (number + 1) (at.state + states_in first)) [
            | inl here ↦ statement_within first at items (λ items. chained_all graphs rest (behind first at) items exits) least (omega (arith, most)) has number from here
            | inr later ↦ block_within rest (behind first at) made.0 exits (omega (arith, least)) (omega (arith, most)) made.1 ends number later (omega (arith, before))
          ]
