-- What stands in the states of a program's block, counted along its statements.
use Rattle.std.proofs.Common.{◌≡◌, ℕ, ◌+◌, List, [], ◌∷◌, ◌++◌, false, sym, arith, zero-add}
use Rattle.sd_lex.specs.PlainTree.{StatementTree, argument_array, local_array, local_stream, for_loop, while_loop, branch, Block, no_statement, and_statement}
use Rattle.sd_range.specs.Arithmetic.{affine_zero}
use Rattle.sd_range.specs.declared.affine.Affine.{Affine}
use Rattle.sd_graph.specs.PlainTree.{ItemTrees, no_item, GraphTree, ExitTree}
use Rattle.sd_graph.specs.TreeFold.{PlainState, states_listed}
use Rattle.sd_program.specs.Names.{Name}
use Rattle.sd_program.specs.Declared.{states_in, states_in_all}
use Rattle.sd_task.specs.in_force.Ranges.{affine_or}
use Rattle.sd_task.specs.task.ElementCode.{guard_of, below}
use Rattle.sd_elab.specs.items.Items.{items_with}
use Rattle.sd_elab.specs.states.Exits.{plainly, setting, if_holds, back_to, stepped_on}
use Rattle.sd_elab.specs.states.Standing.{Standing, behind, behind_all, state_behind, with_loop_variable}
use Rattle.sd_elab.specs.states.States.{chained, chained_all, chained_other}
use Rattle.sd_validity.specs.rules.Places.{Thing, leaving}
use Rattle.sd_validity.specs.things.Things.{item_things, state_things}
use Rattle.sd_validity.proofs.things_lemmas.Times.{times}
use Rattle.sd_made.proofs.scopes_lemmas.Counted.{counted, counted_joined}

-- where a variable that a transition sets counts so much
module _ (weight : ℕ → ℕ) where
  abbrev pub set_weight : List (ℕ × Affine) → ℕ
  set_weight [] = 0
  set_weight (assignment ∷ set) = weight assignment.0 + set_weight set

  abbrev pub exits_weight : List ExitTree → ℕ
  exits_weight [] = 0
  exits_weight (exit ∷ exits) = set_weight exit.set + exits_weight exits

module _ (graphs : Name → GraphTree) (numbers : Thing → List ℕ) (number : ℕ) (weight : ℕ → ℕ) where
  abbrev pub in_items : ItemTrees → ℕ
  in_items items = counted numbers number (item_things items)

  abbrev pub in_states : List PlainState → ℕ
  in_states states = counted numbers number (state_things (states_listed states))

  -- what the states of a statement have beside the items of the state before
  abbrev mutual
    pub made : StatementTree → Standing → ℕ
    made (argument_array line name bits extents) at = 0
    made (local_array line name extents bits) at = 0
    made (local_stream line name bits size) at = 0
    made (branch line when body other) at = made_all body (state_behind at) + made_other other (behind_all body (state_behind at))
    made (while_loop line when body) at = made_all body (state_behind (state_behind at))
    made (for_loop line name begin end step body) at = weight at.variable + (made_all body (with_loop_variable name (state_behind (state_behind at))) + weight at.variable)
    made statement at = in_items (items_with graphs statement false at.table at.container at.variable no_item)

    pub made_all : Block → Standing → ℕ
    made_all no_statement at = 0
    made_all (and_statement first rest) at = made first at + made_all rest (behind first at)

    pub made_other : Block → Standing → ℕ
    made_other no_statement at = 0
    made_other (and_statement statement others) at = made statement (state_behind at) + made_all others (behind statement (state_behind at))

  module _ (leaves : (items : ItemTrees) (exits : List ExitTree) → times number (numbers (leaving items exits)) ≡ exits_weight weight exits) where
    state_first : (items : ItemTrees) (exits : List ExitTree) (rest : List PlainState) → in_states ((items, exits) ∷ rest) ≡ exits_weight weight exits + (in_items items + in_states rest)
    state_first items exits rest = omega (arith, leaves items exits, counted_joined numbers number (item_things items) (state_things (states_listed rest)))

    states_joined : (first second : List PlainState) → in_states (first ++ second) ≡ in_states first + in_states second
    states_joined [] second = sym (zero-add (in_states second))
    states_joined (state ∷ first) second = omega (arith, state_first state.0 state.1 (first ++ second), state_first state.0 state.1 first, states_joined first second)

    abbrev Follows : (more : ℕ) → (ItemTrees → List PlainState) → Type 0
    Follows more rest = (items : ItemTrees) → in_states (rest items) ≡ in_items items + more

    leaf_counted : (statement : StatementTree) (at : Standing) (items : ItemTrees) (rest : ItemTrees → List PlainState) (more : ℕ) → Follows more rest →
        in_states ((items, plainly at.state ∷ []) ∷ rest (items_with graphs statement false at.table at.container at.variable no_item))
        ≡ in_items items + (in_items (items_with graphs statement false at.table at.container at.variable no_item) + more)
    leaf_counted statement at items rest more follows =
        let new : ItemTrees = items_with graphs statement false at.table at.container at.variable no_item in
        omega (arith, state_first items (plainly at.state ∷ []) (rest new), follows new)

    mutual
      one_counted : (statement : StatementTree) (at : Standing) (items : ItemTrees) (rest : ItemTrees → List PlainState) (more : ℕ) → Follows more rest →
          in_states (chained graphs statement at items rest) ≡ in_items items + (made statement at + more)
      one_counted (argument_array line name bits extents) at items rest more follows = omega (arith, follows items)
      one_counted (local_array line name extents bits) at items rest more follows = omega (arith, follows items)
      one_counted (local_stream line name bits size) at items rest more follows = omega (arith, follows items)
      one_counted (branch line when body other) at items rest more follows =
          let first : ℕ → List PlainState = λ join. chained_all graphs body (state_behind at) no_item (plainly join ∷ []) in
          let others : List PlainState = chained_other graphs other (behind_all body (state_behind at)) first rest in
          let of_first : (join : ℕ) → in_states (first join) ≡ made_all body (state_behind at) =
          λ join. (let of_body = all_counted body (state_behind at) no_item (plainly join ∷ []) in omega (arith, of_body)) in
          let of_other = other_counted other (behind_all body (state_behind at)) first rest (made_all body (state_behind at)) more of_first follows in
          let here = state_first items (if_holds (guard_of at.table line when) at.state ∷ plainly (at.state + 1 + states_in_all body) ∷ []) others in
          omega (arith, here, of_other)
      one_counted (while_loop line when body) at items rest more follows =
          let inside : Standing = state_behind (state_behind at) in
          let inner : List PlainState = chained_all graphs body inside no_item (back_to at.state [] ∷ []) in
          let tests : List ExitTree = if_holds (guard_of at.table line when) (at.state + 1) ∷ plainly (at.state + 1 + 1 + states_in_all body) ∷ [] in
          let here = state_first items (plainly at.state ∷ []) ((no_item, tests) ∷ (inner ++ rest no_item)) in
          let test = state_first no_item tests (inner ++ rest no_item) in
          omega (arith, here, test, states_joined inner (rest no_item), all_counted body inside no_item (back_to at.state [] ∷ []), follows no_item)
      one_counted (for_loop line name begin end step body) at items rest more follows =
          let inside : Standing = with_loop_variable name (state_behind (state_behind at)) in
          let back : List ExitTree = back_to at.state ((at.variable, stepped_on at.variable step) ∷ []) ∷ [] in
          let inner : List PlainState = chained_all graphs body inside no_item back in
          let tests : List ExitTree = if_holds (below inside.table line name end) (at.state + 1) ∷ plainly (at.state + 1 + 1 + states_in_all body) ∷ [] in
          let here = state_first items (setting at.state at.variable (affine_or affine_zero at.table.variables begin) ∷ []) ((no_item, tests) ∷ (inner ++ rest no_item)) in
          let test = state_first no_item tests (inner ++ rest no_item) in
          omega (arith, here, test, states_joined inner (rest no_item), all_counted body inside no_item back, follows no_item)
      one_counted statement at items rest more follows = leaf_counted statement at items rest more follows

      pub all_counted : (block : Block) (at : Standing) (items : ItemTrees) (exits : List ExitTree) → in_states (chained_all graphs block at items exits) ≡ in_items items + (made_all block at + exits_weight weight exits)
      all_counted no_statement at items exits = omega (arith, state_first items exits [])
      all_counted (and_statement first rest) at items exits =
          let of_rest : Follows (made_all rest (behind first at) + exits_weight weight exits) (λ items. chained_all graphs rest (behind first at) items exits) = λ items. all_counted rest (behind first at) items exits in
          let of_first = one_counted first at items (λ items. chained_all graphs rest (behind first at) items exits) (made_all rest (behind first at) + exits_weight weight exits) of_rest in
          omega (arith, of_first)

      other_counted : (other : Block) (at : Standing) (first : ℕ → List PlainState) (rest : ItemTrees → List PlainState) (body more : ℕ) → ((join : ℕ) → in_states (first join) ≡ body) → Follows more rest →
          in_states (chained_other graphs other at first rest) ≡ body + (made_other other at + more)
      other_counted no_statement at first rest body more of_first follows = omega (arith, states_joined (first at.state) (rest no_item), of_first at.state, follows no_item)
      other_counted (and_statement statement others) at first rest body more of_first follows =
          let join : ℕ = at.state + 1 + (states_in statement + states_in_all others) in
          let of_others : Follows (made_all others (behind statement (state_behind at))) (λ items. chained_all graphs others (behind statement (state_behind at)) items (plainly join ∷ [])) =
          λ items. (let of_block = all_counted others (behind statement (state_behind at)) items (plainly join ∷ []) in omega (arith, of_block)) in
          let inner : List PlainState = chained graphs statement (state_behind at) no_item (λ items. chained_all graphs others (behind statement (state_behind at)) items (plainly join ∷ [])) in
          let of_inner : in_states inner ≡ made statement (state_behind at) + made_all others (behind statement (state_behind at)) =
          (let of_statement = one_counted statement (state_behind at) no_item (λ items. chained_all graphs others (behind statement (state_behind at)) items (plainly join ∷ []))
          (made_all others (behind statement (state_behind at))) of_others in omega (arith, of_statement)) in
          omega (arith, states_joined (first join) (inner ++ rest no_item), states_joined inner (rest no_item), of_first join, of_inner, follows no_item)
