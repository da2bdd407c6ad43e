-- The states of statements, along the text: the exits of each state are fixed by what follows it.
use Rattle.std.specs.Prelude.{ℕ, ◌+◌, List, [], ◌∷◌, ◌++◌, false}
use Rattle.sd_lex.specs.PlainTree.{StatementTree, argument_array, local_array, local_stream, for_loop, while_loop, branch, Block, no_statement, and_statement}
use Rattle.sd_range.specs.Arithmetic.{affine_zero}
use Rattle.sd_graph.specs.PlainTree.{ItemTrees, no_item, ExitTree, GraphTree}
use Rattle.sd_graph.specs.TreeFold.{PlainState}
use Rattle.sd_program.specs.Names.{Name}
use Rattle.sd_task.specs.in_force.Ranges.{affine_or}
use Rattle.sd_task.specs.task.ElementCode.{guard_of, below}
use Rattle.sd_elab.specs.items.Items.{items_with}
use Rattle.sd_elab.specs.states.Exits.{plainly, setting, if_holds, back_to, stepped_on}
use Rattle.sd_program.specs.Declared.{states_in, states_in_all}
use Rattle.sd_elab.specs.states.Standing.{Standing, behind, behind_all, state_behind, with_loop_variable}

-- calls are of these graphs
module _ (graphs : Name → GraphTree) where
  -- The current state has these items, and the number before at.state. What follows makes the states from at.state on, and the last
  -- of them is the current state behind it.
  abbrev mutual
    -- a statement, and then the rest, to which the items of the state behind the statement are told
    pub chained : StatementTree → Standing → (items : ItemTrees) → (ItemTrees → List PlainState) → List PlainState
    chained (argument_array line name bits extents) at items rest = rest items
    chained (local_array line name extents bits) at items rest = rest items
    chained (local_stream line name bits size) at items rest = rest items
    chained (branch line when body other) at items rest =
        (items, if_holds (guard_of at.table line when) at.state ∷ plainly (at.state + 1 + states_in_all body) ∷ [])
        ∷ chained_other other (behind_all body (state_behind at)) (λ join. chained_all body (state_behind at) no_item (plainly join ∷ [])) rest
    chained (while_loop line when body) at items rest =
        (items, plainly at.state ∷ [])
        ∷ (no_item, if_holds (guard_of at.table line when) (at.state + 1) ∷ plainly (at.state + 1 + 1 + states_in_all body) ∷ [])
        ∷ (chained_all body (state_behind (state_behind at)) no_item (back_to at.state [] ∷ []) ++ rest no_item)
    chained (for_loop line name begin end step body) at items rest =
        let inside : Standing = with_loop_variable name (state_behind (state_behind at)) in
        (items, setting at.state at.variable (affine_or affine_zero at.table.variables begin) ∷ [])
        ∷ (no_item, if_holds (below inside.table line name end) (at.state + 1) ∷ plainly (at.state + 1 + 1 + states_in_all body) ∷ [])
        ∷ (chained_all body inside no_item (back_to at.state ((at.variable, stepped_on at.variable step) ∷ []) ∷ []) ++ rest no_item)
    chained statement at items rest =
        (items, plainly at.state ∷ []) ∷ rest (items_with graphs statement false at.table at.container at.variable no_item)

    -- a block; the current state behind it has these exits
    pub chained_all : Block → Standing → (items : ItemTrees) → List ExitTree → List PlainState
    chained_all no_statement at items exits = (items, exits) ∷ []
    chained_all (and_statement first rest) at items exits = chained first at items (λ items. chained_all rest (behind first at) items exits)

    -- behind the first block of an `if`, which needs the number of the state behind both: its `else`, and that state
    pub chained_other : Block → Standing → (first : ℕ → List PlainState) → (ItemTrees → List PlainState) → List PlainState
    chained_other no_statement at first rest = first at.state ++ rest no_item
    chained_other (and_statement statement others) at first rest =
        let join : ℕ = at.state + 1 + (states_in statement + states_in_all others) in
        first join
        ++ (chained statement (state_behind at) no_item (λ items. chained_all others (behind statement (state_behind at)) items (plainly join ∷ []))
        ++ rest no_item)
