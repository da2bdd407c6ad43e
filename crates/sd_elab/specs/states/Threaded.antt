-- The states of statements, made one after another: those that are finished, and the items of the current one.
use Rattle.std.specs.Prelude.{ℕ, ◌+◌, List, [], ◌∷◌, ◌++◌, Option, false}
use Rattle.sd_lex.specs.PlainTree.{Expression, StatementTree, argument_array, local_array, local_stream, for_loop, while_loop, branch, Block, no_statement, and_statement}
use Rattle.sd_range.specs.Arithmetic.{affine_zero}
use Rattle.sd_graph.specs.PlainTree.{ItemTrees, no_item, GuardTree, ExitTree, GraphTree}
use Rattle.sd_graph.specs.TreeFold.{PlainState}
use Rattle.sd_program.specs.Names.{Name}
use Rattle.sd_program.specs.Declared.{states_in_all}
use Rattle.sd_task.specs.in_force.Ranges.{affine_or}
use Rattle.sd_task.specs.task.ElementCode.{guard_of, below}
use Rattle.sd_elab.specs.items.Items.{items_with}
use Rattle.sd_elab.specs.states.Exits.{plainly, setting, if_holds, back_to, stepped_on}
use Rattle.sd_elab.specs.states.Standing.{Standing, behind, behind_all, state_behind, with_loop_variable}

pub record Threaded : Type 0 where
  pub finished : List PlainState
  pub items : ItemTrees

-- the current state has these exits; the next one has no item
abbrev pub closed : Threaded → List ExitTree → Threaded
closed t exits = record { finished = t.finished ++ (t.items, exits) ∷ []; items = no_item }

-- the current state has these items
abbrev pub holding : Threaded → ItemTrees → Threaded
holding t items = record { finished = t.finished; items = items }

-- to a block where a condition holds, else behind the block
abbrev pub to_block : GuardTree → Block → Standing → List ExitTree
to_block guard body at = if_holds guard at.state ∷ plainly (at.state + 1 + states_in_all body) ∷ []

-- in the block of a `for` loop, which is behind two states
abbrev pub in_loop : Name → Standing → Standing
in_loop name at = state_behind (with_loop_variable name (state_behind at))

-- the loop's variable is given its begin, and then compared with its end
abbrev pub loop_begun : (line : ℕ) → Name → (begin : Option Expression) → (end : Expression) → Block → Standing → Threaded → Threaded
loop_begun line name begin end body at t =
    let inside : Standing = with_loop_variable name (state_behind at) in
    closed (closed t (setting at.state at.variable (affine_or affine_zero at.table.variables begin) ∷ []))
    (to_block (below inside.table line name end) body inside)

-- behind the first block of an `if`: the number of the state behind both
abbrev pub join_of : (other : Block) → Standing → ℕ
join_of no_statement at = at.state
join_of (and_statement first rest) at = at.state + 1 + states_in_all (and_statement first rest)

-- the first block goes on to the state behind both where there is an `else`, which begins in a state of its own
abbrev pub else_begun : (other : Block) → Standing → Threaded → Threaded
else_begun no_statement at t = t
else_begun (and_statement first rest) at t = closed t (plainly (join_of (and_statement first rest) at) ∷ [])

abbrev pub in_else : (other : Block) → Standing → Standing
in_else no_statement at = at
in_else (and_statement first rest) at = state_behind at

module _ (graphs : Name → GraphTree) where
  -- a statement that holds no block of states: what is no declaration has a state of its own
  abbrev pub leaf_threaded : StatementTree → Standing → Threaded → Threaded
  leaf_threaded (argument_array line name bits extents) at t = t
  leaf_threaded (local_array line name extents bits) at t = t
  leaf_threaded (local_stream line name bits size) at t = t
  leaf_threaded statement at t = holding (closed t (plainly at.state ∷ [])) (items_with graphs statement false at.table at.container at.variable no_item)

  abbrev mutual
    pub threaded : StatementTree → Standing → Threaded → Threaded
    threaded (branch line when body other) at t =
        let behind_body : Standing = behind_all body (state_behind at) in
        let body_made : Threaded = threaded_all body (state_behind at) (closed t (to_block (guard_of at.table line when) body at)) in
        closed (threaded_all other (in_else other behind_body) (else_begun other behind_body body_made)) (plainly (join_of other behind_body) ∷ [])
    threaded (while_loop line when body) at t =
        closed
        (threaded_all body (state_behind (state_behind at))
        (closed (closed t (plainly at.state ∷ [])) (to_block (guard_of at.table line when) body (state_behind at))))
        (back_to at.state [] ∷ [])
    threaded (for_loop line name begin end step body) at t =
        closed (threaded_all body (in_loop name at) (loop_begun line name begin end body at t))
        (back_to at.state ((at.variable, stepped_on at.variable step) ∷ []) ∷ [])
    threaded statement at t = leaf_threaded statement at t

    pub threaded_all : Block → Standing → Threaded → Threaded
    threaded_all no_statement at t = t
    threaded_all (and_statement first rest) at t = threaded_all rest (behind first at) (threaded first at t)
