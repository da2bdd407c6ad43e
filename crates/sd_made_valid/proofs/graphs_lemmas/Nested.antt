-- What holds of the graphs that a program calls holds of the graphs nested in its own.
use Rattle.std.proofs.Common.{ℕ, ◌+◌, List, [], ◌∷◌, ◌++◌, length, Bool, true, false, cond, ◌&&◌}
use Rattle.std.specs.Prelude.{⊤}
use Rattle.sd_lex.specs.PlainTree.{StatementTree, argument_array, local_array, local_stream, assign, copy, reduce, map_scope, tasklet, consume_scope, call, for_loop, while_loop, branch, Block, no_statement, and_statement}
use Rattle.sd_lex.specs.StatementKind.{has_connector}
use Rattle.sd_graph.specs.PlainTree as plain
use Rattle.sd_graph.specs.PlainTree.{ItemTrees, no_item, and_item, KindTree, ExitTree, StateTrees, no_state, and_state, GraphTree}
use Rattle.sd_graph.specs.TreeFold.{PlainState, states_listed}
use Rattle.sd_program.specs.Names.{Name}
use Rattle.sd_program.specs.Declared.{states_in, states_in_all, containers_in}
use Rattle.sd_task.specs.task.Table.{Table, with_container, with_variables}
use Rattle.sd_elab.specs.items.Counts.{variables_in}
use Rattle.sd_elab.specs.items.NamesBehind.{table_behind}
use Rattle.sd_elab.specs.items.Items.{items_with, items_of_body}
use Rattle.sd_elab.specs.states.Exits.{plainly}
use Rattle.sd_elab.specs.states.Standing.{Standing, behind, behind_all, state_behind, with_loop_variable}
use Rattle.sd_elab.specs.states.States.{chained, chained_all, chained_other}

module _ (Holds : GraphTree → Type 0) where
  abbrev mutual
    -- of each graph that is nested in an item, but not of those in it
    pub KindHolds : KindTree → Type 0
    KindHolds (plain.task code ins outs) = ⊤
    KindHolds (plain.map_scope sequential params private body) = ItemsHold body
    KindHolds (plain.consume_scope stream element private body) = ItemsHold body
    KindHolds (plain.nested_graph inner links) = Holds inner
    KindHolds (plain.reduction resolution axis identity from to) = ⊤
    KindHolds (plain.copy from to) = ⊤

    pub ItemsHold : ItemTrees → Type 0
    ItemsHold no_item = ⊤
    ItemsHold (and_item line kind items) = KindHolds kind × ItemsHold items

  abbrev pub StatesHold : StateTrees → Type 0
  StatesHold no_state = ⊤
  StatesHold (and_state items exits states) = ItemsHold items × StatesHold states

  either_holds : (is_task : Bool) (one other : ItemTrees) → ItemsHold one → ItemsHold other → ItemsHold (cond is_task one other)
  either_holds true one other holds others = holds
  either_holds false one other holds others = others

  element_holds : (resolved : Bool) (one other : KindTree) → KindHolds one → KindHolds other → KindHolds (cond resolved one other)
  element_holds true one other holds others = holds
  element_holds false one other holds others = others

  joined_hold : (first second : List PlainState) → StatesHold (states_listed first) → StatesHold (states_listed second) → StatesHold (states_listed (first ++ second))
  joined_hold [] second holds others = others
  joined_hold (state ∷ first) second holds others = (holds.0, joined_hold first second holds.1 others)

  -- calls are of these graphs
  module _ (graphs : Name → GraphTree) where
    abbrev mutual
      -- of the graph of each call in a statement
      pub CallsHold : StatementTree → Type 0
      CallsHold (call line name arguments) = Holds (graphs name)
      CallsHold (map_scope line parameters ranges body) = AllCallsHold body
      CallsHold (consume_scope line stream size name element worker body) = AllCallsHold body
      CallsHold (for_loop line name begin end step body) = AllCallsHold body
      CallsHold (while_loop line when body) = AllCallsHold body
      CallsHold (branch line when body other) = AllCallsHold body × AllCallsHold other
      CallsHold statement = ⊤

      pub AllCallsHold : Block → Type 0
      AllCallsHold no_statement = ⊤
      AllCallsHold (and_statement first rest) = CallsHold first × AllCallsHold rest

    mutual
      item_holds : (statement : StatementTree) (in_scope : Bool) (table : Table) (container variable : ℕ) (rest : ItemTrees) → CallsHold statement → ItemsHold rest →
          ItemsHold (items_with graphs statement in_scope table container variable rest)
      item_holds (assign line name at add value) in_scope table container variable rest called holds = (element_holds (add && in_scope) _ _ tt tt, holds)
      item_holds (copy line to to_dimensions from from_dimensions) in_scope table container variable rest called holds = (tt, holds)
      item_holds (reduce line lambda from to axis identity) in_scope table container variable rest called holds = (tt, holds)
      item_holds (map_scope line parameters ranges body) in_scope table container variable rest called holds =
          (body_holds body (with_variables parameters variable table) container (variable + length parameters) called, holds)
      item_holds (tasklet line body) in_scope table container variable rest called holds = (tt, holds)
      item_holds (consume_scope line stream size name element worker body) in_scope table container variable rest called holds =
          (either_holds (has_connector body) _ _ (tt, tt) (body_holds body (with_container element container table) (container + 1) variable called), holds)
      item_holds (call line name arguments) in_scope table container variable rest called holds = (called, holds)
      item_holds statement in_scope table container variable rest called holds = holds

      body_holds : (body : Block) (table : Table) (container variable : ℕ) → AllCallsHold body → ItemsHold (items_of_body graphs body table container variable)
      body_holds no_statement table container variable called = tt
      body_holds (and_statement first rest) table container variable called =
          item_holds first true table container variable _ called.0 (body_holds rest (table_behind first container table) (container + containers_in first) (variable + variables_in first) called.1)

    abbrev Follows : (ItemTrees → List PlainState) → Type 0
    Follows rest = (items : ItemTrees) → ItemsHold items → StatesHold (states_listed (rest items))

    mutual
      statement_holds : (statement : StatementTree) (at : Standing) (items : ItemTrees) (rest : ItemTrees → List PlainState) → CallsHold statement → ItemsHold items → Follows rest →
          StatesHold (states_listed (chained graphs statement at items rest))
      statement_holds (argument_array line name bits extents) at items rest called holds follows = follows items holds
      statement_holds (local_array line name extents bits) at items rest called holds follows = follows items holds
      statement_holds (local_stream line name bits size) at items rest called holds follows = follows items holds
      statement_holds (branch line when body other) at items rest called holds follows = (
        holds,
        other_holds other (behind_all body (state_behind at)) (λ join. chained_all graphs body (state_behind at) no_item (plainly join ∷ [])) rest called.1
            (λ join. block_holds body (state_behind at) no_item (plainly join ∷ []) called.0 tt) follows,
      )
      statement_holds (while_loop line when body) at items rest called holds follows =
          (holds, (tt, joined_hold _ (rest no_item) (block_holds body (state_behind (state_behind at)) no_item _ called tt) (follows no_item tt)))
      statement_holds (for_loop line name begin end step body) at items rest called holds follows =
          (holds, (tt, joined_hold _ (rest no_item) (block_holds body (with_loop_variable name (state_behind (state_behind at))) no_item _ called tt) (follows no_item tt)))
      statement_holds statement at items rest called holds follows = (holds, follows _ (item_holds statement false at.table at.container at.variable no_item called tt))

      pub block_holds : (block : Block) (at : Standing) (items : ItemTrees) (exits : List ExitTree) → AllCallsHold block → ItemsHold items → StatesHold (states_listed (chained_all graphs block at items exits))
      block_holds no_statement at items exits called holds = (holds, tt)
      block_holds (and_statement first rest) at items exits called holds =
          statement_holds first at items (λ items. chained_all graphs rest (behind first at) items exits) called.0 holds (λ items holds. block_holds rest (behind first at) items exits called.1 holds)

      other_holds : (other : Block) (at : Standing) (first : ℕ → List PlainState) (rest : ItemTrees → List PlainState) → AllCallsHold other → ((join : ℕ) → StatesHold (states_listed (first join))) → Follows rest →
          StatesHold (states_listed (chained_other graphs other at first rest))
      other_holds no_statement at first rest called holds follows = joined_hold (first at.state) (rest no_item) (holds at.state) (follows no_item tt)
      other_holds (and_statement statement others) at first rest called holds follows =
          let join : ℕ = at.state + 1 + (states_in statement + states_in_all others) in
          joined_hold (first join) _ (holds join)
          (joined_hold _ (rest no_item)
          (statement_holds statement (state_behind at) no_item (λ items. chained_all graphs others (behind statement (state_behind at)) items (plainly join ∷ [])) called.0 tt
          (λ items holds. block_holds others (behind statement (state_behind at)) items (plainly join ∷ []) called.1 holds))
          (follows no_item tt))
