-- What holds of the states of each function holds throughout the graph of a program.
use Rattle.std.proofs.Common.{ℕ, ◌+◌, List, [], ◌∷◌, ◌++◌, length, Option, Some, unwrap_or, Bool, true, false, cond, ◌&&◌, bytes_eq}
use Rattle.std.specs.List.{AllByRecursion}
use Rattle.sd_lex.specs.PlainTree.{StatementTree, argument_array, local_array, local_stream, assign, copy, reduce, map_scope, tasklet, consume_scope, call, for_loop, while_loop, branch, input, output, set, set_at, tasklet_branch, Block, no_statement, and_statement, FunctionTree}
use Rattle.sd_lex.specs.StatementKind.{has_connector}
use Rattle.sd_graph.specs.PlainTree.{ItemTrees, no_item, KindTree, ExitTree, StateTrees, no_state, GraphTree}
use Rattle.sd_graph.specs.TreeFold.{PlainState, states_listed}
use Rattle.sd_program.specs.Names.{Name, Named, in_force}
use Rattle.sd_program.specs.Declared.{states_in, states_in_all, containers_in}
use Rattle.sd_task.specs.task.Table.{Table, with_container, with_variables}
use Rattle.sd_elab.specs.items.Counts.{variables_in}
use Rattle.sd_elab.specs.items.NamesBehind.{table_behind}
use Rattle.sd_elab.specs.items.Graphs.{no_graph, graph_named}
use Rattle.sd_elab.specs.items.Items.{items_with, items_of_body}
use Rattle.sd_elab.specs.states.Exits.{plainly}
use Rattle.sd_elab.specs.states.Standing.{Standing, behind, behind_all, state_behind, with_loop_variable}
use Rattle.sd_elab.specs.states.States.{chained, chained_all, chained_other}
use Rattle.sd_elab.specs.elab.Elaboration.{function_graph, start_of, states_of_function, graphs_with, latest}
use Rattle.sd_made.specs.elab.Throughout.{KindThroughout, ItemsThroughout, StatesThroughout, Throughout}

module _ (Holds : StateTrees → Type 0) where
  either_throughout : (is_task : Bool) (one other : ItemTrees) → ItemsThroughout Holds one → ItemsThroughout Holds other → ItemsThroughout Holds (cond is_task one other)
  either_throughout true one other holds others = holds
  either_throughout false one other holds others = others

  element_throughout : (resolved : Bool) (one other : KindTree) → KindThroughout Holds one → KindThroughout Holds other → KindThroughout Holds (cond resolved one other)
  element_throughout true one other holds others = holds
  element_throughout false one other holds others = others

  joined_throughout : (first second : List PlainState) → StatesThroughout Holds (states_listed first) → StatesThroughout Holds (states_listed second) → StatesThroughout Holds (states_listed (first ++ second))
  joined_throughout [] second holds others = others
  joined_throughout (state ∷ first) second holds others = (holds.0, joined_throughout first second holds.1 others)

  module _ (graphs : Name → GraphTree) (through : (name : Name) → Throughout Holds (graphs name)) where
    mutual
      item_throughout : (statement : StatementTree) (in_scope : Bool) (table : Table) (container variable : ℕ) (rest : ItemTrees) → ItemsThroughout Holds rest →
          ItemsThroughout Holds (items_with graphs statement in_scope table container variable rest)
      item_throughout (argument_array line name bits extents) in_scope table container variable rest holds = holds
      item_throughout (local_array line name extents bits) in_scope table container variable rest holds = holds
      item_throughout (local_stream line name bits size) in_scope table container variable rest holds = holds
      item_throughout (assign line name at add value) in_scope table container variable rest holds = (element_throughout (add && in_scope) _ _ tt tt, holds)
      item_throughout (copy line to to_dimensions from from_dimensions) in_scope table container variable rest holds = (tt, holds)
      item_throughout (reduce line lambda from to axis identity) in_scope table container variable rest holds = (tt, holds)
      item_throughout (map_scope line parameters ranges body) in_scope table container variable rest holds =
          (body_throughout body (with_variables parameters variable table) container (variable + length parameters), holds)
      item_throughout (tasklet line body) in_scope table container variable rest holds = (tt, holds)
      item_throughout (consume_scope line stream size name element worker body) in_scope table container variable rest holds =
          (either_throughout (has_connector body) _ _ (tt, tt) (body_throughout body (with_container element container table) (container + 1) variable), holds)
      item_throughout (call line name arguments) in_scope table container variable rest holds = (through name, holds)
      item_throughout (for_loop line name begin end step body) in_scope table container variable rest holds = holds
      item_throughout (while_loop line when body) in_scope table container variable rest holds = holds
      item_throughout (branch line when body other) in_scope table container variable rest holds = holds
      item_throughout (input line connector memlet) in_scope table container variable rest holds = holds
      item_throughout (output line connector memlet) in_scope table container variable rest holds = holds
      item_throughout (set line name value) in_scope table container variable rest holds = holds
      item_throughout (set_at line name at value) in_scope table container variable rest holds = holds
      item_throughout (tasklet_branch line when body other) in_scope table container variable rest holds = holds

      body_throughout : (body : Block) (table : Table) (container variable : ℕ) → ItemsThroughout Holds (items_of_body graphs body table container variable)
      body_throughout no_statement table container variable = tt
      body_throughout (and_statement first rest) table container variable =
          item_throughout first true table container variable _
          (body_throughout rest (table_behind first container table) (container + containers_in first) (variable + variables_in first))

    abbrev Follows : (ItemTrees → List PlainState) → Type 0
    Follows rest = (items : ItemTrees) → ItemsThroughout Holds items → StatesThroughout Holds (states_listed (rest items))

    made_throughout : (statement : StatementTree) (at : Standing) (items : ItemTrees) (rest : ItemTrees → List PlainState) → ItemsThroughout Holds items → Follows rest →
        StatesThroughout Holds (states_listed ((items, plainly at.state ∷ []) ∷ rest (items_with graphs statement false at.table at.container at.variable no_item)))
    made_throughout statement at items rest holds follows = (holds, follows _ (item_throughout statement false at.table at.container at.variable no_item tt))

    mutual
      statement_throughout : (statement : StatementTree) (at : Standing) (items : ItemTrees) (rest : ItemTrees → List PlainState) → ItemsThroughout Holds items → Follows rest →
          StatesThroughout Holds (states_listed (chained graphs statement at items rest))
      statement_throughout (argument_array line name bits extents) at items rest holds follows = follows items holds
      statement_throughout (local_array line name extents bits) at items rest holds follows = follows items holds
      statement_throughout (local_stream line name bits size) at items rest holds follows = follows items holds
      statement_throughout (branch line when body other) at items rest holds follows = (
        holds,
        other_throughout other (behind_all body (state_behind at)) (λ join. chained_all graphs body (state_behind at) no_item (plainly join ∷ [])) rest
            (λ join. block_throughout body (state_behind at) no_item (plainly join ∷ []) tt) follows,
      )
      statement_throughout (while_loop line when body) at items rest holds follows =
          (holds, (tt, joined_throughout _ (rest no_item) (block_throughout body (state_behind (state_behind at)) no_item _ tt) (follows no_item tt)))
      statement_throughout (for_loop line name begin end step body) at items rest holds follows =
          (holds, (tt, joined_throughout _ (rest no_item) (block_throughout body (with_loop_variable name (state_behind (state_behind at))) no_item _ tt) (follows no_item tt)))
      statement_throughout (assign line name target add value) at items rest holds follows = made_throughout (assign line name target add value) at items rest holds follows
      statement_throughout (copy line to to_dimensions from from_dimensions) at items rest holds follows = made_throughout (copy line to to_dimensions from from_dimensions) at items rest holds follows
      statement_throughout (reduce line lambda from to axis identity) at items rest holds follows = made_throughout (reduce line lambda from to axis identity) at items rest holds follows
      statement_throughout (map_scope line parameters ranges body) at items rest holds follows = made_throughout (map_scope line parameters ranges body) at items rest holds follows
      statement_throughout (tasklet line body) at items rest holds follows = made_throughout (tasklet line body) at items rest holds follows
      statement_throughout (consume_scope line stream size name element worker body) at items rest holds follows = made_throughout (consume_scope line stream size name element worker body) at items rest holds follows
      statement_throughout (call line name arguments) at items rest holds follows = made_throughout (call line name arguments) at items rest holds follows
      statement_throughout (input line connector memlet) at items rest holds follows = (holds, follows no_item tt)
      statement_throughout (output line connector memlet) at items rest holds follows = (holds, follows no_item tt)
      statement_throughout (set line name value) at items rest holds follows = (holds, follows no_item tt)
      statement_throughout (set_at line name target value) at items rest holds follows = (holds, follows no_item tt)
      statement_throughout (tasklet_branch line when body other) at items rest holds follows = (holds, follows no_item tt)

      block_throughout : (block : Block) (at : Standing) (items : ItemTrees) (exits : List ExitTree) → ItemsThroughout Holds items → StatesThroughout Holds (states_listed (chained_all graphs block at items exits))
      block_throughout no_statement at items exits holds = (holds, tt)
      block_throughout (and_statement first rest) at items exits holds =
          statement_throughout first at items (λ items. chained_all graphs rest (behind first at) items exits) holds (λ items holds. block_throughout rest (behind first at) items exits holds)

      other_throughout : (other : Block) (at : Standing) (first : ℕ → List PlainState) (rest : ItemTrees → List PlainState) → ((join : ℕ) → StatesThroughout Holds (states_listed (first join))) → Follows rest →
          StatesThroughout Holds (states_listed (chained_other graphs other at first rest))
      other_throughout no_statement at first rest holds follows = joined_throughout (first at.state) (rest no_item) (holds at.state) (follows no_item tt)
      other_throughout (and_statement statement others) at first rest holds follows =
          let join : ℕ = at.state + 1 + (states_in statement + states_in_all others) in
          joined_throughout (first join) _ (holds join)
          (joined_throughout _ (rest no_item)
          (statement_throughout statement (state_behind at) no_item (λ items. chained_all graphs others (behind statement (state_behind at)) items (plainly join ∷ [])) tt
          (λ items holds. block_throughout others (behind statement (state_behind at)) items (plainly join ∷ []) holds))
          (follows no_item tt))

  -- ---- graphs

  abbrev AreThroughout : Named GraphTree → Type 0
  AreThroughout graphs = AllByRecursion (λ entry. Throughout Holds entry.1) graphs

  module _ (none : Holds no_state) (symbols : List Name) (Is : FunctionTree → Type 0)
      (each : (graphs : Name → GraphTree) (function : FunctionTree) → Is function → Holds (states_listed (states_of_function symbols graphs function))) where
    named_one : (found : Bool) (of : GraphTree) (others : Option GraphTree) → Throughout Holds of → Throughout Holds (unwrap_or others no_graph) → Throughout Holds (unwrap_or (cond found (Some of) others) no_graph)
    named_one true of others holds rest = holds
    named_one false of others holds rest = rest

    named_throughout : (graphs : Named GraphTree) → AreThroughout graphs → (name : Name) → Throughout Holds (graph_named graphs name)
    named_throughout [] all name = (none, tt)
    named_throughout (entry ∷ graphs) all name = named_one (bytes_eq name entry.0) entry.1 (in_force graphs name) all.0 (named_throughout graphs all.1 name)

    graphs_throughout : (before : Named GraphTree) (functions : List FunctionTree) → AreThroughout before → AllByRecursion Is functions → AreThroughout (graphs_with symbols before functions)
    graphs_throughout before [] all are = all
    graphs_throughout before (function ∷ functions) all are =
        graphs_throughout ((function.name, function_graph symbols (graph_named before) function) ∷ before) functions
        ((each (graph_named before) function are.0, block_throughout (graph_named before) (named_throughout before all) function.body (start_of symbols function) no_item [] tt), all) are.1

    latest_throughout : (graphs : Named GraphTree) → AreThroughout graphs → Throughout Holds (latest graphs)
    latest_throughout [] all = (none, tt)
    latest_throughout (entry ∷ graphs) all = all.0

    pub program_throughout : (functions : List FunctionTree) → AllByRecursion Is functions → Throughout Holds (latest (graphs_with symbols [] functions))
    program_throughout functions are = latest_throughout (graphs_with symbols [] functions) (graphs_throughout [] functions tt are)
