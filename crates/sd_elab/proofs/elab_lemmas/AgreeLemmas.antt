-- A graph depends on the graphs of those programs alone that it calls.
use Rattle.std.proofs.Common.{◌≡◌, ◌∙◌, ℕ, ◌+◌, List, [], ◌∷◌, ◌++◌, length, Bool, true, false, cond, refl, ap}
use Rattle.std.specs.List.{AllByRecursion}
use Rattle.sd_lex.specs.PlainTree.{StatementTree, argument_array, local_array, local_stream, assign, copy, reduce, map_scope, tasklet, consume_scope, call, for_loop, while_loop, branch, input, output, set, set_at, tasklet_branch, Block, no_statement, and_statement, FunctionTree}
use Rattle.sd_lex.specs.StatementKind.{has_connector}
use Rattle.sd_range.specs.Arithmetic.{affine_zero}
use Rattle.sd_graph.specs.PlainTree as plain
use Rattle.sd_graph.specs.PlainTree.{ItemTrees, no_item, and_item, ExitTree, GraphTree, graph}
use Rattle.sd_graph.specs.TreeFold.{PlainState, states_listed}
use Rattle.sd_graph.specs.TreeParts.{containers_of}
use Rattle.sd_program.specs.Names.{Name}
use Rattle.sd_program.specs.Declared.{states_in, states_in_all, containers_in, containers_in_all}
use Rattle.sd_task.specs.in_force.Ranges.{affine_or, parameters_of}
use Rattle.sd_task.specs.task.ElementCode.{guard_of, below}
use Rattle.sd_task.specs.task.Table.{Table, with_container, with_variables, container_number}
use Rattle.sd_task.specs.tasklets.Item.{task_with, inputs_of, outputs_of}
use Rattle.sd_task.specs.containers.Declarations.{containers_of_function, variable_names_all}
use Rattle.sd_elab.specs.items.Counts.{variables_in}
use Rattle.sd_elab.specs.items.Items.{call_links, taken_link, items_with, items_of_body}
use Rattle.sd_elab.specs.items.NamesBehind.{own_of, table_behind}
use Rattle.sd_elab.specs.needs.Needed.{called_by, called_in}
use Rattle.sd_elab.proofs.needs_lemmas.NeededLemmas.{each_before, each_behind}
use Rattle.sd_elab.specs.states.Exits.{plainly, setting, if_holds, back_to, stepped_on}
use Rattle.sd_elab.specs.states.Standing.{Standing, behind, behind_all, state_behind, with_loop_variable}
use Rattle.sd_elab.specs.states.States.{chained, chained_all, chained_other}
use Rattle.sd_elab.specs.elab.Elaboration.{start_of, function_graph}

-- one state, where the items of the next one are the same and so is what follows
one_state : (state : PlainState) (made other : ItemTrees) (rest others : ItemTrees → List PlainState) → made ≡ other → ((items : ItemTrees) → rest items ≡ others items) → state ∷ rest made ≡ state ∷ others other
one_state state made other rest others same follows = ap (λ (items : ItemTrees). state ∷ rest items) same ∙ ap (λ (states : List PlainState). state ∷ states) (follows other)

-- states, and what follows them
with_rest : (states made : List PlainState) (rest others : ItemTrees → List PlainState) → states ≡ made → ((items : ItemTrees) → rest items ≡ others items) → states ++ rest no_item ≡ made ++ others no_item
with_rest states made rest others same follows = ap (λ (s : List PlainState). s ++ rest no_item) same ∙ ap (λ (s : List PlainState). made ++ s) (follows no_item)

module _ (first second : Name → GraphTree) where
  -- these graphs are the same under each of these names
  abbrev pub Agree : List Name → Type 0
  Agree names = AllByRecursion (λ name. first name ≡ second name) names

  agree_before : (names others : List Name) → Agree (names ++ others) → Agree names
  agree_before = each_before (λ name. first name ≡ second name)

  agree_behind : (names others : List Name) → Agree (names ++ others) → Agree others
  agree_behind = each_behind (λ name. first name ≡ second name)

  mutual
    same_items : (statement : StatementTree) (in_scope : Bool) (table : Table) (container variable : ℕ) (rest : ItemTrees) → Agree (called_by statement) →
        items_with first statement in_scope table container variable rest ≡ items_with second statement in_scope table container variable rest
    same_items (map_scope line parameters ranges body) in_scope table container variable rest agree =
        ap (λ (items : ItemTrees). and_item line (plain.map_scope false (parameters_of table.variables ranges variable) (own_of body container) items) rest)
        (same_body body (with_variables parameters variable table) container (variable + length parameters) agree)
    same_items (consume_scope line stream size name element worker body) in_scope table container variable rest agree =
        ap
        (λ (items : ItemTrees).
        and_item line
        (plain.consume_scope (container_number table stream) container (own_of body (container + 1))
        (cond (has_connector body) (and_item line (task_with table (taken_link element container ∷ inputs_of table body) (outputs_of table body) body) no_item) items))
        rest)
        (same_body body (with_container element container table) (container + 1) variable agree)
    same_items (call line name arguments) in_scope table container variable rest agree =
        ap (λ (callee : GraphTree). and_item line (plain.nested_graph callee (call_links table arguments (containers_of callee))) rest) agree.0
    same_items (argument_array line name bits extents) in_scope table container variable rest agree = refl
    same_items (local_array line name extents bits) in_scope table container variable rest agree = refl
    same_items (local_stream line name bits size) in_scope table container variable rest agree = refl
    same_items (assign line name at add value) in_scope table container variable rest agree = refl
    same_items (copy line to to_dimensions from from_dimensions) in_scope table container variable rest agree = refl
    same_items (reduce line lambda from to axis identity) in_scope table container variable rest agree = refl
    same_items (tasklet line body) in_scope table container variable rest agree = refl
    same_items (for_loop line name begin end step body) in_scope table container variable rest agree = refl
    same_items (while_loop line when body) in_scope table container variable rest agree = refl
    same_items (branch line when body other) in_scope table container variable rest agree = refl
    same_items (input line connector memlet) in_scope table container variable rest agree = refl
    same_items (output line connector memlet) in_scope table container variable rest agree = refl
    same_items (set line name value) in_scope table container variable rest agree = refl
    same_items (set_at line name at value) in_scope table container variable rest agree = refl
    same_items (tasklet_branch line when body other) in_scope table container variable rest agree = refl

    same_body : (body : Block) (table : Table) (container variable : ℕ) → Agree (called_in body) →
        items_of_body first body table container variable ≡ items_of_body second body table container variable
    same_body no_statement table container variable agree = refl
    same_body (and_statement statement rest) table container variable agree =
        ap (items_with first statement true table container variable)
        (same_body rest (table_behind statement container table) (container + containers_in statement) (variable + variables_in statement)
        (agree_behind (called_by statement) (called_in rest) agree))
        ∙ same_items statement true table container variable
        (items_of_body second rest (table_behind statement container table) (container + containers_in statement) (variable + variables_in statement))
        (agree_before (called_by statement) (called_in rest) agree)

  -- the state that a statement of one item makes
  same_state : (statement : StatementTree) (at : Standing) (items : ItemTrees) (rest others : ItemTrees → List PlainState) → Agree (called_by statement) → ((made : ItemTrees) → rest made ≡ others made) →
      (items, plainly at.state ∷ []) ∷ rest (items_with first statement false at.table at.container at.variable no_item)
      ≡ (items, plainly at.state ∷ []) ∷ others (items_with second statement false at.table at.container at.variable no_item)
  same_state statement at items rest others agree follows =
      one_state (items, plainly at.state ∷ []) (items_with first statement false at.table at.container at.variable no_item)
      (items_with second statement false at.table at.container at.variable no_item) rest others
      (same_items statement false at.table at.container at.variable no_item agree) follows

  mutual
    same_chain : (statement : StatementTree) (at : Standing) (items : ItemTrees) (rest others : ItemTrees → List PlainState) → Agree (called_by statement) → ((made : ItemTrees) → rest made ≡ others made) →
        chained first statement at items rest ≡ chained second statement at items others
    same_chain (argument_array line name bits extents) at items rest others agree follows = follows items
    same_chain (local_array line name extents bits) at items rest others agree follows = follows items
    same_chain (local_stream line name bits size) at items rest others agree follows = follows items
    same_chain (branch line when body other) at items rest others agree follows =
        ap (λ (states : List PlainState). (items, if_holds (guard_of at.table line when) at.state ∷ plainly (at.state + 1 + states_in_all body) ∷ []) ∷ states)
        (same_other other (behind_all body (state_behind at)) (λ join. chained_all first body (state_behind at) no_item (plainly join ∷ []))
        (λ join. chained_all second body (state_behind at) no_item (plainly join ∷ [])) rest others
        (agree_behind (called_in body) (called_in other) agree)
        (λ join. same_chains body (state_behind at) no_item (plainly join ∷ []) (agree_before (called_in body) (called_in other) agree)) follows)
    same_chain (while_loop line when body) at items rest others agree follows =
        ap
        (λ (states : List PlainState).
        (items, plainly at.state ∷ []) ∷
        (no_item, if_holds (guard_of at.table line when) (at.state + 1) ∷ plainly (at.state + 1 + 1 + states_in_all body) ∷ []) ∷ states)
        (with_rest (chained_all first body (state_behind (state_behind at)) no_item (back_to at.state [] ∷ []))
        (chained_all second body (state_behind (state_behind at)) no_item (back_to at.state [] ∷ [])) rest others
        (same_chains body (state_behind (state_behind at)) no_item (back_to at.state [] ∷ []) agree) follows)
    same_chain (for_loop line name begin end step body) at items rest others agree follows =
        let inside : Standing = with_loop_variable name (state_behind (state_behind at)) in
        let back : List ExitTree = back_to at.state ((at.variable, stepped_on at.variable step) ∷ []) ∷ [] in
        ap
        (λ (states : List PlainState).
        (items, setting at.state at.variable (affine_or affine_zero at.table.variables begin) ∷ []) ∷
        (no_item, if_holds (below inside.table line name end) (at.state + 1) ∷ plainly (at.state + 1 + 1 + states_in_all body) ∷ []) ∷ states)
        (with_rest (chained_all first body inside no_item back) (chained_all second body inside no_item back) rest others
        (same_chains body inside no_item back agree) follows)
    same_chain (assign line name place add value) at items rest others agree follows = same_state (assign line name place add value) at items rest others agree follows
    same_chain (copy line to to_dimensions from from_dimensions) at items rest others agree follows = same_state (copy line to to_dimensions from from_dimensions) at items rest others agree follows
    same_chain (reduce line lambda from to axis identity) at items rest others agree follows = same_state (reduce line lambda from to axis identity) at items rest others agree follows
    same_chain (map_scope line parameters ranges body) at items rest others agree follows = same_state (map_scope line parameters ranges body) at items rest others agree follows
    same_chain (tasklet line body) at items rest others agree follows = same_state (tasklet line body) at items rest others agree follows
    same_chain (consume_scope line stream size name element worker body) at items rest others agree follows =
        same_state (consume_scope line stream size name element worker body) at items rest others agree follows
    same_chain (call line name arguments) at items rest others agree follows = same_state (call line name arguments) at items rest others agree follows
    same_chain (input line connector memlet) at items rest others agree follows = same_state (input line connector memlet) at items rest others agree follows
    same_chain (output line connector memlet) at items rest others agree follows = same_state (output line connector memlet) at items rest others agree follows
    same_chain (set line name value) at items rest others agree follows = same_state (set line name value) at items rest others agree follows
    same_chain (set_at line name place value) at items rest others agree follows = same_state (set_at line name place value) at items rest others agree follows
    same_chain (tasklet_branch line when body other) at items rest others agree follows = same_state (tasklet_branch line when body other) at items rest others agree follows

    pub same_chains : (body : Block) (at : Standing) (items : ItemTrees) (exits : List ExitTree) → Agree (called_in body) →
        chained_all first body at items exits ≡ chained_all second body at items exits
    same_chains no_statement at items exits agree = refl
    same_chains (and_statement statement rest) at items exits agree =
        same_chain statement at items (λ made. chained_all first rest (behind statement at) made exits) (λ made. chained_all second rest (behind statement at) made exits)
        (agree_before (called_by statement) (called_in rest) agree)
        (λ made. same_chains rest (behind statement at) made exits (agree_behind (called_by statement) (called_in rest) agree))

    same_other : (other : Block) (at : Standing) (begun others_begun : ℕ → List PlainState) (rest others : ItemTrees → List PlainState) → Agree (called_in other) →
        ((join : ℕ) → begun join ≡ others_begun join) → ((made : ItemTrees) → rest made ≡ others made) →
        chained_other first other at begun rest ≡ chained_other second other at others_begun others
    same_other no_statement at begun others_begun rest others agree begins follows =
        with_rest (begun at.state) (others_begun at.state) rest others (begins at.state) follows
    same_other (and_statement statement rest_of) at begun others_begun rest others agree begins follows =
        let join : ℕ = at.state + 1 + (states_in statement + states_in_all rest_of) in
        let made : List PlainState = chained first statement (state_behind at) no_item (λ items. chained_all first rest_of (behind statement (state_behind at)) items (plainly join ∷ [])) in
        let made_too : List PlainState = chained second statement (state_behind at) no_item (λ items. chained_all second rest_of (behind statement (state_behind at)) items (plainly join ∷ [])) in
        let same : made ≡ made_too =
        same_chain statement (state_behind at) no_item (λ items. chained_all first rest_of (behind statement (state_behind at)) items (plainly join ∷ []))
        (λ items. chained_all second rest_of (behind statement (state_behind at)) items (plainly join ∷ []))
        (agree_before (called_by statement) (called_in rest_of) agree)
        (λ items. same_chains rest_of (behind statement (state_behind at)) items (plainly join ∷ []) (agree_behind (called_by statement) (called_in rest_of) agree)) in
        ap (λ (states : List PlainState). states ++ (made ++ rest no_item)) (begins join)
        ∙ ap (λ (states : List PlainState). others_begun join ++ (states ++ rest no_item)) same
        ∙ ap (λ (states : List PlainState). others_begun join ++ (made_too ++ states)) (follows no_item)

  -- the graph of a program
  pub same_graph : (symbols : List Name) (function : FunctionTree) → Agree (called_in function.body) → function_graph symbols first function ≡ function_graph symbols second function
  same_graph symbols function agree =
      ap
      (λ (states : List PlainState).
      graph function.name (containers_of_function symbols function) (containers_in_all function.arguments) (variable_names_all function.body symbols) (length symbols) (states_listed states))
      (same_chains function.body (start_of symbols function) no_item [] agree)
