-- No variable of a program is a parameter twice, or a parameter and a loop variable.
use Rattle.std.proofs.Common.{◌≡◌, ◌∙◌, ℕ, ◌+◌, ◌<◌, ◌≤◌, List, [], ◌∷◌, ◌++◌, map, length, Bool, true, false, cond, nat_eq, refl, ap, sym, arith}
use Rattle.sd_lex.specs.PlainTree.{StatementTree, argument_array, local_array, local_stream, assign, copy, reduce, map_scope, tasklet, consume_scope, call, for_loop, while_loop, branch, Block, no_statement, and_statement, FunctionTree}
use Rattle.sd_lex.specs.StatementKind.{has_connector}
use Rattle.sd_range.specs.declared.affine.Affine.{Affine}
use Rattle.sd_graph.specs.PlainTree as plain
use Rattle.sd_graph.specs.PlainTree.{KindTree, ItemTrees, GraphTree, ExitTree}
use Rattle.sd_program.specs.Names.{Name}
use Rattle.sd_program.specs.Declared.{containers_in}
use Rattle.sd_program.specs.Every.{Every, EveryIn, EveryOf}
use Rattle.sd_program.specs.Limits.{HasFewParameters}
use Rattle.sd_task.specs.in_force.Ranges.{parameters_of}
use Rattle.sd_task.specs.task.Table.{Table, with_container, with_variables, container_number}
use Rattle.sd_task.specs.tasklets.Item.{task_with, inputs_of, outputs_of}
use Rattle.sd_elab.specs.items.Counts.{variables_in, variables_in_all}
use Rattle.sd_elab.specs.items.NamesBehind.{own_of, table_behind}
use Rattle.sd_elab.specs.items.Items.{taken_link, items_with, items_of_body}
use Rattle.sd_elab.specs.states.Standing.{Standing, behind, behind_all, state_behind, with_loop_variable}
use Rattle.sd_elab.specs.elab.Elaboration.{start_of, function_graph}
use Rattle.sd_validity.specs.rules.GraphParts.{symbols_in}
use Rattle.sd_validity.specs.rules.Places.{Thing, leaving, param_numbers}
use Rattle.sd_validity.specs.rules.NamesInForce.{params_at, set_at}
use Rattle.sd_validity.specs.things.Things.{item_things, graph_things}
use Rattle.sd_validity.proofs.things_lemmas.Times.{one_if, times, times_joined}
use Rattle.sd_made.proofs.scopes_lemmas.Counted.{counted, element_counted, item_counted}
use Rattle.sd_made.proofs.scopes_lemmas.StatesCounted.{set_weight, exits_weight, made, made_all, made_other, all_counted}
use Rattle.sd_made.proofs.scopes_lemmas.Spans.{span, span_joined, span_above, span_once, params_spanned}

-- the parameters at a place, each twice, and the variables that are set there, of which each loop sets its own twice
abbrev given_at : Thing → List ℕ
given_at thing = params_at thing ++ (params_at thing ++ set_at thing)

module _ (graphs : Name → GraphTree) (number : ℕ) where
  abbrev given : ItemTrees → ℕ
  given items = counted given_at number (item_things items)

  -- twice so many
  abbrev Two : (first count : ℕ) → ℕ
  Two first count = span number first count + span number first count

  consumed_given : (is_task : Bool) (line : ℕ) (taking : KindTree) (body : ItemTrees) (most : ℕ) → given (plain.and_item line taking plain.no_item) ≡ 0 → given body ≤ most →
      given (cond is_task (plain.and_item line taking plain.no_item) body) ≤ most
  consumed_given true line taking body most none few = omega (arith, none)
  consumed_given false line taking body most none few = few

  -- those of a map and of its body
  params_given : (params : List ℕ) → times number (params ++ (params ++ [])) ≡ times number params + times number params
  params_given params = omega (arith, times_joined number params (params ++ []), times_joined number params [])

  mutual
    items_given : (statement : StatementTree) (in_scope : Bool) (table : Table) (container variable : ℕ) (rest : ItemTrees) → Every HasFewParameters statement →
        given (items_with graphs statement in_scope table container variable rest) ≤ Two variable (variables_in statement) + given rest
    items_given (assign line name at add value) in_scope table container variable rest few =
        omega (arith, element_counted given_at number line table in_scope name at add value rest (λ code ins outs. refl))
    items_given (copy line to to_dimensions from from_dimensions) in_scope table container variable rest few = omega arith
    items_given (reduce line lambda from to axis identity) in_scope table container variable rest few = omega arith
    items_given (map_scope line parameters ranges body) in_scope table container variable rest few =
        let params : List ℕ = param_numbers (parameters_of table.variables ranges variable) in
        let inside : ItemTrees = items_of_body graphs body (with_variables parameters variable table) container (variable + length parameters) in
        let split = item_counted given_at number line (plain.map_scope false (parameters_of table.variables ranges variable) (own_of body container) inside) rest in
        let own : times number params ≡ span number variable (length parameters) = params_spanned number table.variables ranges variable ∙ ap (λ (count : ℕ). span number variable count) (sym few.0.0) in
        omega (
          arith,
          split,
          params_given params,
          own,
          span_joined number variable (length parameters) (variables_in_all body),
          body_given body (with_variables parameters variable table) container (variable + length parameters) few.1,
        )
    items_given (tasklet line body) in_scope table container variable rest few = omega arith
    items_given (consume_scope line stream size name element worker body) in_scope table container variable rest few =
        let task : KindTree = task_with table (taken_link element container ∷ inputs_of table body) (outputs_of table body) body in
        let inside : ItemTrees = items_of_body graphs body (with_container element container table) (container + 1) variable in
        let items : ItemTrees = cond (has_connector body) (plain.and_item line task plain.no_item) inside in
        let split = item_counted given_at number line (plain.consume_scope (container_number table stream) container (own_of body (container + 1)) items) rest in
        let of_body = body_given body (with_container element container table) (container + 1) variable few.1 in
        omega (arith, split, consumed_given (has_connector body) line task inside (Two variable (variables_in_all body)) refl of_body)
    items_given (call line name arguments) in_scope table container variable rest few = omega arith
    items_given statement in_scope table container variable rest few = omega arith

    body_given : (body : Block) (table : Table) (container variable : ℕ) → EveryIn HasFewParameters body → given (items_of_body graphs body table container variable) ≤ Two variable (variables_in_all body)
    body_given no_statement table container variable few = omega arith
    body_given (and_statement first rest) table container variable few =
        let others : ItemTrees = items_of_body graphs rest (table_behind first container table) (container + containers_in first) (variable + variables_in first) in
        let of_rest = body_given rest (table_behind first container table) (container + containers_in first) (variable + variables_in first) few.1 in
        omega (arith, items_given first true table container variable others few.0, of_rest, span_joined number variable (variables_in first) (variables_in_all rest))

  -- what is made in the states of a block; a transition sets a variable once
  abbrev Weight : ℕ → ℕ
  Weight variable = one_if (nat_eq number variable)

  one_span : (first : ℕ) → span number first 1 ≡ one_if (nat_eq number first)
  one_span first = omega arith

  mutual
    statement_given : (statement : StatementTree) (at : Standing) → Every HasFewParameters statement → made graphs given_at number Weight statement at ≤ Two at.variable (variables_in statement)
    statement_given (argument_array line name bits extents) at few = omega arith
    statement_given (local_array line name extents bits) at few = omega arith
    statement_given (local_stream line name bits size) at few = omega arith
    statement_given (branch line when body other) at few =
        omega (arith, block_given body (state_behind at) few.1.0, other_given other (behind_all body (state_behind at)) few.1.1, span_joined number at.variable (variables_in_all body) (variables_in_all other))
    statement_given (while_loop line when body) at few = block_given body (state_behind (state_behind at)) few.1
    statement_given (for_loop line name begin end step body) at few =
        omega (arith, block_given body (with_loop_variable name (state_behind (state_behind at))) few.1, span_joined number at.variable 1 (variables_in_all body), one_span at.variable)
    statement_given statement at few = omega (arith, items_given statement false at.table at.container at.variable plain.no_item few)

    block_given : (block : Block) (at : Standing) → EveryIn HasFewParameters block → made_all graphs given_at number Weight block at ≤ Two at.variable (variables_in_all block)
    block_given no_statement at few = omega arith
    block_given (and_statement first rest) at few =
        omega (arith, statement_given first at few.0, block_given rest (behind first at) few.1, span_joined number at.variable (variables_in first) (variables_in_all rest))

    other_given : (other : Block) (at : Standing) → EveryIn HasFewParameters other → made_other graphs given_at number Weight other at ≤ Two at.variable (variables_in_all other)
    other_given no_statement at few = omega arith
    other_given (and_statement statement others) at few =
        omega (arith, statement_given statement (state_behind at) few.0, block_given others (behind statement (state_behind at)) few.1, span_joined number at.variable (variables_in statement) (variables_in_all others))

module _ (number : ℕ) where
  assigned_weight : (set : List (ℕ × Affine)) → times number (map (λ (assignment : ℕ × Affine). assignment.0) set) ≡ set_weight (λ variable. one_if (nat_eq number variable)) set
  assigned_weight [] = refl
  assigned_weight (assignment ∷ set) = omega (arith, assigned_weight set)

  leaves : (items : ItemTrees) (exits : List ExitTree) → times number (given_at (leaving items exits)) ≡ exits_weight (λ variable. one_if (nat_eq number variable)) exits
  leaves items [] = refl
  leaves items (exit ∷ exits) =
      let joined = times_joined number (map (λ (assignment : ℕ × Affine). assignment.0) exit.set) (set_at (leaving items exits)) in
      omega (arith, joined, assigned_weight exit.set, leaves items exits)

  split_given : (things : List Thing) → counted given_at number things ≡ (counted params_at number things + counted params_at number things) + counted set_at number things
  split_given [] = refl
  split_given (thing ∷ things) = omega (arith, split_given things, times_joined number (params_at thing) (params_at thing ++ set_at thing), times_joined number (params_at thing) (set_at thing))

-- a variable is a parameter once and then no transition sets it, or it is none
abbrev pub IsSingle : GraphTree → Type 0
IsSingle tree =
    (number : ℕ) → (counted params_at number (graph_things tree) + counted params_at number (graph_things tree)) + counted set_at number (graph_things tree) ≤ 2

pub function_single : (symbols : List Name) (graphs : Name → GraphTree) (function : FunctionTree) → EveryOf HasFewParameters function → IsSingle (function_graph symbols graphs function)
function_single symbols graphs function few number =
    let start : Standing = start_of symbols function in
    let states = all_counted graphs given_at number (λ variable. one_if (nat_eq number variable)) (leaves number) function.body start plain.no_item [] in
    let most = block_given graphs number function.body start few.1 in
    omega (arith, states, most, span_once number start.variable (variables_in_all function.body), split_given number (graph_things (function_graph symbols graphs function)))

-- no size symbol is a parameter
abbrev pub HasFreeSymbols : GraphTree → Type 0
HasFreeSymbols tree = (number : ℕ) → number < symbols_in tree → counted params_at number (graph_things tree) ≡ 0

-- the variables of a program's maps stand behind its size symbols
pub function_free : (symbols : List Name) (graphs : Name → GraphTree) (function : FunctionTree) → EveryOf HasFewParameters function → HasFreeSymbols (function_graph symbols graphs function)
function_free symbols graphs function few number below =
    let start : Standing = start_of symbols function in
    let states = all_counted graphs given_at number (λ variable. one_if (nat_eq number variable)) (leaves number) function.body start plain.no_item [] in
    let most = block_given graphs number function.body start few.1 in
    omega (arith, states, most, span_above number start.variable (variables_in_all function.body) below, split_given number (graph_things (function_graph symbols graphs function)))
