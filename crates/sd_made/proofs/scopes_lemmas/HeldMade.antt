-- The containers that the scopes of a program make their own are its private ones, each once.
use Rattle.std.proofs.Common.{◌≡◌, ◌∙◌, ℕ, ◌+◌, List, [], ◌∷◌, length, Bool, true, false, cond, nat_eq, refl, sym, arith, zero-add, add-zero}
use Rattle.sd_lex.specs.PlainTree.{StatementTree, argument_array, local_array, local_stream, assign, copy, reduce, map_scope, tasklet, consume_scope, call, for_loop, while_loop, branch, Block, no_statement, and_statement, FunctionTree}
use Rattle.sd_lex.specs.StatementKind.{has_connector}
use Rattle.sd_range.specs.declared.affine.Affine.{Affine}
use Rattle.sd_graph.specs.PlainTree as plain
use Rattle.sd_graph.specs.PlainTree.{KindTree, ItemTrees, GraphTree, ExitTree}
use Rattle.sd_program.specs.Names.{Name}
use Rattle.sd_program.specs.Declared.{containers_in}
use Rattle.sd_program.specs.Place.{EveryOfFunction}
use Rattle.sd_program.specs.Known.{IsPlaced}
use Rattle.sd_task.specs.in_force.Ranges.{parameters_of}
use Rattle.sd_task.specs.task.Table.{Table, with_container, with_variables, container_number}
use Rattle.sd_task.specs.tasklets.Item.{task_with, inputs_of, outputs_of}
use Rattle.sd_elab.specs.items.Counts.{variables_in}
use Rattle.sd_elab.specs.items.NamesBehind.{own_before, own_of, table_behind}
use Rattle.sd_elab.specs.items.Items.{taken_link, items_with, items_of_body}
use Rattle.sd_elab.specs.states.Standing.{Standing, behind, behind_all, state_behind, with_loop_variable}
use Rattle.sd_elab.specs.elab.Elaboration.{start_of, function_graph}
use Rattle.sd_validity.specs.rules.NamesInForce.{held_at}
use Rattle.sd_graph.specs.TreeParts.{containers_of}
use Rattle.sd_validity.specs.things.Things.{item_things, graph_things}
use Rattle.sd_validity.proofs.things_lemmas.Times.{one_if, times}
use Rattle.sd_made.proofs.scopes_lemmas.Counted.{counted, element_counted, item_counted}
use Rattle.sd_made.proofs.scopes_lemmas.Privates.{private_at, nested, within, privates, all_privates, function_private}
use Rattle.sd_made.proofs.scopes_lemmas.StatesCounted.{set_weight, exits_weight, made, made_all, made_other, all_counted}

-- a container that is declared first
own_first : (number : ℕ) (first : StatementTree) (next : ℕ) (rest : List ℕ) → times number (own_before first next rest) ≡ times number (own_before first next []) + times number rest
own_first number (local_array line name extents bits) next rest = omega arith
own_first number (local_stream line name bits size) next rest = omega arith
own_first number statement next rest = sym (zero-add (times number rest))

module _ (graphs : Name → GraphTree) (number : ℕ) where
  abbrev held : ItemTrees → ℕ
  held items = counted held_at number (item_things items)

  consumed_held : (is_task : Bool) (line container : ℕ) (own : List ℕ) (taking : KindTree) (body : ItemTrees) (of_body : ℕ) → held (plain.and_item line taking plain.no_item) ≡ 0 → times number own + held body ≡ of_body →
      times number (container ∷ own) + held (cond is_task (plain.and_item line taking plain.no_item) body) ≡ one_if (nat_eq number container) + cond is_task (times number own) of_body
  consumed_held true line container own taking body of_body none is = omega (arith, none)
  consumed_held false line container own taking body of_body none is = omega (arith, is)

  mutual
    items_held : (statement : StatementTree) (in_scope : Bool) (table : Table) (container variable : ℕ) (rest : ItemTrees) →
        held (items_with graphs statement in_scope table container variable rest) ≡ nested number statement container + held rest
    items_held (assign line name at add value) in_scope table container variable rest =
        element_counted held_at number line table in_scope name at add value rest (λ code ins outs. refl) ∙ sym (zero-add (held rest))
    items_held (copy line to to_dimensions from from_dimensions) in_scope table container variable rest = omega arith
    items_held (reduce line lambda from to axis identity) in_scope table container variable rest = omega arith
    items_held (map_scope line parameters ranges body) in_scope table container variable rest =
        let inside : ItemTrees = items_of_body graphs body (with_variables parameters variable table) container (variable + length parameters) in
        let split = item_counted held_at number line (plain.map_scope false (parameters_of table.variables ranges variable) (own_of body container) inside) rest in
        omega (arith, split, body_held body (with_variables parameters variable table) container (variable + length parameters))
    items_held (tasklet line body) in_scope table container variable rest = omega arith
    items_held (consume_scope line stream size name element worker body) in_scope table container variable rest =
        let own : List ℕ = own_of body (container + 1) in
        let task : KindTree = task_with table (taken_link element container ∷ inputs_of table body) (outputs_of table body) body in
        let inside : ItemTrees = items_of_body graphs body (with_container element container table) (container + 1) variable in
        let items : ItemTrees = cond (has_connector body) (plain.and_item line task plain.no_item) inside in
        let split = item_counted held_at number line (plain.consume_scope (container_number table stream) container own items) rest in
        let of_body = body_held body (with_container element container table) (container + 1) variable in
        let consumed = consumed_held (has_connector body) line container own task inside (within number body (container + 1)) refl of_body in
        omega (arith, split, consumed)
    items_held (call line name arguments) in_scope table container variable rest = omega arith
    items_held statement in_scope table container variable rest = sym (zero-add (held rest))

    body_held : (body : Block) (table : Table) (container variable : ℕ) → times number (own_of body container) + held (items_of_body graphs body table container variable) ≡ within number body container
    body_held no_statement table container variable = refl
    body_held (and_statement first rest) table container variable =
        let others : ItemTrees = items_of_body graphs rest (table_behind first container table) (container + containers_in first) (variable + variables_in first) in
        let of_rest = body_held rest (table_behind first container table) (container + containers_in first) (variable + variables_in first) in
        omega (arith, own_first number first container (own_of rest (container + containers_in first)), items_held first true table container variable others, of_rest)

  -- what is made in the states of a block
  abbrev Weight : ℕ → ℕ
  Weight variable = 0

  mutual
    statement_held : (statement : StatementTree) (at : Standing) → made graphs held_at number Weight statement at ≡ privates number statement at.container
    statement_held (argument_array line name bits extents) at = refl
    statement_held (local_array line name extents bits) at = refl
    statement_held (local_stream line name bits size) at = refl
    statement_held (branch line when body other) at = omega (arith, block_held body (state_behind at), other_held other (behind_all body (state_behind at)))
    statement_held (while_loop line when body) at = block_held body (state_behind (state_behind at))
    statement_held (for_loop line name begin end step body) at = omega (arith, block_held body (with_loop_variable name (state_behind (state_behind at))))
    statement_held statement at = items_held statement false at.table at.container at.variable plain.no_item ∙ add-zero (nested number statement at.container)

    block_held : (block : Block) (at : Standing) → made_all graphs held_at number Weight block at ≡ all_privates number block at.container
    block_held no_statement at = refl
    block_held (and_statement first rest) at = omega (arith, statement_held first at, block_held rest (behind first at))

    other_held : (other : Block) (at : Standing) → made_other graphs held_at number Weight other at ≡ all_privates number other at.container
    other_held no_statement at = refl
    other_held (and_statement statement others) at = omega (arith, statement_held statement (state_behind at), block_held others (behind statement (state_behind at)))

-- transitions make none their own
no_weight : (number : ℕ) (exits : List ExitTree) → 0 ≡ exits_weight (λ variable. 0) exits
no_weight number [] = refl
no_weight number (exit ∷ exits) = omega (arith, no_set number exit.set, no_weight number exits)
  where
    no_set : (number : ℕ) (set : List (ℕ × Affine)) → 0 ≡ set_weight (λ variable. 0) set
    no_set number [] = refl
    no_set number (assignment ∷ set) = omega (arith, no_set number set)

-- a number is made a scope's own as often as it is that of a private container
abbrev pub IsHeldOnce : GraphTree → Type 0
IsHeldOnce tree = (number : ℕ) → counted held_at number (graph_things tree) ≡ private_at (containers_of tree) number

pub function_held : (symbols : List Name) (graphs : Name → GraphTree) (above : List FunctionTree) (function : FunctionTree) → EveryOfFunction IsPlaced above function → IsHeldOnce (function_graph symbols graphs function)
function_held symbols graphs above function placed number =
    let start : Standing = start_of symbols function in
    let states = all_counted graphs held_at number (λ variable. 0) (λ items exits. no_weight number exits) function.body start plain.no_item [] in
    omega (arith, states, block_held graphs number function.body start, function_private number symbols above function placed)
