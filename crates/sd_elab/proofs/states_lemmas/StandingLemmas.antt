-- Names in force behind a block: only containers are added.
use Rattle.std.proofs.Common.{◌≡◌, ◌∙◌, ℕ, ◌+◌, ℤ, List, [], ◌∷◌, Option, refl, sym, ap, arith}
use Rattle.sd_graph.specs.declared.container.Container.{Container}
use Rattle.sd_lex.specs.PlainTree.{Expression, StatementTree, argument_array, local_array, local_stream, assign, copy, reduce, map_scope, tasklet, consume_scope, call, for_loop, while_loop, branch, input, output, set, set_at, tasklet_branch, Block, no_statement, and_statement}
use Rattle.sd_program.specs.Names.{Name, Named}
use Rattle.sd_program.specs.Declared.{states_in_all, containers_in, containers_in_all}
use Rattle.sd_elab.specs.items.Counts.{variables_in_all}
use Rattle.sd_elab.specs.items.NamesBehind.{table_behind_state, table_behind_all}
use Rattle.sd_task.specs.in_force.Stack.{without_newest}
use Rattle.sd_task.specs.task.Table.{Table}
use Rattle.sd_elab.specs.states.Standing.{Standing, behind, behind_all, state_behind, with_loop_variable}
use Rattle.sd_elab.specs.states.BuildingOf.{without_loop_variable}
use Rattle.sd_elab.specs.states.Threaded.{in_loop, in_else}

-- ---- tables

abbrev table_with : Named ℕ → Named ℕ → List (Name × Container) → Table
table_with containers variables all = record { containers = containers; variables = variables; all = all }

-- the containers in force behind a statement, and behind a block
abbrev behind_one : StatementTree → ℕ → Named ℕ → Named ℕ
behind_one statement next containers = (table_behind_state statement next (table_with containers [] [])).containers

abbrev behind_block : Block → ℕ → Named ℕ → Named ℕ
behind_block block next containers = (table_behind_all block next (table_with containers [] [])).containers

mutual
  statement_kept : (statement : StatementTree) (next : ℕ) (containers variables : Named ℕ) (all : List (Name × Container)) →
      table_behind_state statement next (table_with containers variables all) ≡ table_with (behind_one statement next containers) variables all
  statement_kept (argument_array line name bits extents) next containers variables all = refl
  statement_kept (local_array line name extents bits) next containers variables all = refl
  statement_kept (local_stream line name bits size) next containers variables all = refl
  statement_kept (assign line name at add value) next containers variables all = refl
  statement_kept (copy line to to_dimensions from from_dimensions) next containers variables all = refl
  statement_kept (reduce line lambda from to axis identity) next containers variables all = refl
  statement_kept (map_scope line parameters ranges body) next containers variables all = refl
  statement_kept (tasklet line body) next containers variables all = refl
  statement_kept (consume_scope line stream size name element worker body) next containers variables all = refl
  statement_kept (call line name arguments) next containers variables all = refl
  statement_kept (for_loop line name begin end step body) next containers variables all = block_kept body next containers variables all
  statement_kept (while_loop line when body) next containers variables all = block_kept body next containers variables all
  statement_kept (branch line when body other) next containers variables all =
      let then : ℕ = next + containers_in_all body in
      ap (table_behind_all other then) (block_kept body next containers variables all)
      ∙ block_kept other then (behind_block body next containers) variables all
      ∙ ap (λ table. table_with (table_behind_all other then table).containers variables all) (sym (block_kept body next containers [] []))
  statement_kept (input line connector memlet) next containers variables all = refl
  statement_kept (output line connector memlet) next containers variables all = refl
  statement_kept (set line name value) next containers variables all = refl
  statement_kept (set_at line name at value) next containers variables all = refl
  statement_kept (tasklet_branch line when body other) next containers variables all = refl

  block_kept : (block : Block) (next : ℕ) (containers variables : Named ℕ) (all : List (Name × Container)) →
      table_behind_all block next (table_with containers variables all) ≡ table_with (behind_block block next containers) variables all
  block_kept no_statement next containers variables all = refl
  block_kept (and_statement first rest) next containers variables all =
      let then : ℕ = next + containers_in first in
      ap (table_behind_all rest then) (statement_kept first next containers variables all)
      ∙ block_kept rest then (behind_one first next containers) variables all
      ∙ ap (λ table. table_with (table_behind_all rest then table).containers variables all) (sym (statement_kept first next containers [] []))

-- the containers of the program stay
pub all_behind_block : (block : Block) (next : ℕ) (table : Table) → (table_behind_all block next table).all ≡ table.all
all_behind_block block next table = ap (λ (behind : Table). behind.all) (block_kept block next table.containers table.variables table.all)

-- ---- where the code stands

pub same_standing : (made wanted : Standing) → made.state ≡ wanted.state → made.container ≡ wanted.container → made.variable ≡ wanted.variable → made.table ≡ wanted.table → made ≡ wanted
same_standing made wanted state container variable table =
    ap (λ n. record { state = n; container = made.container; variable = made.variable; table = made.table }) state
    ∙ ap (λ n. record { state = wanted.state; container = n; variable = made.variable; table = made.table }) container
    ∙ ap (λ n. record { state = wanted.state; container = wanted.container; variable = n; table = made.table }) variable
    ∙ ap (λ n. record { state = wanted.state; container = wanted.container; variable = wanted.variable; table = n }) table

loop_states : (first body : ℕ) → first + 1 + 1 + body + 1 ≡ first + (2 + body + 1)
loop_states first body = omega arith

loop_variables : (first body : ℕ) → first + 1 + body ≡ first + (1 + body)
loop_variables first body = omega arith

pub in_two_blocks : (first body other : ℕ) → first + body + other ≡ first + (body + other)
in_two_blocks first body other = omega arith

states_without_else : (first body : ℕ) → first + 1 + body + 0 + 1 ≡ first + (1 + body + 1)
states_without_else first body = omega arith

states_with_else : (first body other : ℕ) → first + 1 + body + 1 + other + 1 ≡ first + (1 + body + (1 + other + 1))
states_with_else first body other = omega arith

-- behind a `for` loop its variable is no longer in force, and the containers of its block are
for_left : (line : ℕ) (name : Name) (begin : Option Expression) (end : Expression) (step : Option ℤ) (body : Block) (at : Standing) →
    state_behind (without_loop_variable (behind_all body (state_behind (with_loop_variable name (state_behind at))))) ≡ behind (for_loop line name begin end step body) at
for_left line name begin end step body at =
    let variables : Named ℕ = (name, at.variable) ∷ at.table.variables in
    let made : Standing = state_behind (without_loop_variable (behind_all body (state_behind (with_loop_variable name (state_behind at))))) in
    same_standing made (behind (for_loop line name begin end step body) at)
    (loop_states at.state (states_in_all body)) refl (loop_variables at.variable (variables_in_all body))
    (ap (λ (table : Table). table_with table.containers (without_newest table.variables) table.all) (block_kept body at.container at.table.containers variables at.table.all)
    ∙ sym (block_kept body at.container at.table.containers at.table.variables at.table.all))

pub for_behind : (line : ℕ) (name : Name) (begin : Option Expression) (end : Expression) (step : Option ℤ) (body : Block) (at begun left : Standing) →
    begun ≡ in_loop name at → left ≡ state_behind (without_loop_variable (behind_all body begun)) → left ≡ behind (for_loop line name begin end step body) at
for_behind line name begin end step body at begun left begins leaves =
    leaves
    ∙ ap (λ (t : Standing). state_behind (without_loop_variable (behind_all body t))) begins
    ∙ for_left line name begin end step body at

pub while_behind : (line : ℕ) (when : Expression) (body : Block) (at : Standing) →
    state_behind (behind_all body (state_behind (state_behind at))) ≡ behind (while_loop line when body) at
while_behind line when body at =
    same_standing (state_behind (behind_all body (state_behind (state_behind at)))) (behind (while_loop line when body) at)
    (loop_states at.state (states_in_all body)) refl refl refl

pub if_behind : (line : ℕ) (when : Expression) (body other : Block) (at : Standing) →
    state_behind (behind_all other (in_else other (behind_all body (state_behind at)))) ≡ behind (branch line when body other) at
if_behind line when body no_statement at =
    same_standing (state_behind (behind_all no_statement (behind_all body (state_behind at)))) (behind (branch line when body no_statement) at)
    (states_without_else at.state (states_in_all body)) (in_two_blocks at.container (containers_in_all body) 0) (in_two_blocks at.variable (variables_in_all body) 0) refl
if_behind line when body (and_statement first rest) at =
    let other : Block = and_statement first rest in
    same_standing (state_behind (behind_all other (state_behind (behind_all body (state_behind at))))) (behind (branch line when body other) at)
    (states_with_else at.state (states_in_all body) (states_in_all other))
    (in_two_blocks at.container (containers_in_all body) (containers_in_all other))
    (in_two_blocks at.variable (variables_in_all body) (variables_in_all other)) refl
