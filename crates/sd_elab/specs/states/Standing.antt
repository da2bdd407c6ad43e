-- Where the elaboration of a program's block stands.
use Rattle.std.specs.Prelude.{ℕ, ◌+◌, [], ◌∷◌}
use Rattle.sd_lex.specs.PlainTree.{StatementTree, Block}
use Rattle.sd_program.specs.Names.{Name}
use Rattle.sd_program.specs.Declared.{states_in, states_in_all}
use Rattle.sd_task.specs.task.Table.{Table, with_variables}
use Rattle.sd_program.specs.Declared.{containers_in, containers_in_all}
use Rattle.sd_elab.specs.items.Counts.{variables_in, variables_in_all}
use Rattle.sd_elab.specs.items.NamesBehind.{table_behind_state, table_behind_all}

-- the numbers of the state, container and variable that come next, and what is in force
pub record Standing : Type 0 where
  pub state : ℕ
  pub container : ℕ
  pub variable : ℕ
  pub table : Table

-- behind a statement
abbrev pub behind : StatementTree → Standing → Standing
behind statement at = record {
  state = at.state + states_in statement;
  container = at.container + containers_in statement;
  variable = at.variable + variables_in statement;
  table = table_behind_state statement at.container at.table;
}

-- behind a block
abbrev pub behind_all : Block → Standing → Standing
behind_all block at = record {
  state = at.state + states_in_all block;
  container = at.container + containers_in_all block;
  variable = at.variable + variables_in_all block;
  table = table_behind_all block at.container at.table;
}

-- one more state
abbrev pub state_behind : Standing → Standing
state_behind at = record { state = at.state + 1; container = at.container; variable = at.variable; table = at.table }

-- one more variable, in force by this name
abbrev pub with_loop_variable : Name → Standing → Standing
with_loop_variable name at =
    record { state = at.state; container = at.container; variable = at.variable + 1; table = with_variables (name ∷ []) at.variable at.table }
