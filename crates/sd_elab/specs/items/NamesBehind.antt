-- The containers in force behind a statement, and those of a scope.
use Rattle.std.specs.Prelude.{ℕ, ◌+◌, List, [], ◌∷◌}
use Rattle.sd_lex.specs.PlainTree.{StatementTree, local_array, local_stream, for_loop, while_loop, branch, Block, no_statement, and_statement}
use Rattle.sd_task.specs.task.Table.{Table, with_container}
use Rattle.sd_program.specs.Declared.{containers_in, containers_in_all}

-- before these numbers, that of the container which a statement declares itself
abbrev pub own_before : StatementTree → (next : ℕ) → List ℕ → List ℕ
own_before (local_array line name extents bits) next rest = next ∷ rest
own_before (local_stream line name bits size) next rest = next ∷ rest
own_before statement next rest = rest

-- the numbers of the containers that a scope's block declares itself, where its first container has this one
abbrev pub own_of : Block → (next : ℕ) → List ℕ
own_of no_statement next = []
own_of (and_statement first rest) next = own_before first next (own_of rest (next + containers_in first))

-- behind a statement of a scope: the container that it declares itself has this number
abbrev pub table_behind : StatementTree → (next : ℕ) → Table → Table
table_behind (local_array line name extents bits) next table = with_container name next table
table_behind (local_stream line name bits size) next table = with_container name next table
table_behind statement next table = table

-- behind a statement of a program: what the blocks of loops and branches declare is in force too
abbrev mutual
  pub table_behind_state : StatementTree → (next : ℕ) → Table → Table
  table_behind_state (for_loop line name begin end step body) next table = table_behind_all body next table
  table_behind_state (while_loop line when body) next table = table_behind_all body next table
  table_behind_state (branch line when body other) next table = table_behind_all other (next + containers_in_all body) (table_behind_all body next table)
  table_behind_state statement next table = table_behind statement next table

  pub table_behind_all : Block → (next : ℕ) → Table → Table
  table_behind_all no_statement next table = table
  table_behind_all (and_statement first rest) next table = table_behind_all rest (next + containers_in first) (table_behind_state first next table)
