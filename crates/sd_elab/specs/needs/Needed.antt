-- The programs that a block needs: those that it calls, and those that one of these needs.
use Rattle.std.specs.Prelude.{List, [], ◌∷◌, ◌++◌, if◌then◌else◌}
use Rattle.sd_lex.specs.PlainTree.{StatementTree, map_scope, consume_scope, call, for_loop, while_loop, branch, Block, no_statement, and_statement, FunctionTree}
use Rattle.sd_source.specs.nodes.Items.{Name}
use Rattle.sd_source.specs.nodes.Names.{is_among, noted}

-- the names of the programs that a statement calls, in the blocks below it too
abbrev mutual
  pub called_by : StatementTree → List Name
  called_by (call line name arguments) = name ∷ []
  called_by (map_scope line parameters ranges body) = called_in body
  called_by (consume_scope line stream size name element worker body) = called_in body
  called_by (for_loop line name begin end step body) = called_in body
  called_by (while_loop line when body) = called_in body
  called_by (branch line when body other) = called_in body ++ called_in other
  called_by statement = []

  pub called_in : Block → List Name
  called_in no_statement = []
  called_in (and_statement first rest) = called_by first ++ called_in rest

-- of programs, the latest first, those with one of these names, and those that they call in turn
abbrev pub needed_from : (names : List Name) → List FunctionTree → List FunctionTree
needed_from names [] = []
needed_from names (function ∷ before) =
    if is_among names function.name then function ∷ needed_from (noted names (called_in function.body)) before else needed_from names before
