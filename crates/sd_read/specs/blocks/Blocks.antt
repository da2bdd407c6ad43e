-- Statements with blocks that are not empty, and loops whose ends name other variables.
use Rattle.std.specs.Prelude.{◌≡◌, false, bytes_eq, ⊤}
use Rattle.sd_lex.specs.PlainTree.{Expression, number, named, element_at, one, two, choice, StatementTree, map_scope, tasklet, consume_scope, for_loop, while_loop, branch, tasklet_branch, Block, no_statement, and_statement}
use Rattle.sd_program.specs.Names.{Name}

-- there is a statement
abbrev pub IsWritten : Block → Type 0
IsWritten no_statement = ⊥
IsWritten (and_statement first rest) = ⊤

-- the block of a statement has one; an `else` need not be there
abbrev pub HasBlock : StatementTree → Type 0
HasBlock (map_scope line parameters ranges body) = IsWritten body
HasBlock (tasklet line body) = IsWritten body
HasBlock (consume_scope line from size name element worker body) = IsWritten body
HasBlock (for_loop line name begin end step body) = IsWritten body
HasBlock (while_loop line when body) = IsWritten body
HasBlock (branch line when body other) = IsWritten body
HasBlock (tasklet_branch line when body other) = IsWritten body
HasBlock statement = ⊤

-- each name that stands alone in an expression is another one
abbrev pub NamesOthers : Name → Expression → Type 0
NamesOthers name (number value) = ⊤
NamesOthers name (named other) = bytes_eq other name ≡ false
NamesOthers name (element_at array at) = ⊤
NamesOthers name (one sign of) = NamesOthers name of
NamesOthers name (two sign left right) = NamesOthers name left × NamesOthers name right
NamesOthers name (choice value when other) = NamesOthers name value × (NamesOthers name when × NamesOthers name other)

-- the end of a loop does not name the loop's variable
abbrev pub HasOtherEnd : StatementTree → Type 0
HasOtherEnd (for_loop line name begin end step body) = NamesOthers name end
HasOtherEnd statement = ⊤
