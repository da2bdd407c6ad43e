-- Programs whose tasklets name connectors that are there, and whose elements have names without `$`.
use Rattle.std.specs.Prelude.{◌≡◌, nat_eq, false, ⊤}
use Rattle.std.specs.List.{list_any}
use Rattle.sd_lex.specs.PlainTree.{StatementTree, consume_scope, ProgramTree}
use Rattle.sd_program.specs.Every.{Everywhere}
use Rattle.sd_tie.specs.items.Standing.{IsJoined}

-- the name of a consume scope's element has no `$`, with which names are made new
abbrev pub HasPlainElement : StatementTree → Type 0
HasPlainElement (consume_scope line from size name element worker body) = list_any (nat_eq 36) element ≡ false
HasPlainElement statement = ⊤

pub record IsJoinedWhole (program : ProgramTree) : Type 0 where
  pub joined : Everywhere IsJoined program
  pub plain : Everywhere HasPlainElement program
