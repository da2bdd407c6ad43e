use Rattle.std.proofs.Common.{◌≡◌, drop}
use Rattle.sd_lex.specs.StatementKind as kinds
use Rattle.sd_lex.specs.TreeFold.{block_of}
use Rattle.sd_lex.proofs.syntax.statement.has_connector.Given as goal

-- the statements that are left decide
abbrev pub invariant-loop-statement : goal.invariant-loop-statement
invariant-loop-statement l = kinds.has_connector (block_of (drop l.statement-index l.body)) ≡ kinds.has_connector (block_of l.body)
