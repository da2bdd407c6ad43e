use Rattle.std.proofs.Common.{◌≡◌, [], drop}
use Rattle.sd_lex.specs.TreeFold.{block_of}
use Rattle.sd_source.specs.nodes.SourceItems.{with_locals}
use Rattle.sd_source.proofs.nodes.declarations.locals_of.Given as goal

-- what is noted so far with what is left
abbrev pub invariant-loop-statement : goal.invariant-loop-statement
invariant-loop-statement l = with_locals l.names (block_of (drop l.statement-index l.body)) ≡ with_locals [] (block_of l.body)
