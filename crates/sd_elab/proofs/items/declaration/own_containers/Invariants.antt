use Rattle.std.proofs.Common.{◌≡◌, ◌++◌, drop}
use Rattle.sd_lex.specs.TreeFold.{block_of}
use Rattle.sd_elab.specs.items.NamesBehind.{own_of}
use Rattle.sd_elab.proofs.items.declaration.own_containers.Given as goal

abbrev pub invariant-loop-statement : goal.invariant-loop-statement
invariant-loop-statement l = l.own.items ++ own_of (block_of (drop l.statement-index l.body)) l.next ≡ own_of (block_of l.body) l.first
