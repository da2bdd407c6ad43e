use Rattle.std.proofs.Common.{◌≡◌, ◌+◌, drop}
use Rattle.sd_lex.specs.TreeFold.{block_of}
use Rattle.sd_program.specs.Declared.{containers_in_all}
use Rattle.sd_elab.proofs.items.count.+containers.Given as goal

abbrev pub invariant-count_containers-loop-statement : goal.invariant-count_containers-loop-statement
invariant-count_containers-loop-statement l = l.all + containers_in_all (block_of (drop l.statement-index l.body)) ≡ containers_in_all (block_of l.body)
