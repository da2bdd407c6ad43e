use Rattle.std.proofs.Common.{◌≡◌, ◌+◌, drop}
use Rattle.sd_lex.specs.TreeFold.{block_of}
use Rattle.sd_elab.specs.items.Counts.{variables_in_all}
use Rattle.sd_elab.proofs.items.count.+variables.Given as goal

abbrev pub invariant-count_variables-loop-statement : goal.invariant-count_variables-loop-statement
invariant-count_variables-loop-statement l = l.all + variables_in_all (block_of (drop l.statement-index l.body)) ≡ variables_in_all (block_of l.body)
