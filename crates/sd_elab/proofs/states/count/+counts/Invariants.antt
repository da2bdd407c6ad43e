use Rattle.std.proofs.Common.{◌≡◌, ◌+◌, drop}
use Rattle.sd_lex.specs.TreeFold.{block_of}
use Rattle.sd_program.specs.Declared.{states_in_all}
use Rattle.sd_elab.proofs.states.count.+counts.Given as goal

abbrev pub invariant-states_in_all-loop-statement : goal.invariant-states_in_all-loop-statement
invariant-states_in_all-loop-statement l = l.all + states_in_all (block_of (drop l.statement-index l.body)) ≡ states_in_all (block_of l.body)
