use Rattle.std.proofs.Common.{◌≡◌, drop}
use Rattle.sd_lex.specs.TreeFold.{block_of}
use Rattle.sd_source.specs.nodes.SourceNodes.{with_all_states}
use Rattle.sd_source.proofs.nodes.states.+states.Given as goal

-- the states so far with those of what is left
abbrev pub invariant-add_all_states-loop-statement : goal.invariant-add_all_states-loop-statement
invariant-add_all_states-loop-statement l = with_all_states l.functions l.own l.states.items (block_of (drop l.statement-index l.body)) ≡ with_all_states l.functions l.own l.initial.states.items (block_of l.body)
