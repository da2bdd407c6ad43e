use Rattle.std.proofs.Common.{◌≡◌, drop}
use Rattle.sd_lex.specs.TreeFold.{block_of}
use Rattle.sd_source.specs.nodes.SourceNodes.{with_all_used}
use Rattle.sd_source.proofs.nodes.used.+used.Given as goal

-- what is noted so far with what is left
abbrev pub invariant-note_all_used-loop-statement : goal.invariant-note_all_used-loop-statement
invariant-note_all_used-loop-statement l = with_all_used l.functions l.own l.access l.names (block_of (drop l.statement-index l.body)) ≡ with_all_used l.functions l.own l.access l.initial.names (block_of l.body)
