use Rattle.std.proofs.Common.{◌≡◌, drop}
use Rattle.sd_lex.specs.TreeFold.{block_of}
use Rattle.sd_source.specs.nodes.SourceNodes.{with_all_declared}
use Rattle.sd_source.proofs.nodes.declarations.+declared.Given as goal

-- what is noted so far with what is left
abbrev pub invariant-note_all_declared-loop-statement : goal.invariant-note_all_declared-loop-statement
invariant-note_all_declared-loop-statement l = with_all_declared l.names (block_of (drop l.statement-index l.body)) ≡ with_all_declared l.initial.names (block_of l.body)
