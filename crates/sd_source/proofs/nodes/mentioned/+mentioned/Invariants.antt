use Rattle.std.proofs.Common.{◌≡◌, drop}
use Rattle.sd_lex.specs.TreeFold.{block_of}
use Rattle.sd_source.specs.nodes.Nodes.{with_all_mentioned}
use Rattle.sd_source.specs.nodes.SourceItems.{items_of}
use Rattle.sd_source.proofs.nodes.mentioned.+mentioned.Given as goal

-- what is noted so far with what is left
abbrev pub invariant-note_all_mentioned-loop-statement : goal.invariant-note_all_mentioned-loop-statement
invariant-note_all_mentioned-loop-statement l = with_all_mentioned l.own l.access l.names (items_of l.functions (block_of (drop l.statement-index l.body))) ≡ with_all_mentioned l.own l.access l.initial.names (items_of l.functions (block_of l.body))
