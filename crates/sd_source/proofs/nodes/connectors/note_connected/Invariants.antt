use Rattle.std.proofs.Common.{◌≡◌, drop}
use Rattle.sd_lex.specs.TreeFold.{block_of}
use Rattle.sd_source.specs.nodes.Names.{noted_own}
use Rattle.sd_source.specs.nodes.SourceItems.{connected}
use Rattle.sd_source.proofs.nodes.connectors.note_connected.Given as goal

-- what is noted so far with what is left
abbrev pub invariant-loop-statement : goal.invariant-loop-statement
invariant-loop-statement l = noted_own l.own l.names (connected l.access (block_of (drop l.statement-index l.body))) ≡ noted_own l.own l.initial.names (connected l.access (block_of l.body))
