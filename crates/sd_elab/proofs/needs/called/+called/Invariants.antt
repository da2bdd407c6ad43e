use Rattle.std.proofs.Common.{◌≡◌, drop, map, string_bytes}
use Rattle.sd_lex.specs.TreeFold.{block_of}
use Rattle.sd_source.specs.nodes.Names.{noted}
use Rattle.sd_elab.specs.needs.Needed.{called_in}
use Rattle.sd_elab.proofs.needs.called.+called.Given as goal

-- from here on the same as from the begin
abbrev pub invariant-note_called-loop-statement : goal.invariant-note_called-loop-statement
invariant-note_called-loop-statement l =
    noted (map string_bytes l.names.keys) (called_in (block_of (drop l.statement-index l.body))) ≡ noted (map string_bytes l.initial.names.keys) (called_in (block_of l.body))
