use Rattle.std.proofs.Common.{◌↔◌, drop}
use Rattle.sd_cut.specs.Streams.{AreStreamsAsCut}
use Rattle.sd_cut.proofs.streams.are_streams_as_cut.Given as goal

-- all are as they were where those left are
abbrev pub invariant-loop-container : goal.invariant-loop-container
invariant-loop-container l = AreStreamsAsCut l.memory l.container (drop l.container l.streams) ↔ AreStreamsAsCut l.memory 0 l.streams
