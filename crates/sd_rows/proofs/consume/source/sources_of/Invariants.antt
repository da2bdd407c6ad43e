use Rattle.std.proofs.Common.{take}
use Rattle.std.specs.List.{AllZip}
use Rattle.sd_rows.specs.consume.Own.{IsSource}
use Rattle.sd_rows.proofs.consume.source.sources_of.Given as goal

-- the sources so far
abbrev pub invariant-loop-track : goal.invariant-loop-track
invariant-loop-track l = AllZip (IsSource l.element) (take l.track-index l.reads) l.sources.items
