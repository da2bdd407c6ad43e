use Rattle.std.proofs.Common.{◌≡◌, length, map, reverse}
use Rattle.sd_context.specs.context.ContextFold.{open_block_of}
use Rattle.sd_source.specs.source.LineReading as reading
use Rattle.sd_source.proofs.source.line_reading.kind_about.Given as goal

-- the blocks that are left decide
abbrev pub invariant-loop-last : goal.invariant-loop-last
invariant-loop-last l = reading.kind_in (reverse (map open_block_of l.left)) l.more ≡ reading.kind_in (reverse (map open_block_of l.outer)) l.count

abbrev pub decreases-loop-last : goal.decreases-loop-last
decreases-loop-last l = length l.left
