use Rattle.std.proofs.Common.{◌≡◌, ◌+◌, length}
use Rattle.sd_context.specs.context.ContextFold.{context_of}
use Rattle.sd_source.specs.source.LinesReading as reading
use Rattle.sd_source.specs.source.Prefix.{count_before_refusal}
use Rattle.sd_line.specs.lines.SourceLines.{lines_of}
use Rattle.sd_source.proofs.source.lines_reading.read_lines.Given as goal

-- the lines that are left, from the context so far; none of those so far is refused
abbrev pub invariant-loop-left : goal.invariant-loop-left
invariant-loop-left l = record {
  same : reading.lines_read (context_of l.context) (lines_of l.text l.words l.left) ≡ reading.lines_read (context_of l.initial.context) (lines_of l.text l.words l.lines);
  before : l.count + count_before_refusal (context_of l.context) (lines_of l.text l.words l.left) ≡ count_before_refusal (context_of l.initial.context) (lines_of l.text l.words l.lines);
  few : l.count + length l.left ≡ length l.lines;
}

abbrev pub decreases-loop-left : goal.decreases-loop-left
decreases-loop-left l = length l.left
