use Rattle.std.proofs.Common.{◌≡◌, length}
use Rattle.sd_context.specs.context.ContextFold.{context_of}
use Rattle.sd_source.specs.source.Prefix.{context_before_refusal, count_before_refusal}
use Rattle.sd_line.specs.lines.SourceLines.{lines_of}
use Rattle.sd_source.proofs.source.prefix.read_before_refusal.Given as goal

-- the lines that are left, from the context so far: so many of them stand before the first that is refused
abbrev pub invariant-loop-left : goal.invariant-loop-left
invariant-loop-left l = record {
  same : context_before_refusal (context_of l.context) (lines_of l.text l.words l.left) ≡ context_before_refusal (context_of l.initial.context) (lines_of l.text l.words l.lines);
  before : l.more ≡ count_before_refusal (context_of l.context) (lines_of l.text l.words l.left);
}

abbrev pub decreases-loop-left : goal.decreases-loop-left
decreases-loop-left l = length l.left
