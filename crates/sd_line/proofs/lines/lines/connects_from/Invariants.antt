use Rattle.std.proofs.Common.{◌≡◌, ◌≤◌, drop}
use Rattle.sd_line.specs.lines.Lines as lines
use Rattle.sd_line.specs.lines.SourceLines.{Source, lines_of}
use Rattle.sd_line.proofs.lines.lines.connects_from.Given as goal

-- the lines that are left decide; so many blocks are open at most as there were lines
abbrev pub invariant-loop-line : goal.invariant-loop-line
invariant-loop-line l = record {
  same : (source : Source) → lines.connects_from l.inner (lines_of source.0 source.1 (drop l.line-index l.lines)) ≡ lines.connects_from 0 (lines_of source.0 source.1 l.lines);
  few : l.inner ≤ l.line-index;
}
