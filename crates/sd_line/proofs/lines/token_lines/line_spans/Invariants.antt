use Rattle.std.proofs.Common.{◌≡◌, ◌≤◌, ◌+◌, ◌++◌, drop, length, map}
use Rattle.sd_phrase.specs.Words.{piece_of}
use Rattle.sd_line.specs.lines.SourceLines.{lines_of}
use Rattle.sd_line.specs.lines.TokenLines as lines
use Rattle.sd_line.specs.lines.TokenPlaces.{token_line}
use Rattle.sd_line.proofs.lines.token_lines.line_spans.Given as goal

-- the lines so far, and those of the tokens that are left
abbrev pub invariant-loop-left : goal.invariant-loop-left
invariant-loop-left l = record {
  place : drop l.at l.tokens ≡ l.left;
  all : l.at + length l.left ≡ length l.tokens;
  same : lines_of l.text (map (piece_of l.text) l.tokens) l.lines.items ++ map (lines.line_of_tokens l.text) (lines.lines_from (token_line l.tokens l.line l.at) l.left) ≡ lines.lines_of_tokens l.text l.tokens;
  order : l.line.from ≤ l.at;
  few : l.line.closes ≤ l.at;
}

abbrev pub decreases-loop-left : goal.decreases-loop-left
decreases-loop-left l = length l.left
