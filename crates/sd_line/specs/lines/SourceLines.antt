-- The code's lines as those of the definition.
use Rattle.std.specs.Prelude.{ℕ, List, map, slice_range}
use Rattle.sd_phrase.specs.declared.word.Piece.{Piece}
use Rattle.sd_line.specs.declared.lines.lines.LineSpan.{LineSpan}
use Rattle.sd_line.specs.lines.Lines.{Line}
use Rattle.sd_line.specs.lines.TokenLines.{line_with}

-- the bytes of a text and its words
abbrev pub Source : Type 0
Source = List ℕ × List Piece

-- the line whose words are those from one place up to another
abbrev pub line_of : List ℕ → List Piece → LineSpan → Line
line_of text words span = line_with text span.number span.opens span.closes span.connects (slice_range words span.from span.to)

abbrev pub lines_of : List ℕ → List Piece → List LineSpan → List Line
lines_of text words = map (line_of text words)
