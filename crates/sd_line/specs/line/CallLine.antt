-- A call `f(X, Y[d])`.
use Rattle.std.specs.Prelude.{ℕ, List, map}
use Rattle.sd_lex.specs.PlainTree.{Dimension, call}
use Rattle.sd_phrase.specs.Parts.{parts_of}
use Rattle.sd_phrase.specs.Phrase.{name_first}
use Rattle.sd_phrase.specs.Readings.{reading_map, if_some, listed}
use Rattle.sd_phrase.specs.SubsetReading.{subset}
use Rattle.sd_phrase.specs.declared.reading.Reading.{Reading}
use Rattle.sd_phrase.specs.declared.word.Mark.TheVariants.{Comma}
use Rattle.sd_phrase.specs.declared.word.Piece.{Piece}
use Rattle.sd_line.specs.line.Head.{HeadTree, statement_head}

-- one argument of a call: a name and its subset
abbrev pub call_argument : List ℕ → List Piece → Reading (List ℕ × List Dimension)
call_argument text ts = if_some (name_first text ts) (λ found. reading_map (λ dimensions. (found.0, dimensions)) (subset text found.1))

-- `f(X, Y[d])`: what is in the round brackets
abbrev pub call_line : List ℕ → (line : ℕ) → (name : List ℕ) → List Piece → Reading HeadTree
call_line text line name inside = reading_map (λ arguments. statement_head (call line name arguments)) (listed (map (call_argument text) (parts_of Comma inside)))
