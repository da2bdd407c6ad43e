-- The span of a word lies in the text, and its bytes are ASCII.
use Rattle.std.specs.Prelude.{ℕ, ◌≤◌, List, length, slice_range}
use Rattle.std.specs.List.{All}
use Rattle.std.specs.Str.{IsAscii}
use Rattle.sd_phrase.specs.declared.word.Piece.{Piece}

-- a word lies in the text, and its bytes are ASCII
abbrev pub IsInside : List ℕ → Piece → Type 0
IsInside text piece = (piece.from ≤ piece.to) × (piece.to ≤ length text) × IsAscii (slice_range text piece.from piece.to)

-- each of the words lies in the text
abbrev pub AreInside : List ℕ → List Piece → Type 0
AreInside text pieces = All (IsInside text) pieces
