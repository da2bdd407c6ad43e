-- What an error of a source has: one of ten numbers, and a line of the text, or the one behind its last.
use Rattle.std.specs.Prelude.{ℕ, ◌+◌, ◌≤◌, List}
use Rattle.sd_lex.specs.Position.{line_count}

abbrev pub IsErrorNumber : ℕ → Type 0
IsErrorNumber number = (1 ≤ number) × (number ≤ 10)

-- lines are counted from 1
abbrev pub IsLineOf : (text : List ℕ) → (line : ℕ) → Type 0
IsLineOf text line = (1 ≤ line) × (line ≤ line_count text + 1)
