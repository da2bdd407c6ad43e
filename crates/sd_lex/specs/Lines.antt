-- The physical lines of a text.
use Rattle.std.specs.Prelude.{ℕ, ◌+◌, ◌-◌, nat_eq, List, [], ◌∷◌, length, take, if◌then◌else◌}
use Rattle.std.specs.List.{slice_split, ends_with}
use Rattle.sd_lex.specs.Bytes.{is_newline}
use Rattle.sd_lex.specs.Line.{PhysicalLine, physical_line}

-- bytes without the carriage return at their end
abbrev pub less_return : List ℕ → List ℕ
less_return bytes = if ends_with nat_eq bytes (13 ∷ []) then take (length bytes - 1) bytes else bytes

-- parts of a text between newlines as lines, the first with this number and at this place; only a newline takes a carriage return with it
abbrev pub numbered : (number from : ℕ) → List (List ℕ) → List PhysicalLine
numbered number from [] = []
numbered number from (part ∷ []) = physical_line number from part ∷ []
numbered number from (part ∷ next ∷ parts) = physical_line number from (less_return part) ∷ numbered (number + 1) (from + length part + 1) (next ∷ parts)

-- the parts between newlines; behind a last newline stands an empty one
abbrev pub physical_lines : List ℕ → List PhysicalLine
physical_lines text = numbered 1 0 (slice_split is_newline text)
