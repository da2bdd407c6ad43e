-- How a text is cut for the writes of a sink.
use Rattle.std.specs.Prelude.{◌≡◌, ℕ, suc, List, ◌++◌, length, take, ◌==◌, Option}
use Rattle.std.specs.List.{position}
use Rattle.std.specs.Option.{option_map_or}
use Rattle.sd_io.specs.Sink.{Appends}

-- how many bytes the next write takes: a line with its newline, or the first 4,096 bytes of a longer one
abbrev pub piece_length : (text : List ℕ) → ℕ
piece_length text = option_map_or suc (position (λ byte. byte == 10) (take 4096 text)) (length (take 4096 text))

-- a text is appended but for this rest
abbrev pub AppendsAllBut : (before now : Option (List ℕ)) → (text rest : List ℕ) → Type 0
AppendsAllBut before now text rest = (front : List ℕ) × (text ≡ front ++ rest) × Appends before now front
