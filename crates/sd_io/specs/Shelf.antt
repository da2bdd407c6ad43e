-- What a shelf tells of a file: its content, or nothing.
use Rattle.std.specs.Prelude.{◌≡◌, ℕ, ◌<◌, List, length, Option, Some, None, ⊤}

-- where a content is told, these bytes are it
abbrev pub IsTold : Option (List ℕ) → List ℕ → Type 0
IsTold None bytes = ⊤
IsTold (Some content) bytes = bytes ≡ content

-- where a content is told, it has more than this many bytes
abbrev pub IsToldLonger : Option (List ℕ) → ℕ → Type 0
IsToldLonger None most = ⊤
IsToldLonger (Some content) most = most < length content
