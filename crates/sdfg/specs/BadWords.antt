-- What the program does with words that are not text.
use Rattle.std.specs.Prelude.{◌≡◌, ◌⊎◌, ℕ, List, [], ◌∷◌, ◌++◌, codes}
use Rattle.sd_io.specs.Count.{HasRisen}
use Rattle.sd_tool.specs.Ends.{SinkUse, Writes, WritesPrefix}

-- `bad words`, ended by a newline
abbrev pub bad_words_line : List ℕ
bad_words_line = codes "bad words" ++ 10 ∷ []

-- the line is written and the status is 2; or a prefix of it, where the sink failed, and the status is 10; or nothing, for want of memory, and the status is 1
abbrev pub RefusesWords : SinkUse → ℕ → Type 0
RefusesWords sink status =
    ((status ≡ 2) × Writes sink bad_words_line)
    ⊎ ((status ≡ 10) × HasRisen sink.faults_before sink.faults_after × WritesPrefix sink bad_words_line)
    ⊎ ((status ≡ 1) × Writes sink [])
