-- The status after a text was to be written.
use Rattle.std.specs.Prelude.{ℕ, ⊤, Result, Ok, Err}
use Rattle.sd_io.specs.declared.sink.SinkError.{SinkError}
use Rattle.sd_io.specs.declared.sink.SinkError.TheVariants.{Failed, Memory}

-- that of the text, 10 for a fault of the sink, or 1 for want of memory
abbrev pub written_status : Result ⊤ SinkError → ℕ → ℕ
written_status (Ok _) status = status
written_status (Err Failed) status = 10
written_status (Err Memory) status = 1
