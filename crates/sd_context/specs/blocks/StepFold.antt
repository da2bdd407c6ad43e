-- The code's answers as those of the definition.
use Rattle.std.specs.Prelude.{Result, Ok, Err}
use Rattle.sd_refusal.specs.declared.site.Counts.{Counts}
use Rattle.sd_context.specs.context.Context.{Context}
use Rattle.sd_context.specs.declared.blocks.refusal.Refusal.{Refusal}
use Rattle.sd_context.specs.blocks.Closing.{Step}

-- what a step that changes the context has come to
abbrev pub stepped : Result (Unit {0}) Refusal → Context → Step
stepped (Ok done) context = Ok context
stepped (Err refusal) context = Err refusal

abbrev pub counted : Result (Unit {0}) Refusal → Counts → Result Counts Refusal
counted (Ok done) counts = Ok counts
counted (Err refusal) counts = Err refusal
