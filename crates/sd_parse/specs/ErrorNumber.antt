-- The number and the line of an error in a source.
use Rattle.std.specs.Prelude.{ℕ, Option, Some, None, option_map}
use Rattle.sd_context.specs.declared.blocks.refusal.Refusal.{Refusal}
use Rattle.sd_parse.specs.declared.error.SourceError.{SourceError}
use Rattle.sd_parse.specs.declared.error.SourceError.TheVariants.{At, Memory}

-- want of memory is no error of the source
abbrev pub refusal_of : SourceError → Option Refusal
refusal_of (At number line) = Some (record { number = number; line = line })
refusal_of Memory = None

abbrev pub number_of : SourceError → Option ℕ
number_of error = option_map (λ refusal. refusal.number) (refusal_of error)

abbrev pub line_of : SourceError → Option ℕ
line_of error = option_map (λ refusal. refusal.line) (refusal_of error)
