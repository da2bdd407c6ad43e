-- The small source is read, computed.
use Rattle.std.proofs.Common.{◌≡◌, Ok, refl}
use Rattle.sd_phrase.specs.ExpressionReading.{reads_by}
use Rattle.sd_refusal.specs.NotAForm.{names_itself}
use Rattle.sd_source.specs.source.SourceReading.{reads}
use Rattle.sd_parse.specs.grammar.Small.{small_source, small_program}

pub small_is_read : reads small_source ≡ Ok small_program
unfolding reads_by names_itself
small_is_read = refl
