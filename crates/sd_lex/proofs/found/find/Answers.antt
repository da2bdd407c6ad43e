use Rattle.sd_lex.proofs.FoundLemmas.{within_text}
use Rattle.sd_lex.proofs.found.find.Goals as goal

pub returns-in-Some-3-clause-within : goal.returns-in-Some-3-clause-within
returns-in-Some-3-clause-within c = rw (c.in-Some.ensures.cases.0, c.string_of.ensures) (within_text c.in-Some.byte.now c.in-Some.field-0-1.now)
