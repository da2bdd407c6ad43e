use Rattle.sd_phrase.proofs.PartLemmas.{four_parts}
use Rattle.sd_phrase.proofs.parts.few_parts.Goals as goal

pub returns-in-Some-mark_of-2-clause-parts : goal.returns-in-Some-mark_of-2-clause-parts
returns-in-Some-mark_of-2-clause-parts c =
    four_parts c.args.mark c.args.tokens.now c.in-Some.first c.in-Some-mark_of.second c.in-Some-mark_of-2.field-0
    c.in-Some.ensures.parts c.in-Some-mark_of.ensures.parts c.in-Some-mark_of-2.ensures.parts
