use Rattle.sd_overlay.proofs.StreamsKept.{pushed-so, taken-so}
use Rattle.sd_overlay.proofs.laws.uses_of_a_stream_keep_how_it_is_used.Goals as goal

pub returns-clause-pushed : goal.returns-clause-pushed
returns-clause-pushed c = pushed-so

pub returns-clause-taken : goal.returns-clause-taken
returns-clause-taken c = taken-so
