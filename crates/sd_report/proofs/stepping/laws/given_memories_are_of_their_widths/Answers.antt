use Rattle.sd_report.proofs.stepping_lemmas.Widths.{given_widths}
use Rattle.sd_report.proofs.stepping.laws.given_memories_are_of_their_widths.Goals as goal

pub returns : goal.returns
returns c = given_widths
