use Rattle.std.proofs.Common.{sym}
use Rattle.sd_chain.proofs.Parting.{part-some, part-none}
use Rattle.sd_chain.proofs.parts.first_part.Goals as goal

pub returns-in-Some : goal.returns-in-Some
returns-in-Some c = part-some c.args.sign c.args.text.now c.split_at.result.0.now c.split_at.result.1.now c.in-Some.end (sym c.in-Some.ensures) c.split_at.ensures.front c.split_at.ensures.back

pub returns-in-None : goal.returns-in-None
returns-in-None c = part-none c.args.sign c.args.text.now (sym c.in-None.ensures)
