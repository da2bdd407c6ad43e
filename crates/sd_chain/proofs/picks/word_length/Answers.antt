use Rattle.std.proofs.Common.{sym}
use Rattle.sd_chain.specs.Picks.{is_blank}
use Rattle.sd_chain.proofs.Words.{found-is, none-is}
use Rattle.sd_chain.proofs.picks.word_length.Goals as goal

pub returns-in-Some : goal.returns-in-Some
returns-in-Some c = sym (found-is is_blank c.args.text.now c.in-Some.end (sym c.in-Some.ensures)).0

pub returns-in-None : goal.returns-in-None
returns-in-None c = none-is is_blank c.args.text.now (sym c.in-None.ensures)
