use Rattle.std.proofs.Common.{rules}
use Rattle.sd_chain.proofs.Reading.{pick-ok, pick-err}
use Rattle.sd_chain.proofs.picks.pick_of.Goals as goal

pub returns-in-Ok : goal.returns-in-Ok
returns-in-Ok c = pick-ok c.args.word.now c.in-Ok.pick c.parse_u64.result c.in-Ok.is c.parse_u64.ensures (search rules)

pub returns-in-Err : goal.returns-in-Err
returns-in-Err c = pick-err c.args.word.now c.in-Err.field-0 c.parse_u64.result c.in-Err.is c.parse_u64.ensures (search rules) c.requires
