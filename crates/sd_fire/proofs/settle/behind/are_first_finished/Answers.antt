use Rattle.std.proofs.Common.{sym}
use Rattle.sd_fire.proofs.settle_lemmas.FirstUnfinished.{first-reaches, none-at-all}
use Rattle.sd_fire.proofs.settle.behind.are_first_finished.Goals as goal

pub returns-in-Some : goal.returns-in-Some
returns-in-Some c =
    let first = c.in-Some.first in
    sym (first-reaches c.args.unfinished.now first.number first.rest c.args.number c.in-Some.ensures.before c.in-Some.ensures.inside)

pub returns-in-None : goal.returns-in-None
returns-in-None c = sym (none-at-all c.args.unfinished.now c.args.number c.in-None.ensures)
