use Rattle.sd_num.proofs.FloorLemmas.{read_back, remainder_read, some_divisor}
use Rattle.sd_num.proofs.FloorValues.{remainder_is}
use Rattle.sd_num.proofs.floor.floor_mod.Goals as goal

pub returns-clause-some : goal.returns-clause-some
returns-clause-some c =
    let found = c.in_ok-remainder.ensures.some in
    let division = remainder_read c.args.a c.args.b _ _ c.ranges.b (read_back c.args.a c.args.b _ _ c.ranges.a c.ranges.b found.1) in
    remainder_is c.args.a c.args.b _ _ (some_divisor _ _ _ _ division) division
