use Rattle.std.proofs.Common.{ap, ◌∙◌}
use Rattle.sd_num.proofs.FloorLemmas.{read_back, wrapped_read, some_divisor}
use Rattle.sd_num.proofs.FloorValues.{quotient_is}
use Rattle.sd_num.specs.Wrapped.{wrapped}
use Rattle.sd_num.proofs.floor.floor_div.Goals as goal

pub returns-clause-some : goal.returns-clause-some
returns-clause-some c =
    let found = c.in_ok-quotient.ensures.some in
    let division = read_back c.args.a c.args.b _ _ c.ranges.a c.ranges.b found.1 in
    wrapped_read _ _ found.2 ∙ ap wrapped (quotient_is c.args.a c.args.b _ _ (some_divisor _ _ _ _ division) division)
