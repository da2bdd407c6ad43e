use Rattle.sd_json.proofs.Walking.{nothing_refused}
use Rattle.sd_json.proofs.walk.read_value.Goals as goal

pub returns-in-None-clause-err : goal.returns-in-None-clause-err
returns-in-None-clause-err c refused = nothing_refused c.args.depth c.args.reader.now c.in-None.ensures.value.0
