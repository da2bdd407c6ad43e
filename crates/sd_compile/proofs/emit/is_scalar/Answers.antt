use Rattle.sd_compile.proofs.Values.{scalar_by_length}
use Rattle.sd_compile.proofs.emit.is_scalar.Goals as goal

pub returns : goal.returns
returns c = scalar_by_length c.args.at.now
