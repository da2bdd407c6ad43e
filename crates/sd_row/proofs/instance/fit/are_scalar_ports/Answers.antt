use Rattle.std.proofs.Common.{◌≡◌, arith, rules}
use Rattle.sd_row.proofs.row_lemmas.Filled.{all_behind, all_none}
use Rattle.sd_row.proofs.instance.fit.are_scalar_ports.Goals as goal

pub loop-port-preserved : goal.loop-port-preserved
loop-port-preserved c = all_behind (λ port. port.dims ≡ 0) c.args.ports.now c.loop-port.port-index c.port-item.result c.loop-port-test.true c.port-item.is (search rules) c.loop-port.invariant

pub returns : goal.returns
returns c done = all_none (λ port. port.dims ≡ 0) c.args.ports.now c.loop-port.port-index (omega arith) c.loop-port.invariant
