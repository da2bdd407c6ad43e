use Rattle.std.proofs.Common.{◌≡◌, drop}
use Rattle.std.specs.List.{AllByRecursion}
use Rattle.sd_row.proofs.instance.fit.are_scalar_ports.Given as goal

-- where those that are left are scalars, all are
abbrev pub invariant-loop-port : goal.invariant-loop-port
invariant-loop-port l = AllByRecursion (λ port. port.dims ≡ 0) (drop l.port-index l.ports) → AllByRecursion (λ port. port.dims ≡ 0) l.ports
