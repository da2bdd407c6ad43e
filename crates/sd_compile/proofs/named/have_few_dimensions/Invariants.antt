use Rattle.std.proofs.Common.{◌≤◌, drop}
use Rattle.std.specs.List.{AllByRecursion}
use Rattle.sd_compile.proofs.named.have_few_dimensions.Given as goal

-- all have few where those that are left do
abbrev pub invariant-loop-port : goal.invariant-loop-port
invariant-loop-port l = AllByRecursion (λ port. port.dims ≤ 4) (drop l.port-index l.ports) → AllByRecursion (λ port. port.dims ≤ 4) l.ports
