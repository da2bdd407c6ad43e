use Rattle.std.proofs.Common.{◌≡◌, ◌++◌, map, take}
use Rattle.sd_compile.proofs.compiling.dims_of.Given as goal

-- those of the connectors so far
abbrev pub invariant-loop-port : goal.invariant-loop-port
invariant-loop-port l = l.dims.items ≡ map (λ port. port.dims) (take l.port-index l.ins)

abbrev pub invariant-loop-port-2 : goal.invariant-loop-port-2
invariant-loop-port-2 l = l.dims.items ≡ map (λ port. port.dims) (l.ins ++ take l.port-index l.outs)
