-- How many dimensions the connectors have.
use Rattle.std.proofs.Common.{ℕ, zero, suc, ◌≤◌, List, [], ◌∷◌, ◌++◌, map, arith}
use Rattle.std.specs.Prelude.{slice_index_or}
use Rattle.std.specs.List.{AllByRecursion}
use Rattle.sd_graph.specs.declared.tasklet.Port.{Port}

few_of : (ports : List Port) (connector : ℕ) → AllByRecursion (λ port. port.dims ≤ 4) ports → slice_index_or (map (λ port. port.dims) ports) connector 0 ≤ 4
few_of [] connector all = omega arith
few_of (port ∷ ports) zero all = all.0
few_of (port ∷ ports) (suc connector) all = few_of ports connector all.1

pub few_dimensions : (ins outs : List Port) (connector : ℕ) → AllByRecursion (λ port. port.dims ≤ 4) ins → AllByRecursion (λ port. port.dims ≤ 4) outs → slice_index_or (map (λ port. port.dims) (ins ++ outs)) connector 0 ≤ 4
few_dimensions [] outs connector few more = few_of outs connector more
few_dimensions (port ∷ ins) outs zero few more = few.0
few_dimensions (port ∷ ins) outs (suc connector) few more = few_dimensions ins outs connector few.1 more
