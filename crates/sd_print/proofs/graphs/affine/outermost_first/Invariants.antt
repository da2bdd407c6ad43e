use Rattle.std.proofs.Common.{◌≡◌, take, nat_eq}
use Rattle.std.specs.List.{filter, flat_map}
use Rattle.sd_print.proofs.graphs.affine.outermost_first.Given as goal

-- those of the variables so far
abbrev pub invariant-loop-variable : goal.invariant-loop-variable
invariant-loop-variable l = l.found.items ≡ flat_map (λ variable. filter (λ term. nat_eq term.0 variable) l.terms) (take l.variable-index l.order)
