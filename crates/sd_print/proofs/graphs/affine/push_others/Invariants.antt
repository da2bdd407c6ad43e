use Rattle.std.proofs.Common.{◌≡◌, ◌++◌, take, not}
use Rattle.std.specs.List.{filter}
use Rattle.sd_graph.specs.Wiring.{has_number}
use Rattle.sd_print.proofs.graphs.affine.push_others.Given as goal

-- those so far
abbrev pub invariant-loop-term : goal.invariant-loop-term
invariant-loop-term l = l.found.items ≡ l.initial.found.items ++ filter (λ term. not (has_number l.order term.0)) (take l.term-index l.terms)
