use Rattle.std.proofs.Common.{◌≡◌, ◌++◌, take, nat_eq}
use Rattle.std.specs.List.{filter}
use Rattle.sd_print.proofs.graphs.affine.push_terms_of.Given as goal

-- those so far
abbrev pub invariant-loop-term : goal.invariant-loop-term
invariant-loop-term l = l.found.items ≡ l.initial.found.items ++ filter (λ term. nat_eq term.0 l.variable) (take l.term-index l.terms)
