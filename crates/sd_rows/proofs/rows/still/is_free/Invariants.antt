use Rattle.std.proofs.Common.{◌≡◌, drop, not, nat_eq}
use Rattle.std.specs.List.{list_all}
use Rattle.sd_rows.proofs.rows.still.is_free.Given as goal

-- it is what the terms that are left say
abbrev pub invariant-loop-other : goal.invariant-loop-other
invariant-loop-other l = list_all (λ term. not (nat_eq term.0 l.variable)) (drop l.other-index l.other-items) ≡ list_all (λ term. not (nat_eq term.0 l.variable)) l.other-items
