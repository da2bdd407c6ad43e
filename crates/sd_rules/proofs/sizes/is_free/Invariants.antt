use Rattle.std.proofs.Common.{◌≡◌, drop, nat_lt, not}
use Rattle.std.specs.List.{list_all}
use Rattle.sd_rules.proofs.sizes.is_free.Given as goal

-- those left are no size symbols where all are none
abbrev pub invariant-loop-variable : goal.invariant-loop-variable
invariant-loop-variable l = list_all (λ term. not (nat_lt term.0 l.symbols)) (drop l.variable-index l.variable-items) ≡ list_all (λ term. not (nat_lt term.0 l.symbols)) l.variable-items
