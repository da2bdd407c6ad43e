use Rattle.std.proofs.Common.{drop}
use Rattle.sd_subset.specs.boxes.Apart as definition
use Rattle.sd_subset.proofs.boxes.apart.is_alone.Given as goal

-- none is in the terms where none of those that are left is
abbrev pub invariant-loop-variable : goal.invariant-loop-variable
invariant-loop-variable l = definition.IsAlone (drop l.variable-index l.own) l.by l.a → definition.IsAlone l.own l.by l.a
