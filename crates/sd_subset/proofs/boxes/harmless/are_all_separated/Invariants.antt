use Rattle.std.proofs.Common.{drop}
use Rattle.sd_subset.specs.boxes.Apart as definition
use Rattle.std.specs.List.{AllByRecursion}
use Rattle.std.specs.Prelude.{◌⊎◌}
use Rattle.sd_subset.proofs.boxes.harmless.are_all_separated.Given as goal

-- the boxes are separated on each parameter where they are on each that is left
abbrev pub invariant-loop-by : goal.invariant-loop-by
invariant-loop-by l = AllByRecursion (λ parameter. definition.IsSingle l.around parameter ⊎ definition.AreSeparated l.own parameter l.one l.other) (drop l.by-index l.own) →
    definition.AreAllSeparated l.around l.own l.one l.other
