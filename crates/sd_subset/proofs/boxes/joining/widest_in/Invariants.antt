use Rattle.std.proofs.Common.{take}
use Rattle.sd_subset.specs.boxes.Columns.{column, IsWidest}
use Rattle.sd_subset.proofs.boxes.joining.widest_in.Given as goal

-- the widest of the boxes so far
abbrev pub invariant-loop-one : goal.invariant-loop-one
invariant-loop-one l = IsWidest l.widest (column l.dimension (take l.one-index l.boxes))
