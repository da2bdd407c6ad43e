use Rattle.std.proofs.Common.{drop}
use Rattle.std.specs.List.{AllByRecursion}
use Rattle.sd_row.specs.row.Block.{IsApart}
use Rattle.sd_row.proofs.row.block.are_apart.Given as goal

-- where those that are left are apart, all are
abbrev pub invariant-loop-read : goal.invariant-loop-read
invariant-loop-read l = AllByRecursion (IsApart l.writes) (drop l.read-index l.reads) → AllByRecursion (IsApart l.writes) l.reads
