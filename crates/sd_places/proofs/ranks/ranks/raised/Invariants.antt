use Rattle.std.proofs.Common.{◌≡◌, take, length}
use Rattle.sd_validity.specs.rules.Ranks as ranks
use Rattle.sd_places.proofs.ranks.ranks.raised.Given as goal

-- the table by the namings so far
abbrev pub invariant-loop-naming : goal.invariant-loop-naming
invariant-loop-naming l = l.next.items ≡ ranks.raised (take l.naming-index l.all) (length l.table) l.table
