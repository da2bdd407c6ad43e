use Rattle.std.proofs.Common.{◌≡◌}
use Rattle.sd_validity.specs.rules.Ranks as ranks
use Rattle.sd_places.proofs.ranks.ranks.ranked.Given as goal

-- the table of so many ranks
abbrev pub invariant-loop-round : goal.invariant-loop-round
invariant-loop-round l = l.table.items ≡ ranks.ranked l.all l.count l.round
