use Rattle.std.proofs.Common.{◌≡◌, drop}
use Rattle.std.specs.List.{list_all}
use Rattle.sd_validity.specs.rules.Ranks as ranks
use Rattle.sd_places.proofs.ranks.ranks.are_ranked.Given as goal

-- those left have a rank where all do
abbrev pub invariant-loop-number : goal.invariant-loop-number
invariant-loop-number l = list_all (ranks.is_ranked l.table) (drop l.number-index l.numbers) ≡ list_all (ranks.is_ranked l.table) l.numbers
