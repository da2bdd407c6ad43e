-- The part in which the unit of a number is.
use Rattle.std.specs.Prelude.{◌≡◌, ℕ, ◌+◌, ◌<◌, List, take, slice_index_or}
use Rattle.std.specs.List.{sum}
use Rattle.sd_list.specs.declared.tally.nodes.Found.{Found}

-- the parts before it have the earlier units, and it has the unit that comes so much behind its first one
pub record IsFound (counts : List ℕ) (unit : ℕ) (found : Found) : Type 0 where
  pub before : sum (take found.number counts) + found.rest ≡ unit
  pub inside : found.rest < slice_index_or counts found.number 0
