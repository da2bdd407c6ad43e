-- A way through elements, seen from how it is kept: as one through points.
use Rattle.std.specs.Prelude.{◌≡◌, length}
use Rattle.std.specs.List.{AllByRecursion}
use Rattle.sd_subset.specs.elements.Way.{Way}
use Rattle.sd_subset.specs.declared.elements.elements.Elements.TheInside.{Inside}

abbrev pub way_of : Inside → Way
way_of e = record { ranges = e.points.ranges; left = e.points.left }

-- each element that is left has a number for each range
abbrev pub IsWay : Inside → Type 0
IsWay e = AllByRecursion (λ element. length element ≡ length e.points.ranges) e.points.left
