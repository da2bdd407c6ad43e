-- A way through indices, seen from how it is kept: as one through elements.
use Rattle.std.specs.Prelude.{◌≡◌, length}
use Rattle.sd_scope.specs.scope.IndexWay.{IndexWay}
use Rattle.sd_scope.specs.declared.scope.indices.Indices.TheInside.{Inside}

abbrev pub way_of : Inside → IndexWay
way_of e = record { at = e.index.items; left = e.elements.left }

-- an index has a number for each dimension
abbrev pub IsWay : Inside → Type 0
IsWay e = length e.index.items ≡ length e.elements.ranges
