-- Containers whose extents are within the limits.
use Rattle.std.specs.Prelude.{List}
use Rattle.std.specs.List.{AllByRecursion}
use Rattle.sd_graph.specs.declared.container.Container.{Container}
use Rattle.sd_program.specs.Names.{Name}
use Rattle.sd_program.specs.Small.{IsWithinLimits}

abbrev pub HasSmallExtents : Container → Type 0
HasSmallExtents container = AllByRecursion IsWithinLimits container.extents

abbrev pub HaveSmallExtents : List (Name × Container) → Type 0
HaveSmallExtents containers = AllByRecursion (λ entry. HasSmallExtents entry.1) containers
