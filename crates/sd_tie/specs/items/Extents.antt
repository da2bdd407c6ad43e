-- Graphs whose containers have no negative extent with some sizes.
use Rattle.std.specs.Prelude.{◌≡◌, ℤ, List, false}
use Rattle.std.specs.List.{AllByRecursion}
use Rattle.sd_graph.specs.PlainTree.{GraphTree}
use Rattle.sd_graph.specs.ContainerParts.{Containers}
use Rattle.sd_graph.specs.declared.container.Container.{Container}
use Rattle.sd_program.specs.Names.{Name}
use Rattle.sd_valid.specs.BoundExpression.{bound_container}
use Rattle.sd_valid.specs.Limits.{has_negative, all_containers}

abbrev pub HasExtents : (sizes : List ℤ) → Name × Container → Type 0
HasExtents sizes entry = has_negative (bound_container sizes entry.1) ≡ false

abbrev pub HaveExtents : (sizes : List ℤ) → Containers → Type 0
HaveExtents sizes containers = AllByRecursion (HasExtents sizes) containers

-- so it is in a graph, and in each graph nested in it
abbrev pub HasExtentsThroughout : (sizes : List ℤ) → GraphTree → Type 0
HasExtentsThroughout sizes tree = HaveExtents sizes (all_containers tree)
