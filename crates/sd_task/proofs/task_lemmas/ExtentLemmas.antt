-- The extents of containers by their numbers.
use Rattle.std.proofs.Common.{◌≡◌, ℕ, zero, suc, List, [], ◌∷◌, map, slice_get, Some, None, refl, String}
use Rattle.std.specs.declared.alloc.Global.{Global}
use Rattle.std.specs.List.{AllByRecursion}
use Rattle.sd_graph.specs.TreeFold.{named_container}
use Rattle.sd_graph.specs.declared.container.Container.{Container}
use Rattle.sd_program.specs.Small.{IsWithinLimits}
use Rattle.sd_task.specs.in_force.SmallExtents.{HaveSmallExtents}
use Rattle.sd_task.specs.task.Table.{extents_at}

pub extents_found : (entries : List (String Global × Container)) (container : ℕ) (entry : String Global × Container) →
    slice_get entries container ≡ Some entry → extents_at (map named_container entries) container ≡ entry.1.extents
extents_found [] container entry there = cc
extents_found (first ∷ rest) zero entry there = cc
extents_found (first ∷ rest) (suc container) entry there = extents_found rest container entry there

pub extents_missing : (entries : List (String Global × Container)) (container : ℕ) → slice_get entries container ≡ None → extents_at (map named_container entries) container ≡ []
extents_missing [] container none = refl
extents_missing (first ∷ rest) zero none = cc
extents_missing (first ∷ rest) (suc container) none = extents_missing rest container none

pub extents_within : (entries : List (String Global × Container)) (container : ℕ) → HaveSmallExtents (map named_container entries) → AllByRecursion IsWithinLimits (extents_at (map named_container entries) container)
extents_within [] container small = tt
extents_within (first ∷ rest) zero small = small.0
extents_within (first ∷ rest) (suc container) small = extents_within rest container small.1
