use Rattle.std.proofs.Common.{◌≡◌, map, ℕ, List}
use Rattle.std.specs.List.{list_all}
use Rattle.sd_graph.specs.TreeFold.{named_container}
use Rattle.sd_graph.specs.declared.container.Container.{Container}
use Rattle.sd_validity.specs.rules.WithinLimits as limits
use Rattle.sd_validate.proofs.limits.containers.are_extents_small.Given as goal

-- those left have small extents where all have
abbrev pub invariant-loop-container : goal.invariant-loop-container
invariant-loop-container l =
    list_all (λ (entry : List ℕ × Container). list_all limits.is_small entry.1.extents) (map named_container l.container-iterator)
    ≡ list_all (λ (entry : List ℕ × Container). list_all limits.is_small entry.1.extents) (map named_container l.containers.entries)
