use Rattle.std.proofs.Common.{◌≡◌, map, ℕ, List}
use Rattle.std.specs.List.{list_all}
use Rattle.sd_graph.specs.TreeFold.{named_container}
use Rattle.sd_validity.specs.rules.Parts.{is_empty}
use Rattle.sd_graph.specs.declared.container.Container.{Container}
use Rattle.sd_rules.proofs.sizes.are_extents_constant.Given as goal

-- those left have constant extents where all have
abbrev pub invariant-loop-container : goal.invariant-loop-container
invariant-loop-container l =
    list_all (λ (entry : List ℕ × Container). list_all (λ extent. is_empty extent.terms) entry.1.extents) (map named_container l.container-iterator)
    ≡ list_all (λ (entry : List ℕ × Container). list_all (λ extent. is_empty extent.terms) entry.1.extents) (map named_container l.containers.entries)
