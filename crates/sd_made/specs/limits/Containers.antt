-- What the rule on limits asks of the containers of a graph, but for their elements.
use Rattle.std.specs.Prelude.{nat_le, length, Bool, ◌&&◌}
use Rattle.std.specs.List.{list_all}
use Rattle.sd_graph.specs.ContainerParts.{Containers}
use Rattle.sd_validity.specs.rules.WithinLimits.{is_small, is_container_small}

-- at most 256; an array has 1 to 4 dimensions, a stream none; and extents are small
abbrev pub are_containers_few : Containers → Bool
are_containers_few containers =
    nat_le (length containers) 256
    && (list_all (λ entry. is_container_small entry.1) containers && list_all (λ entry. list_all is_small entry.1.extents) containers)
