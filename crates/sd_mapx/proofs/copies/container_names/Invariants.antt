use Rattle.std.proofs.Common.{◌≡◌, ◌++◌, map, string_bytes}
use Rattle.sd_graph.specs.TreeFold.{named_container}
use Rattle.sd_mapx.proofs.copies.container_names.Given as goal

-- the names so far, and those left
abbrev pub invariant-loop-name : goal.invariant-loop-name
invariant-loop-name l =
    map string_bytes l.names.items ++ map (λ entry. entry.0) (map named_container l.name-iterator) ≡ map (λ entry. entry.0) (map named_container l.containers.entries)
