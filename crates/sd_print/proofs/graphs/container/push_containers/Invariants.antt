use Rattle.std.proofs.Common.{◌≡◌, ◌++◌, map, string_bytes}
use Rattle.std.specs.List.{flat_map}
use Rattle.sd_graph.specs.TreeFold.{named_container}
use Rattle.sd_print.specs.graphs.GraphText.{container_text}
use Rattle.sd_print.proofs.graphs.container.push_containers.Given as goal

-- what is added so far, with what is left
abbrev pub invariant-loop-name : goal.invariant-loop-name
invariant-loop-name l = string_bytes l.text ++ flat_map (container_text (map string_bytes l.names)) (map named_container l.name-iterator)
    ≡ string_bytes l.initial.text ++ flat_map (container_text (map string_bytes l.names)) (map named_container l.containers.entries)
