use Rattle.std.proofs.Common.{◌≡◌, ◌++◌, take, map, string_bytes}
use Rattle.std.specs.List.{flat_map}
use Rattle.sd_graph.specs.TreeFold.{named_container}
use Rattle.sd_lower.specs.PlanText.{container_line}
use Rattle.sd_lower.proofs.text.push_containers.Given as goal

-- the lines so far
abbrev pub invariant-loop-one : goal.invariant-loop-one
invariant-loop-one l = string_bytes l.text ≡ string_bytes l.initial.text ++ flat_map (container_line (map named_container l.containers.entries)) (take l.one-index l.all)
