use Rattle.std.proofs.Common.{◌≡◌, ◌++◌, take, map, string_bytes}
use Rattle.std.specs.List.{flat_map}
use Rattle.sd_graph.specs.TreeFold.{named_container}
use Rattle.sd_race.specs.text.CheckText.{access_line}
use Rattle.sd_race.proofs.text.whole.push_scope.Given as goal

-- the lines so far
abbrev pub invariant-loop-access : goal.invariant-loop-access
invariant-loop-access l = string_bytes l.text
    ≡ string_bytes l.initial.text ++ flat_map (access_line (map string_bytes l.names) (map named_container l.containers.entries) l.order l.scope.0) (take l.access-index l.access-items)
