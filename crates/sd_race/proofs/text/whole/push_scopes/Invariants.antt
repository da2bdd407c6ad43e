use Rattle.std.proofs.Common.{◌≡◌, ◌++◌, take, map, string_bytes}
use Rattle.std.specs.List.{flat_map}
use Rattle.sd_graph.specs.TreeFold.{named_container, state_trees}
use Rattle.sd_race.specs.text.CheckText.{scope_lines}
use Rattle.sd_race.proofs.text.whole.push_scopes.Given as goal

-- the lines so far
abbrev pub invariant-loop-scope : goal.invariant-loop-scope
invariant-loop-scope l = string_bytes l.text
    ≡ string_bytes l.initial.text ++ flat_map (scope_lines (map string_bytes l.names) (map named_container l.containers.entries) (state_trees l.states)) (take l.scope-index l.scopes)
