use Rattle.std.proofs.Common.{◌≡◌, ◌++◌, map, string_bytes, take}
use Rattle.sd_graph.specs.TreeFold.{named_container}
use Rattle.sd_scope.specs.scope.Standing.{name_shown}
use Rattle.sd_scope.proofs.scope.place.add_shown.Given as goal

abbrev pub invariant-loop-one : goal.invariant-loop-one
invariant-loop-one l =
    l.values.items ≡ l.initial.values.items ++ map (λ shown. (name_shown (map string_bytes l.names) (map named_container l.containers.entries) shown.name, shown.value)) (take l.one-index l.shown)
