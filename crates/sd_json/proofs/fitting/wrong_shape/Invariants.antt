use Rattle.std.proofs.Common.{◌≡◌, drop, map}
use Rattle.sd_graph.specs.TreeFold.{named_container}
use Rattle.sd_json.specs.GivenMemory as definition
use Rattle.sd_json.proofs.fitting.wrong_shape.Given as goal

-- none so far
abbrev pub invariant-loop-at : goal.invariant-loop-at
invariant-loop-at l =
    definition.wrong_shape (map named_container l.containers.entries) l.arrays ≡ definition.wrong_shape (drop l.at (map named_container l.containers.entries)) (drop l.at l.arrays)
