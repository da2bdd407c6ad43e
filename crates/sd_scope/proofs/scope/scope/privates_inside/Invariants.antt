use Rattle.std.proofs.Common.{◌≡◌, ℕ, Some, None, if◌then◌else◌, slice_index_or, drop}
use Rattle.sd_graph.specs.Wiring.{has_number}
use Rattle.sd_scope.specs.scope.Standing.{private_inside}
use Rattle.sd_scope.proofs.scope.scope.privates_inside.Given as goal

-- what is private with those that are left
abbrev pub invariant-loop-number : goal.invariant-loop-number
invariant-loop-number l =
    (number : ℕ) → (if has_number (drop l.number-index l.private) number then Some 0 else slice_index_or l.inner.items number None) ≡ private_inside l.private l.outer number
