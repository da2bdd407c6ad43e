use Rattle.std.proofs.Common.{◌≡◌, ◌++◌, drop, if◌then◌else◌}
use Rattle.sd_subset.specs.elements.Composition.{last_as_span}
use Rattle.sd_subset.proofs.elements.composition.with_span.Given as goal

-- the dimensions so far stand before those that are left
abbrev pub invariant-loop-i : goal.invariant-loop-i
invariant-loop-i l =
    l.copy.items ++ (if l.has_range then drop l.i l.dims else last_as_span (drop l.i l.dims))
    ≡ (if l.has_range then l.dims else last_as_span l.dims)
