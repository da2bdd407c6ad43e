use Rattle.std.proofs.Common.{◌≡◌, ℕ, drop}
use Rattle.std.specs.List.{list_all}
use Rattle.sd_range.specs.declared.affine.Affine.{Affine}
use Rattle.sd_places.proofs.places.parts.are_assignments_passed.Given as goal

-- those left pass where all do
abbrev pub invariant-loop-value : goal.invariant-loop-value
invariant-loop-value g l =
    list_all (λ (assignment : ℕ × Affine). (g.T.Test.tests l.test).expression assignment.1) (drop l.value-index l.set)
    ≡ list_all (λ (assignment : ℕ × Affine). (g.T.Test.tests l.test).expression assignment.1) l.set
