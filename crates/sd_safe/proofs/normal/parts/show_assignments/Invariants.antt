use Rattle.std.proofs.Common.{ℕ, drop}
use Rattle.std.specs.List.{AllByRecursion}
use Rattle.sd_range.specs.declared.affine.Affine.{Affine}
use Rattle.sd_safe.specs.normal.NormalForm.{IsAffineNormal}
use Rattle.sd_safe.proofs.normal.parts.show_assignments.Given as goal

-- all are where those left are
abbrev pub invariant-loop-value : goal.invariant-loop-value
invariant-loop-value l =
    AllByRecursion (λ (assignment : ℕ × Affine). IsAffineNormal assignment.1) (drop l.value-index l.set) → AllByRecursion (λ (assignment : ℕ × Affine). IsAffineNormal assignment.1) l.set
