use Rattle.std.proofs.Common.{◌≡◌, ℕ, ℤ, drop, map}
use Rattle.std.specs.List.{list_all}
use Rattle.sd_validity.specs.rules.Shapes as shapes
use Rattle.sd_links.specs.ExtentOf.{extent_of}
use Rattle.sd_links.proofs.extents.are_coefficients_same.Given as goal

-- those left differ alike where all do
abbrev pub invariant-loop-variable : goal.invariant-loop-variable
invariant-loop-variable l =
    list_all (shapes.is_coefficient_same (extent_of l.extent) (extent_of l.other)) (map (λ (term : ℕ × ℤ). term.0) (drop l.variable-index l.variable-items))
    ≡ list_all (shapes.is_coefficient_same (extent_of l.extent) (extent_of l.other)) (map (λ (term : ℕ × ℤ). term.0) l.variable-items)
