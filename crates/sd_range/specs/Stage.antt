-- How far a way through points has come, and what that says of where it stands and what is left.
use Rattle.std.specs.Prelude.{◌≡◌, ℤ, List, [], map, Option, Some, None}
use Rattle.std.specs.List.{AllByRecursion}
use Rattle.sd_range.specs.Points.{tuples}
use Rattle.sd_range.specs.Axis.{axis_values, first_of, IsFilled, after}
use Rattle.sd_range.specs.declared.axis.Axis.{Axis}
use Rattle.sd_range.specs.declared.stage.Stage.{Stage}
use Rattle.sd_range.specs.declared.stage.Stage.TheVariants.{Before, On, Over}

-- the point at which it stands
abbrev pub current_at : Stage → List ℤ → Option (List ℤ)
current_at Before at = None
current_at On at = Some at
current_at Over at = None

-- the points that are left
abbrev pub left_at : Stage → List Axis → List ℤ → List (List ℤ)
left_at Before axes at = tuples (map axis_values axes)
left_at On axes at = after axes at
left_at Over axes at = []

-- points are there only where each axis has a number, and but for at a point the first numbers stand ready
abbrev pub IsReady : Stage → List Axis → List ℤ → Type 0
IsReady Before axes at = AllByRecursion IsFilled axes × (at ≡ map first_of axes)
IsReady On axes at = AllByRecursion IsFilled axes
IsReady Over axes at = at ≡ map first_of axes

-- no point has been come to, and all are left
pub record IsOpening (stage : Stage) (axes : List Axis) : Type 0 where
  pub current : current_at stage (map first_of axes) ≡ None
  pub left : left_at stage axes (map first_of axes) ≡ tuples (map axis_values axes)
  pub ready : IsReady stage axes (map first_of axes)
