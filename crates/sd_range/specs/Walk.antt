-- A way through points, seen from how it is kept.
use Rattle.std.specs.Prelude.{◌≡◌, length, map}
use Rattle.std.specs.List.{AllByRecursion}
use Rattle.sd_range.specs.Range.{IsRange}
use Rattle.sd_range.specs.Points.{Walk}
use Rattle.sd_range.specs.Axis.{axis_values, Rises}
use Rattle.sd_range.specs.Stage.{current_at, left_at, IsReady}
use Rattle.sd_range.specs.declared.points.Points.TheInside.{Inside}

abbrev pub walk_of : Inside → Walk
walk_of p = record {
  ranges = p.ranges.items;
  parameters = map axis_values p.axes.items;
  current = current_at p.stage p.at.items;
  left = left_at p.stage p.axes.items p.at.items;
}

-- there are an axis and a number for each range, and the axes rise
pub record IsWalk (p : Inside) : Type 0 where
  pub same_axes : length p.axes.items ≡ length p.ranges.items
  pub same_length : length p.at.items ≡ length p.axes.items
  pub ranges : AllByRecursion IsRange p.ranges.items
  pub rising : AllByRecursion Rises p.axes.items
  pub ready : IsReady p.stage p.axes.items p.at.items
