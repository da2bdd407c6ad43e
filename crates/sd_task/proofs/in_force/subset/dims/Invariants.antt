use Rattle.std.proofs.Common.{◌≡◌, ◌++◌}
use Rattle.std.specs.List.{AllByRecursion}
use Rattle.sd_lex.specs.TreeFold.{dimensions_of}
use Rattle.sd_program.specs.Bounds.{EachDimension}
use Rattle.sd_program.specs.Small.{IsSmall, IsWithinLimits}
use Rattle.sd_task.specs.in_force.Subsets.{dims_of}
use Rattle.sd_task.proofs.in_force.subset.dims.Given as goal

abbrev pub invariant-loop-slot : goal.invariant-loop-slot
invariant-loop-slot l = record {
  made : l.dims.items ++ dims_of l.variables (dimensions_of l.slot-iterator.a.rest.now) l.slot-iterator.b.rest.now ≡ dims_of l.variables (dimensions_of l.slots) l.extents;
  small : EachDimension IsSmall (dimensions_of l.slot-iterator.a.rest.now);
  within : AllByRecursion IsWithinLimits l.slot-iterator.b.rest.now;
}
