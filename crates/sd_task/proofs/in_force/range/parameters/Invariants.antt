use Rattle.std.proofs.Common.{◌≡◌, ◌++◌, drop}
use Rattle.sd_lex.specs.TreeFold.{dimensions_of}
use Rattle.sd_program.specs.Bounds.{EachDimension}
use Rattle.sd_program.specs.Small.{IsSmall}
use Rattle.sd_task.specs.in_force.Ranges.{parameters_of}
use Rattle.sd_task.proofs.in_force.range.parameters.Given as goal

abbrev pub invariant-loop-slot : goal.invariant-loop-slot
invariant-loop-slot l = record {
  made : l.parameters.items ++ parameters_of l.variables (dimensions_of (drop l.slot-index l.ranges)) l.next ≡ parameters_of l.variables (dimensions_of l.ranges) l.variable;
  small : EachDimension IsSmall (dimensions_of (drop l.slot-index l.ranges));
}
