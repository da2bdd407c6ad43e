use Rattle.std.proofs.Common.{◌≡◌, drop, ◌++◌, map}
use Rattle.sd_lex.specs.TreeFold.{expressions_of}
use Rattle.sd_range.specs.declared.subset.Dim.TheVariants.{Index}
use Rattle.sd_program.specs.Affines.{affines_of}
use Rattle.sd_program.specs.Bounds.{EachExpression}
use Rattle.sd_program.specs.Small.{IsSmall}
use Rattle.sd_task.proofs.task.link.indices.Given as goal

abbrev pub invariant-loop-index : goal.invariant-loop-index
invariant-loop-index l = record {
  made : l.dims.items ++ map Index (affines_of l.variables (expressions_of (drop l.index-index l.at))) ≡ map Index (affines_of l.variables (expressions_of l.at));
  small : EachExpression IsSmall (expressions_of (drop l.index-index l.at));
}
