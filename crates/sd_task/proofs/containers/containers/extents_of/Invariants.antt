use Rattle.std.proofs.Common.{◌≡◌, ◌++◌, drop}
use Rattle.sd_lex.specs.TreeFold.{expressions_of}
use Rattle.sd_program.specs.Affines.{affines_of}
use Rattle.sd_program.specs.Bounds.{EachExpression}
use Rattle.sd_program.specs.Small.{IsSmall}
use Rattle.sd_task.proofs.containers.containers.extents_of.Given as goal

abbrev pub invariant-loop-extent : goal.invariant-loop-extent
invariant-loop-extent l = record {
  made : l.extents.items ++ affines_of l.symbols (expressions_of (drop l.extent-index l.written)) ≡ affines_of l.symbols (expressions_of l.written);
  small : EachExpression IsSmall (expressions_of (drop l.extent-index l.written));
}
