use Rattle.std.proofs.Common.{◌≡◌, ◌++◌, drop}
use Rattle.sd_lex.specs.TreeFold.{dimensions_of}
use Rattle.sd_names.specs.Extents.{AreWithin}
use Rattle.sd_uses.specs.ShapeMismatch as shape
use Rattle.sd_uses.proofs.shape_mismatch.stretches_of.Given as goal

-- the stretches so far, before those of the dimensions that are left
abbrev pub invariant-loop-dimension : goal.invariant-loop-dimension
invariant-loop-dimension l = record {
  stretches : l.all.items ++ shape.stretches_of l.names.meanings l.left (dimensions_of (drop l.dimension-index l.dimensions)) ≡ shape.stretches_of l.names.meanings l.extents (dimensions_of l.dimensions);
  within : AreWithin l.left;
}
