use Rattle.std.proofs.Common.{◌≡◌, ◌++◌, drop}
use Rattle.sd_lex.specs.TreeFold.{expressions_of}
use Rattle.sd_names.specs.Expressions.{affine_list}
use Rattle.sd_names.specs.Extents.{AreWithin}
use Rattle.sd_names.proofs.affine_value.affine_list.Given as goal

-- the extents so far, before those that are left; each within the limits
abbrev pub invariant-loop-extent : goal.invariant-loop-extent
invariant-loop-extent l = record {
  values : l.all.items ++ affine_list l.names (expressions_of (drop l.extent-index l.extents)) ≡ affine_list l.names (expressions_of l.extents);
  within : AreWithin l.all.items;
}
