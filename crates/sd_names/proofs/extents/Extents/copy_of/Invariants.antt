use Rattle.std.proofs.Common.{◌≡◌, take}
use Rattle.sd_names.specs.Extents.{AreWithin}
use Rattle.sd_names.proofs.extents.Extents.copy_of.Given as goal

-- the extents so far
abbrev pub invariant-loop-extent : goal.invariant-loop-extent
invariant-loop-extent l = record {
  copies : l.all.items ≡ take l.extent-index l.extent-items;
  within : AreWithin l.all.items;
}
