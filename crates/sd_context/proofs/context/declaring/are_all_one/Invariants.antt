use Rattle.std.proofs.Common.{◌≡◌, drop}
use Rattle.sd_context.specs.context.Declaring as declaring
use Rattle.sd_context.proofs.context.declaring.are_all_one.Given as goal

-- what is left decides
abbrev pub invariant-loop-extent : goal.invariant-loop-extent
invariant-loop-extent l = declaring.are_all_one (drop l.extent-index l.extents) ≡ declaring.are_all_one l.extents
