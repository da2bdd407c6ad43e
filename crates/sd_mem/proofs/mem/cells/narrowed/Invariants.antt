use Rattle.std.proofs.Common.{◌≡◌, map, take}
use Rattle.sd_num.specs.Width.{wrapped_to}
use Rattle.sd_num.specs.declared.width.Width.TheVariants.{W32}
use Rattle.sd_mem.proofs.mem.cells.narrowed.Given as goal

-- the elements so far
abbrev pub invariant-loop-value : goal.invariant-loop-value
invariant-loop-value l = l.cells.items ≡ map (wrapped_to W32) (take l.value-index l.values)
