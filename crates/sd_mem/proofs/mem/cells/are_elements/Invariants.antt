use Rattle.std.proofs.Common.{◌≡◌, map, take}
use Rattle.sd_num.specs.Width.{wrapped_to}
use Rattle.sd_num.specs.declared.width.Width.TheVariants.{W64}
use Rattle.sd_mem.proofs.mem.cells.are_elements.Given as goal

-- the elements so far
abbrev pub invariant-loop-value : goal.invariant-loop-value
invariant-loop-value l = map (wrapped_to W64) (take l.value-index l.values) ≡ take l.value-index l.values
