use Rattle.std.proofs.Common.{◌≡◌, ◌<◌, ℕ, length, None, slice_index_or}
use Rattle.sd_part.specs.Hulls.{window_for}
use Rattle.sd_part.proofs.hulls.windows_of.Given as goal

-- the windows so far
abbrev pub invariant-loop-number : goal.invariant-loop-number
invariant-loop-number l = record {
  long : length l.windows.items ≡ l.number;
  windows : (container : ℕ) → container < l.number → slice_index_or l.windows.items container None ≡ window_for l.boxes container;
}
