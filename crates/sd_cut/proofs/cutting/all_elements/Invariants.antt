use Rattle.std.proofs.Common.{◌≡◌, ◌<◌, ℕ, [], length, slice_index_or}
use Rattle.std.specs.List.{All}
use Rattle.sd_cut.specs.Elements.{AreOfWindow, IsUntouched}
use Rattle.sd_cut.specs.Cutting.{IsWithin}
use Rattle.sd_cut.specs.Overlay.{IsSmall}
use Rattle.sd_cut.specs.Windowed.{window_at}
use Rattle.sd_cut.proofs.cutting.all_elements.Given as goal

-- the elements of the containers so far
abbrev pub invariant-loop-number : goal.invariant-loop-number
invariant-loop-number l = record {
  count : length l.arrays.items ≡ l.number;
  untouched : (container : ℕ) → All IsUntouched (slice_index_or l.arrays.items container []);
  within : (container : ℕ) → container < l.number → IsWithin l.memory container (window_at l.windows container);
  small : (container : ℕ) → container < l.number → IsSmall (window_at l.windows container);
  sofar : (container : ℕ) → container < l.number → AreOfWindow l.memory container (window_at l.windows container) (slice_index_or l.arrays.items container []);
}
