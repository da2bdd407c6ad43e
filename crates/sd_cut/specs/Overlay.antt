-- What was cut of a memory, seen from how it is kept.
use Rattle.std.specs.Prelude.{ℕ, ◌<◌, ◌^◌, length, Option, slice_index_or, None, Some, ⊤}
use Rattle.sd_range.specs.Points.{product}
use Rattle.sd_windows.specs.Windows.{Window}
use Rattle.sd_cut.specs.Streams.{IsTakenWithin}
use Rattle.sd_cut.specs.Windowed.{window_at}
use Rattle.sd_cut.specs.declared.overlay.Overlay.TheInside.{Inside}
use Rattle.sd_cut.specs.Overlaid.{Overlaid}

abbrev pub overlaid : Inside → Overlaid
overlaid o = record { windows = o.windows.items; arrays = o.arrays.items; streams = o.streams.items; left = o.left }

-- the elements of a window have numbers of 64 bits
abbrev pub IsSmall : Option Window → Type 0
IsSmall None = ⊤
IsSmall (Some window) = product window.extents < 2 ^ 64

-- containers have numbers of 32 bits, windows small ones, and no more was taken of a stream than was cut
pub record AreSound (o : Inside) : Type 0 where
  pub few : length o.arrays.items < 2 ^ 32
  pub few_streams : length o.streams.items < 2 ^ 32
  pub small : (container : ℕ) → IsSmall (window_at o.windows.items container)
  pub within : (container : ℕ) → IsTakenWithin (slice_index_or o.streams.items container None)
