-- A frame with three scalar inputs.
use Rattle.std.specs.Prelude.{ℕ, ◌<◌}
use Rattle.sd_tcode.specs.tcode.Held.{given, room_for}
use Rattle.sd_tcode.specs.declared.tcode.frame.Frame.{Frame}

-- there is an element for each of the three
abbrev pub HasScalars : Frame → Type 0
HasScalars frame = (connector : ℕ) → connector < 3 → 0 < room_for (given frame) connector
