-- What was cut of a memory, and what is left of it.
use Rattle.std.specs.Prelude.{List, Option}
use Rattle.sd_mem.specs.mem.Shaped.{Shaped}
use Rattle.sd_cut.specs.declared.elements.CutElement.{CutElement}
use Rattle.sd_cut.specs.declared.streams.CutStream.{CutStream}
use Rattle.sd_cut.specs.declared.window.Window.{Window}

-- by container: its window and the elements that were cut in it, or the stream that was cut; and a memory with what is left of the elements, by the windows' numbers, and of what was pushed
pub record Overlaid : Type 0 where
  pub windows : List (Option Window)
  pub arrays : List (List CutElement)
  pub streams : List (Option CutStream)
  pub left : Shaped
