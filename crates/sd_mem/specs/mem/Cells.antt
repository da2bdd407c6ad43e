-- Elements and values of either width, seen from how they are kept.
use Rattle.sd_num.specs.declared.width.Width.TheVariants.{W32, W64}
use Rattle.sd_work.specs.Memory.{Contents, array, stream}
use Rattle.sd_mem.specs.declared.mem.cells.Cells.{Cells}
use Rattle.sd_mem.specs.declared.mem.cells.Cells.TheVariants as held
use Rattle.sd_mem.specs.declared.mem.cells.Elements.{Elements}
use Rattle.sd_mem.specs.declared.mem.cells.Elements.TheVariants as lent
use Rattle.sd_mem.specs.declared.mem.cells.Values.{Values}
use Rattle.sd_mem.specs.declared.mem.cells.Values.TheVariants as waiting

-- an array of these elements
abbrev pub array_of : Cells → Contents
array_of (held.W32 cells) = array W32 cells.items
array_of (held.W64 cells) = array W64 cells.items

-- an array of elements that are lent
abbrev pub array_lent : Elements → Contents
array_lent (lent.W32 cells) = array W32 cells.now
array_lent (lent.W64 cells) = array W64 cells.now

-- a stream of these values
abbrev pub stream_of : Values → Contents
stream_of (waiting.W32 values) = stream W32 values.items
stream_of (waiting.W64 values) = stream W64 values.items
