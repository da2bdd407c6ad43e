-- A memory, seen from how it is kept: what each container holds.
use Rattle.std.specs.Prelude.{ℕ, ◌<◌, ◌^◌, List, [], map}
use Rattle.std.specs.List.{AllByRecursion}
use Rattle.sd_range.specs.Points.{product}
use Rattle.sd_work.specs.Memory.{Contents}
use Rattle.sd_mem.specs.mem.Shaped.{Shaped}
use Rattle.sd_mem.specs.mem.Cells.{array_of, stream_of}
use Rattle.sd_mem.specs.declared.mem.holding.Holding.{Holding}
use Rattle.sd_mem.specs.declared.mem.holding.Holding.TheVariants.{Array, Stream}
use Rattle.sd_mem.specs.declared.mem.memory.Memory.TheInside.{Inside}

-- the extents of a container
abbrev pub shape_held : Holding → List ℕ
shape_held (Array shape cells) = shape.items
shape_held (Stream values) = []

-- what a container holds
abbrev pub contents_held : Holding → Contents
contents_held (Array shape cells) = array_of cells
contents_held (Stream values) = stream_of values

-- the numbers of an array's elements fit 64 bits
abbrev pub IsSized : Holding → Type 0
IsSized holding = product (shape_held holding) < 2 ^ 64

-- the containers in order
abbrev pub memory_of : List Holding → Shaped
memory_of holdings = record { shapes = map shape_held holdings; contents = map contents_held holdings }

abbrev pub shaped_of : Inside → Shaped
shaped_of m = memory_of m.holdings.items

abbrev pub AreSized : Inside → Type 0
AreSized m = AllByRecursion IsSized m.holdings.items
