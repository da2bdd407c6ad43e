-- What instructions read beside their registers.
use Rattle.std.specs.Prelude.{ℕ, ◌<◌, ◌≤◌, List, length}
use Rattle.sd_range.specs.Points.{product}
use Rattle.sd_tcode.specs.op.Machine.{Held, extents_at, cells_at}

-- a connector that has dimensions has as many elements as its extents multiply to
abbrev pub HasCellsAt : List Held → (connector : ℕ) → Type 0
HasCellsAt arrays connector = 0 < length (extents_at arrays connector) → product (extents_at arrays connector) ≤ length (cells_at arrays connector)

-- each input connector does
abbrev pub HasCells : (inputs : ℕ) → List Held → Type 0
HasCells inputs arrays = (connector : ℕ) → connector < inputs → 0 < length (extents_at arrays connector) → product (extents_at arrays connector) ≤ length (cells_at arrays connector)
