-- A row: points of a map at which only its last parameter differs, at equal distances.
use Rattle.std.specs.Prelude.{◌≡◌, ℕ, ℤ, unsigned_abs, List, [], ◌∷◌, ◌++◌, map, Some}
use Rattle.sd_num.specs.Wrapped.{wrapped}
use Rattle.sd_range.specs.Affine.{variable_value}
use Rattle.sd_work.specs.Memory.{Reference}
use Rattle.sd_work.specs.Leaf.{Pending, write_value}
use Rattle.sd_graph.specs.PlainTree.{TaskletTree}
use Rattle.sd_graph.specs.Context.{Context, link_elements, link_extents}
use Rattle.sd_graph.specs.Unfold.{pending_of}
use Rattle.sd_graph.specs.declared.link.Link.{Link}
use Rattle.sd_tcode.specs.tcode.Outputs.{output_effects}
use Rattle.sd_tcode.specs.columns.Columns.{value_on}
use Rattle.sd_row.specs.declared.row.track.Track.{Track}
use Rattle.sd_row.specs.declared.row.row.Write.{Write}
use Rattle.sd_row.specs.declared.row.row.Row.{Row}

-- the element of a track at a point of a row
abbrev pub reference_on : Track → (k : ℕ) → Reference
reference_on track k = record { level = track.station.level; container = track.station.container; element = unsigned_abs (value_on track.elements k) }

-- what is written at a point of a row, where the outputs have these values
abbrev pub write_on : (value : ℕ → ℤ) → (k : ℕ) → Write → Pending
write_on value k write = write_value (value write.connector) (Some (reference_on write.to k)) write.by

-- the outputs in the order in which they are written
abbrev pub order_of : Row → List ℕ
order_of row = map (λ write. write.connector) row.writes.items

-- A row says where the accesses of a tasklet lead at its point of this number, which stands here: each input and output is one element.
pub record IsAt (code : TaskletTree) (ins outs : List Link) (row : Row) (k : ℕ) (context : Context) : Type 0 where
  pub reads : map (link_elements context) ins ≡ map (λ track. Some (reference_on track k) ∷ []) row.reads.items
  pub extents : map (link_extents context) (ins ++ outs) ≡ map (λ link. []) (ins ++ outs)
  pub variables : map (λ variable. wrapped (variable_value context.values variable)) code.variables ≡ map (λ numbers. value_on numbers k) row.variables.items
  pub writes : (value : ℕ → ℤ) → map (pending_of context ins outs) (output_effects value (order_of row)) ≡ map (write_on value k) row.writes.items
