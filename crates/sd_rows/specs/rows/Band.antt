-- Rows that differ in the value of the last parameter but one alone.
use Rattle.std.specs.Prelude.{◌≡◌, ℕ, ◌+◌, ◌<◌, ℤ, List, [], ◌∷◌, ◌++◌}
use Rattle.sd_range.specs.declared.range.Range.{Range}
use Rattle.sd_tcode.specs.tcode.Compiled.{Compiled}
use Rattle.sd_row.specs.row.Setting.{Setting, IsRowOf}
use Rattle.sd_rows.specs.declared.rows.map.TaskMap.{TaskMap}
use Rattle.sd_rows.specs.declared.rows.steps.Steps.{Steps}
use Rattle.sd_rows.specs.declared.rows.band.Band.{Band}
use Rattle.sd_rows.specs.rows.Along.{step_to, IsLast}
use Rattle.sd_rows.specs.rows.Map.{tree_of, own_memory, row_at}

-- the points of one number in the rows that begin with these values, themselves a row
abbrev pub edge_at : TaskMap → (others : List ℤ) → (across steps : Steps) → (k : ℕ) → Setting
edge_at here others across steps k = record {
  tree = tree_of here;
  ins = here.ins.now;
  outs = here.outs.now;
  line = here.line;
  context = λ row. (row_at here (others ++ step_to across row ∷ []) steps).context k;
  own = own_memory here;
}

-- the last of the parameters before that of rows takes these values, and is another one
pub record IsAcross (outer : List (ℕ × Range)) (values : List ℤ) (across steps : Steps) : Type 0 where
  pub others : List (ℕ × Range)
  pub last : IsLast outer others values across
  pub differ : (across.variable ≡ steps.variable) → ⊥

-- where there are rows, the accesses at their first and at their last points are those of this code
pub record IsBand (here : TaskMap) (steps : Steps) (code : Compiled) (band : Band) : Type 0 where
  pub near : 0 < band.rows → IsRowOf (edge_at here band.others.items band.across steps 0) code band.near band.rows
  pub far : 0 < band.rows → (gaps : ℕ) → steps.count ≡ gaps + 1 → IsRowOf (edge_at here band.others.items band.across steps gaps) code band.far band.rows
