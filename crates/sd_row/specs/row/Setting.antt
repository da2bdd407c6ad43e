-- The instances of a row, one after another.
use Rattle.std.specs.Prelude.{◌≡◌, ℕ, zero, suc, ◌<◌, List, ◌++◌, length, Some}
use Rattle.sd_work.specs.Memory.{Memory}
use Rattle.sd_work.specs.Residual.{Term, owning, Terms, none, also}
use Rattle.sd_work.specs.BigStep.{Reached, Coming, big_parts}
use Rattle.sd_graph.specs.PlainTree.{TaskletTree, task, ItemTrees, no_item, and_item}
use Rattle.sd_graph.specs.Context.{Context, place_at}
use Rattle.sd_graph.specs.Unfold.{unfold_items, list_of}
use Rattle.sd_graph.specs.declared.link.Link.{Link}
use Rattle.sd_graph.specs.declared.place.Place.{Place}
use Rattle.sd_tcode.specs.tcode.Compiled.{Compiled, IsCodeOf}
use Rattle.sd_mem.specs.declared.machine.end.End.{End}
use Rattle.sd_mem.specs.declared.machine.end.End.TheVariants as ends
use Rattle.sd_row.specs.declared.row.row.Row.{Row}
use Rattle.sd_row.specs.declared.row.row_run.RowEnd.{RowEnd}
use Rattle.sd_row.specs.declared.row.row_run.RowEnd.TheVariants.{Finished, Fault, OutOfTurns}
use Rattle.sd_row.specs.row.Row.{IsAt, order_of}
use Rattle.sd_row.specs.row.Point.{IsBare}

-- a tasklet in its line, where each point of a row stands, and the memory that each point begins with
pub record Setting : Type 0 where
  pub tree : TaskletTree
  pub ins : List Link
  pub outs : List Link
  pub line : ℕ
  pub context : (k : ℕ) → Context
  pub own : Memory

-- a row of so many points of this code, in this setting
pub record IsSetting (row : Row) (compiled : Compiled) (count : ℕ) (setting : Setting) : Type 0 where
  pub code : IsCodeOf setting.tree compiled
  pub connectors : length (setting.ins ++ setting.outs) ≡ compiled.layout.connectors
  pub at : (k : ℕ) → k < count → IsAt setting.tree setting.ins setting.outs row k (setting.context k)
  pub bare : IsBare setting.own

-- a row of so many points of this code, with the accesses of a setting
pub record IsRowOf (setting : Setting) (code : Compiled) (row : Row) (count : ℕ) : Type 0 where
  pub plain : code.plain ≡ Some (order_of row)
  pub reads : length row.reads.items ≡ length setting.ins
  pub variables : length row.variables.items ≡ length setting.tree.variables
  pub at : (k : ℕ) → k < count → IsAt setting.tree setting.ins setting.outs row k (setting.context k)

-- the tasklet as the one item of a body
abbrev pub body_of : Setting → ItemTrees
body_of setting = and_item setting.line (task setting.tree setting.ins setting.outs) no_item

-- what a point of the row has to do
abbrev pub term_of : Setting → (k : ℕ) → Term Place
term_of setting k = owning setting.own (list_of (setting.context k) (body_of setting) (unfold_items (body_of setting) (setting.context k)))

-- what so many points from one on have to do
abbrev pub terms_from : (term : ℕ → Term Place) → (first count : ℕ) → Terms Place
terms_from term first zero = none
terms_from term first (suc count) = also (term first) (terms_from term (suc first) count)

-- what they come to from here, one after another
abbrev pub row_coming : Setting → (first count : ℕ) → Reached → (most : ℕ) → Coming Place
row_coming setting first count now most = big_parts (terms_from (term_of setting) first count) most now.memories now.turns

-- how the run of a row ends, with the place of a fault
abbrev pub end_of_row : Setting → RowEnd → End
end_of_row setting Finished = ends.Finished
end_of_row setting (Fault k kind) = ends.Fault (place_at (setting.context k) setting.line) kind
end_of_row setting OutOfTurns = ends.OutOfTurns
