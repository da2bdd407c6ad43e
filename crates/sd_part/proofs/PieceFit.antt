-- A piece of an item fits where the item does, and its transitions lead as the item's.
use Rattle.std.proofs.Common.{ℕ, ℤ, List, [], ◌∷◌, ◌++◌, true, false, arith}
use Rattle.sd_range.specs.declared.range.Range.{Range}
use Rattle.sd_subset.specs.boxes.Box.{Parameter}
use Rattle.sd_subset.specs.boxes.InForce.{IsNormalRange, AreFresh}
use Rattle.sd_graph.specs.PlainTree.{KindTree, task, map_scope, consume_scope, nested_graph, reduction, copy, ItemTrees, no_item, and_item}
use Rattle.sd_graph.specs.Upwards.{KindLeadsUpwards}
use Rattle.sd_race.specs.cover.Fit.{IsFit, AreFit}
use Rattle.sd_windows.specs.MapPieces.{range_piece, params_piece, kind_piece}

-- parameters around, the outermost with a piece of its range
abbrev piece-around : (values : List ℤ) → (first count : ℕ) → Parameter → List Parameter → List Parameter
piece-around values first count param around = (param.0, range_piece values first count param.1) ∷ around

fresh-around : (values : List ℤ) (first count : ℕ) (param : Parameter) (around own : List Parameter) → AreFresh (param ∷ around) own → AreFresh (piece-around values first count param around) own
fresh-around values first count param around own h = record {
  distinct = h.distinct;
  normal = h.normal;
  others = h.others;
  outer_ranges = ((tt, (tt, tt)), h.outer_ranges.1);
  own_ranges = h.own_ranges;
}

mutual
  fit-around : (kind : KindTree) (values : List ℤ) (first count : ℕ) (param : Parameter) (around : List Parameter) → IsFit kind (param ∷ around) → IsFit kind (piece-around values first count param around)
  fit-around (task code ins outs) values first count param around h = h
  fit-around (map_scope sequential params private body) values first count param around h =
      (fresh-around values first count param around params h.0, all-fit-around body values first count param (around ++ params) h.1)
  fit-around (consume_scope stream element private body) values first count param around h = all-fit-around body values first count param around h
  fit-around (nested_graph inner links) values first count param around h = h
  fit-around (reduction resolution axis identity from to) values first count param around h = h
  fit-around (copy from to) values first count param around h = h

  all-fit-around : (items : ItemTrees) (values : List ℤ) (first count : ℕ) (param : Parameter) (around : List Parameter) → AreFit items (param ∷ around) → AreFit items (piece-around values first count param around)
  all-fit-around no_item values first count param around h = tt
  all-fit-around (and_item line kind items) values first count param around h =
      (fit-around kind values first count param around h.0, all-fit-around items values first count param around h.1)

-- a piece of a range is one in normal form, of numbers alone
normal-piece : (values : List ℤ) (first count : ℕ) (range : Range) → IsNormalRange range → IsNormalRange (range_piece values first count range)
normal-piece values first count range h = record {
  range = record { ended = omega arith; few_ends = omega arith; rises = h.range.rises };
  begin = tt;
  ends = (tt, tt);
}

fresh-piece : (values : List ℤ) (first count : ℕ) (params : List Parameter) → AreFresh [] params → AreFresh [] (params_piece values first count params)
fresh-piece values first count [] h = h
fresh-piece values first count (param ∷ params) h = record {
  distinct = h.distinct;
  normal = (normal-piece values first count param.1 h.normal.0, h.normal.1);
  others = tt;
  outer_ranges = tt;
  own_ranges = ((tt, (tt, tt)), h.own_ranges.1);
}

map-fit : (values : List ℤ) (first count : ℕ) (params : List Parameter) (body : ItemTrees) → AreFit body params → AreFit body (params_piece values first count params)
map-fit values first count [] body h = h
map-fit values first count (param ∷ params) body h = all-fit-around body values first count param params h

pub piece-fits : (kind : KindTree) (values : List ℤ) (first count : ℕ) → IsFit kind [] → IsFit (kind_piece values first count kind) []
piece-fits (task code ins outs) values first count h = h
piece-fits (map_scope true params private body) values first count h = h
piece-fits (map_scope false params private body) values first count h = (fresh-piece values first count params h.0, map-fit values first count params body h.1)
piece-fits (consume_scope stream element private body) values first count h = h
piece-fits (nested_graph inner links) values first count h = h
piece-fits (reduction resolution axis identity from to) values first count h = h
piece-fits (copy from to) values first count h = h

pub piece-leads : (kind : KindTree) (values : List ℤ) (first count : ℕ) → KindLeadsUpwards kind → KindLeadsUpwards (kind_piece values first count kind)
piece-leads (task code ins outs) values first count h = h
piece-leads (map_scope true params private body) values first count h = h
piece-leads (map_scope false params private body) values first count h = h
piece-leads (consume_scope stream element private body) values first count h = h
piece-leads (nested_graph inner links) values first count h = h
piece-leads (reduction resolution axis identity from to) values first count h = h
piece-leads (copy from to) values first count h = h
