-- Pieces of a map: so many values of its first parameter each, one piece after another.
use Rattle.std.specs.Prelude.{◌≡◌, ℕ, zero, suc, ◌+◌, ◌≤◌, ℤ, pos, ◌+ℤ◌, ◌-ℤ◌, ◌*ℤ◌, ◌<ℤ◌, List, [], ◌∷◌, ◌++◌, map, length, sum, true, false, ⊤}
use Rattle.sd_range.specs.declared.affine.Affine.{Affine}
use Rattle.sd_range.specs.declared.range.Range.{Range}
use Rattle.sd_range.specs.Affine.{affine_value}
use Rattle.sd_range.specs.Range.{range_values}
use Rattle.sd_work.specs.Residual.{Term, owning}
use Rattle.sd_pieces.specs.history.Pieces.{Piece}
use Rattle.sd_graph.specs.PlainTree.{KindTree, task, map_scope, consume_scope, nested_graph, reduction, copy, ItemTrees, no_item, and_item}
use Rattle.sd_graph.specs.Context.{Context, private_memory}
use Rattle.sd_graph.specs.Unfold.{unfold_kind, unfold_items, list_of, at_point}
use Rattle.sd_graph.specs.declared.place.Place.{Place}

-- ---- one piece

-- an expression that is a number
abbrev pub number : ℤ → Affine
number value = record { constant = value; terms = [] }

-- the last of so many numbers from a begin on, a step apart; where there is none, a number before the begin
abbrev pub last_of : (begin step : ℤ) → (count : ℕ) → ℤ
last_of begin step zero = begin -ℤ pos 1
last_of begin step (suc more) = begin +ℤ (pos more *ℤ step)

-- so many of a range's values, from the one of this number on
abbrev pub range_piece : (values : List ℤ) → (first count : ℕ) → Range → Range
range_piece values first count range = record {
  begin = number (affine_value values range.begin +ℤ (pos first *ℤ range.step));
  ends = number (last_of (affine_value values range.begin +ℤ (pos first *ℤ range.step)) range.step count) ∷ [];
  step = range.step;
}

-- parameters, the first one with so many of its values
abbrev pub params_piece : (values : List ℤ) → (first count : ℕ) → List (ℕ × Range) → List (ℕ × Range)
params_piece values first count [] = []
params_piece values first count (param ∷ params) = (param.0, range_piece values first count param.1) ∷ params

-- a piece of a map whose points are in any order; a sequential map, and any other item, is one piece as it is
abbrev pub kind_piece : (values : List ℤ) → (first count : ℕ) → KindTree → KindTree
kind_piece values first count (task code ins outs) = task code ins outs
kind_piece values first count (map_scope true params private body) = map_scope true params private body
kind_piece values first count (map_scope false params private body) = map_scope false (params_piece values first count params) private body
kind_piece values first count (consume_scope stream element private body) = consume_scope stream element private body
kind_piece values first count (nested_graph inner links) = nested_graph inner links
kind_piece values first count (reduction resolution axis identity from to) = reduction resolution axis identity from to
kind_piece values first count (copy from to) = copy from to

-- what a map has to do at a point
abbrev pub at_each : Context → (params : List (ℕ × Range)) → (private : List ℕ) → ItemTrees → (point : List ℤ) → Term Place
at_each context params private body point =
    owning (private_memory context.containers private) (list_of (at_point context params private point) body (unfold_items body (at_point context params private point)))

-- the first parameter has so many values from the one of this number on, and its range rises
abbrev pub HasValues : (values : List ℤ) → (params : List (ℕ × Range)) → (first count : ℕ) → Type 0
HasValues values [] first count = ⊤
HasValues values (param ∷ params) first count = (pos 0 <ℤ param.1.step) × (first + count ≤ length (range_values values param.1))

-- ---- all pieces

-- pieces that follow each other, with so many values of the first parameter each, from the one of this number on
abbrev pub pieces_from : (values : List ℤ) → (first : ℕ) → (counts : List ℕ) → KindTree → List KindTree
pieces_from values first [] kind = []
pieces_from values first (count ∷ counts) kind = kind_piece values first count kind ∷ pieces_from values (first + count) counts kind

-- the pieces of an item: those of a map whose points are in any order; a sequential map, and any other item, is one
abbrev pub kind_pieces : (values : List ℤ) → (counts : List ℕ) → KindTree → List KindTree
kind_pieces values counts (task code ins outs) = task code ins outs ∷ []
kind_pieces values counts (map_scope true params private body) = map_scope true params private body ∷ []
kind_pieces values counts (map_scope false params private body) = pieces_from values 0 counts (map_scope false params private body)
kind_pieces values counts (consume_scope stream element private body) = consume_scope stream element private body ∷ []
kind_pieces values counts (nested_graph inner links) = nested_graph inner links ∷ []
kind_pieces values counts (reduction resolution axis identity from to) = reduction resolution axis identity from to ∷ []
kind_pieces values counts (copy from to) = copy from to ∷ []

-- what the pieces of the items of a list have to do, in order; the items are numbered from this one on, and for each there are the numbers of values of its pieces
abbrev pub pieces_of_items : (counts : ℕ → List ℕ) → (item : ℕ) → ItemTrees → Context → List (Piece Place)
pieces_of_items counts item no_item context = []
pieces_of_items counts item (and_item line kind items) context =
    map (λ piece. record { item = item; term = unfold_kind piece line context }) (kind_pieces context.values (counts item) kind) ++ pieces_of_items counts (suc item) items context

-- numbers of values that are all values of the first parameter together, where its range rises
abbrev pub HaveAllValues : (values : List ℤ) → (counts : List ℕ) → (params : List (ℕ × Range)) → Type 0
HaveAllValues values counts [] = ⊥
HaveAllValues values counts (param ∷ params) = (pos 0 <ℤ param.1.step) × (sum counts ≡ length (range_values values param.1))

-- so it is for an item that is cut
abbrev pub CutsAll : (values : List ℤ) → (counts : List ℕ) → KindTree → Type 0
CutsAll values counts (task code ins outs) = ⊤
CutsAll values counts (map_scope true params private body) = ⊤
CutsAll values counts (map_scope false params private body) = HaveAllValues values counts params
CutsAll values counts (consume_scope stream element private body) = ⊤
CutsAll values counts (nested_graph inner links) = ⊤
CutsAll values counts (reduction resolution axis identity from to) = ⊤
CutsAll values counts (copy from to) = ⊤

-- and for each item of a list
abbrev pub CutAllItems : (values : List ℤ) → (counts : ℕ → List ℕ) → (item : ℕ) → ItemTrees → Type 0
CutAllItems values counts item no_item = ⊤
CutAllItems values counts item (and_item line kind items) = CutsAll values (counts item) kind × CutAllItems values counts (suc item) items
