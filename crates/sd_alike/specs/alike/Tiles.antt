-- A map of one parameter cut into tiles: when, and what stands in its place.
use Rattle.std.specs.Prelude.{◌≡◌, ℕ, ◌<◌, ◌-◌, ℤ, pos, ◌*ℤ◌, ◌<ℤ◌, Bool, List, [], ◌∷◌, ◌++◌, length}
use Rattle.sd_range.specs.declared.affine.Affine.{Affine}
use Rattle.sd_range.specs.declared.range.Range.{Range}
use Rattle.sd_graph.specs.PlainTree.{KindTree, map_scope, ItemTrees, no_item, and_item}

-- a variable and a number
abbrev pub variable_plus : (variable : ℕ) → ℤ → Affine
variable_plus variable number = record { constant = number; terms = (variable, pos 1) ∷ [] }

-- the begins of the tiles
abbrev pub range_of_tiles : (size : ℕ) → Range → Range
range_of_tiles size range = record { begin = range.begin; ends = range.ends; step = range.step *ℤ pos size }

-- the values of the tile that begins at the value of a variable: so many, as far as the range goes
abbrev pub range_in_tile : (size variable : ℕ) → Range → Range
range_in_tile size variable range =
    record { begin = variable_plus variable (pos 0); ends = range.ends ++ variable_plus variable (range.step *ℤ pos (size - 1)) ∷ []; step = range.step }

-- it has one parameter, whose range has an end and a step of at least 1; a tile has at least one value
pub record IsTileable (size variables : ℕ) (kind : KindTree) : Type 0 where
  pub sequential : Bool
  pub parameter : ℕ
  pub range : Range
  pub private : List ℕ
  pub body : ItemTrees
  pub shape : kind ≡ map_scope sequential ((parameter, range) ∷ []) private body
  pub ended : 0 < length range.ends
  pub rises : pos 0 <ℤ range.step
  pub sized : 0 < size

-- a map over the tiles, with a fresh parameter, round a map over the values of a tile, which keeps the private containers; any other item stays as it is
abbrev pub tiled : (size : ℕ) → (variables line : ℕ) → KindTree → ItemTrees
tiled size variables line (map_scope sequential ((parameter, range) ∷ []) private body) =
    and_item line (map_scope sequential ((variables, range_of_tiles size range) ∷ []) [] (and_item line (map_scope sequential ((parameter, range_in_tile size variables range) ∷ []) private body) no_item)) no_item
tiled size variables line kind = and_item line kind no_item
