-- Maps collapsed and expanded: when, and what stands in their place.
use Rattle.std.specs.Prelude.{◌≡◌, ◌≢◌, ℕ, List, [], ◌∷◌, ◌++◌, Bool, ◌||◌}
use Rattle.std.specs.List.{AllByRecursion}
use Rattle.sd_range.specs.declared.affine.Affine.{Affine}
use Rattle.sd_range.specs.declared.range.Range.{Range}
use Rattle.sd_graph.specs.PlainTree.{KindTree, map_scope, ItemTrees, no_item, and_item}

-- an expression, a range, or those of parameters name none of these variables
abbrev pub AffineWithout : (variables : List (ℕ × Range)) → Affine → Type 0
AffineWithout variables a = AllByRecursion (λ term. AllByRecursion (λ param. param.0 ≢ term.0) variables) a.terms

abbrev pub RangeWithout : (variables : List (ℕ × Range)) → Range → Type 0
RangeWithout variables range = AffineWithout variables range.begin × AllByRecursion (AffineWithout variables) range.ends

abbrev pub RangesWithout : (variables params : List (ℕ × Range)) → Type 0
RangesWithout variables params = AllByRecursion (λ param. RangeWithout variables param.1) params

-- its body is one map alone and it has no private container; the inner ranges name no outer parameter
pub record IsCollapsible (variables : ℕ) (kind : KindTree) : Type 0 where
  pub outer_sequential : Bool
  pub outer : List (ℕ × Range)
  pub inner_line : ℕ
  pub inner_sequential : Bool
  pub inner : List (ℕ × Range)
  pub private : List ℕ
  pub body : ItemTrees
  pub shape : kind ≡ map_scope outer_sequential outer [] (and_item inner_line (map_scope inner_sequential inner private body) no_item)
  pub apart : RangesWithout outer inner

-- one map of the outer parameters, then the inner ones; any other item stays as it is
abbrev pub collapsed : (variables line : ℕ) → KindTree → ItemTrees
collapsed variables line (map_scope outer_sequential outer [] (and_item inner_line (map_scope inner_sequential inner private body) no_item)) =
    and_item line (map_scope (outer_sequential || inner_sequential) (outer ++ inner) private body) no_item
collapsed variables line kind = and_item line kind no_item

-- it has at least two parameters; in a valid graph the ranges of a map name none of its own
pub record IsExpandable (variables : ℕ) (kind : KindTree) : Type 0 where
  pub sequential : Bool
  pub first : ℕ × Range
  pub second : ℕ × Range
  pub others : List (ℕ × Range)
  pub private : List ℕ
  pub body : ItemTrees
  pub shape : kind ≡ map_scope sequential (first ∷ second ∷ others) private body
  pub apart : RangesWithout (first ∷ []) (second ∷ others)

-- a map of the first parameter round a map of the others, which keeps the private containers; any other item stays as it is
abbrev pub expanded : (variables line : ℕ) → KindTree → ItemTrees
expanded variables line (map_scope sequential (first ∷ second ∷ others) private body) =
    and_item line (map_scope sequential (first ∷ []) [] (and_item line (map_scope sequential (second ∷ others) private body) no_item)) no_item
expanded variables line kind = and_item line kind no_item
