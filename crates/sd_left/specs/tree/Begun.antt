-- Work that begins.
use Rattle.std.specs.Prelude.{◌≡◌, ℕ, ℤ, pos, List, [], ◌∷◌, replicate, ⊤}
use Rattle.sd_range.specs.declared.range.Range.{Range}
use Rattle.sd_work.specs.Exit.{Values}
use Rattle.sd_graph.specs.PlainTree.{ItemTrees, no_item, and_item, GraphTree}
use Rattle.sd_graph.specs.Context.{Context, private_memory}
use Rattle.sd_graph.specs.Unfold.{at_point, list_of, unfold_kind, unfold_items}
use Rattle.sd_mem.specs.machine.Coming.{variable_count}
use Rattle.sd_left.specs.tree.Standing.{ItemLeft, BodyLeft, body_left}

-- each part is what its item unfolds to, and there are no other parts and items
abbrev pub AreBegun : List ItemLeft → ItemTrees → Context → Type 0
AreBegun [] no_item context = ⊤
AreBegun [] (and_item line kind items) context = ⊥
AreBegun (part ∷ parts) no_item context = ⊥
AreBegun (part ∷ parts) (and_item line kind items) context = (part kind line context ≡ unfold_kind kind line context) × AreBegun parts items context

-- a point of a map with its numbers and its private containers, where the items of the body begin
pub record IsPointBegun (params : List (ℕ × Range)) (private : List ℕ) (items : ItemTrees) (context : Context) (numbers : List ℤ) (point : BodyLeft) : Type 0 where
  pub at : point.at ≡ numbers
  pub own : point.own ≡ private_memory context.containers private
  pub begun : body_left point items (at_point context params private numbers)
      ≡ list_of (at_point context params private numbers) items (unfold_items items (at_point context params private numbers))

-- these points, in order
abbrev pub ArePointsBegun : (params : List (ℕ × Range)) → (private : List ℕ) → ItemTrees → Context → (points : List (List ℤ)) → List BodyLeft → Type 0
ArePointsBegun params private items context [] [] = ⊤
ArePointsBegun params private items context [] (point ∷ points) = ⊥
ArePointsBegun params private items context (at ∷ others) [] = ⊥
ArePointsBegun params private items context (at ∷ others) (point ∷ points) =
    IsPointBegun params private items context at point × ArePointsBegun params private items context others points

-- the values of the variables with which a run of a graph begins
abbrev pub zeros : GraphTree → Values
zeros tree = replicate (variable_count tree) (pos 0)
