-- What a point of a map does, and an element of a consume scope.
use Rattle.std.specs.Prelude.{ℕ, ℤ, List, Bool}
use Rattle.sd_work.specs.Residual.{Items, Term, list, owning, none, also}
use Rattle.sd_subset.specs.boxes.Box.{Parameter}
use Rattle.sd_graph.specs.PlainTree.{KindTree, ItemTrees, no_item, and_item}
use Rattle.sd_graph.specs.Context.{Reach, Context, private_memory}
use Rattle.sd_graph.specs.Unfold.{at_point, at_element, element_memory, list_of, unfold_items}
use Rattle.sd_graph.specs.declared.place.Place.{Place}
use Rattle.sd_graph.specs.declared.place.Frame.{Frame}

abbrev pub point_of : List Parameter → List ℕ → ItemTrees → Context → List ℤ → Term Place
point_of params private body context point =
    owning (private_memory context.containers private) (list_of (at_point context params private point) body (unfold_items body (at_point context params private point)))

abbrev pub element_term : ℕ → List ℕ → ItemTrees → Context → ℤ → Term Place
element_term element private body context value =
    owning (element_memory context element private value) (list_of (at_element context element private value) body (unfold_items body (at_element context element private value)))

-- both terms of a point as items of one list
abbrev pub pair_of : (before : ℕ → ℕ → Bool) → (first second : List ℤ → Term Place) → List ℤ → Term Place
pair_of before first second point = list Items before (also (first point) (also (second point) none))

-- one item alone
abbrev pub alone : (line : ℕ) → KindTree → ItemTrees
alone line kind = and_item line kind no_item

-- the same context, which shows something else
abbrev pub reshown : Context → (names : List (List ℕ)) → (shown : List (List ℕ × ℤ)) → (around : List Frame) → Context
reshown context names shown around = record context { names = names; shown = shown; around = around }

-- the same context with other values
abbrev pub revalued : Context → List ℤ → Context
revalued context values = record context { values = values }

-- the same context where containers are reached otherwise
abbrev pub rereached : Context → (ℕ → Reach) → Context
rereached context reach = record context { reach = reach }
