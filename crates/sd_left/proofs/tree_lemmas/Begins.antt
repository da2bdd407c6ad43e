-- Work that begins is that of the graph.
use Rattle.std.proofs.Common.{◌≡◌, ℕ, zero, suc, ℤ, List, [], ◌∷◌, Bool, false, refl, ap, ap₂, ◌∙◌}
use Rattle.sd_range.specs.declared.range.Range.{Range}
use Rattle.sd_work.specs.Memory.{Memory}
use Rattle.sd_work.specs.Exit.{Values}
use Rattle.sd_work.specs.Residual.{Term, owning, nested, also}
use Rattle.sd_graph.specs.PlainTree.{ItemTrees, no_item, and_item, StateTrees, no_state, and_state, GraphTree, graph, map_scope}
use Rattle.sd_graph.specs.TreeParts.{states_of_graph, items_at}
use Rattle.sd_graph.specs.Context.{Reach, Context}
use Rattle.sd_graph.specs.Unfold.{at_point, at_state, list_of, point_terms, unfold_items, unfold_state, unfold_graph}
use Rattle.sd_graph.specs.declared.place.Frame.{Frame}
use Rattle.sd_graph.specs.declared.place.Place.{Place}
use Rattle.sd_mem.specs.machine.Coming.{point_term, state_context, state_term, exits_of}
use Rattle.sd_left.specs.tree.Standing.{ItemLeft, BodyLeft, body_left, parts_left, point_left, points_left, run_left}
use Rattle.sd_left.specs.tree.Begun.{AreBegun, IsPointBegun, ArePointsBegun, zeros}

pub items-begin : (parts : List ItemLeft) (items : ItemTrees) (context : Context) → AreBegun parts items context → parts_left parts items context ≡ unfold_items items context
items-begin [] no_item context begun = refl
items-begin [] (and_item line kind items) context begun = absurd begun
items-begin (part ∷ parts) no_item context begun = absurd begun
items-begin (part ∷ parts) (and_item line kind items) context begun = ap₂ also begun.0 (items-begin parts items context begun.1)

-- ---- points

point-begins : (sequential : Bool) (params : List (ℕ × Range)) (private : List ℕ) (items : ItemTrees) (context : Context) (numbers : List ℤ) (point : BodyLeft) → IsPointBegun params private items context numbers point
    → point_left point (map_scope sequential params private items) context ≡ point_term items params private context numbers
point-begins sequential params private items context numbers point begun =
    ap (λ (at : List ℤ). owning point.own (body_left point items (at_point context params private at))) begun.at
    ∙ ap₂ owning begun.own begun.begun

pub points-begin : (sequential : Bool) (params : List (ℕ × Range)) (private : List ℕ) (items : ItemTrees) (context : Context) (numbers : List (List ℤ)) (points : List BodyLeft)
    → ArePointsBegun params private items context numbers points
    → points_left points (map_scope sequential params private items) context ≡ point_terms (point_term items params private context) numbers
points-begin sequential params private items context [] [] begun = refl
points-begin sequential params private items context [] (point ∷ points) begun = absurd begun
points-begin sequential params private items context (at ∷ others) [] begun = absurd begun
points-begin sequential params private items context (at ∷ others) (point ∷ points) begun =
    ap₂ also (point-begins sequential params private items context at point begun.0) (points-begin sequential params private items context others points begun.1)

-- ---- states and runs

state-is : (states : StateTrees) (state : ℕ) (context : Context) → unfold_state states state context ≡ list_of context (items_at states state) (unfold_items (items_at states state) context)
state-is no_state state context = refl
state-is (and_state items exits states) zero context = refl
state-is (and_state items exits states) (suc state) context = state-is states state context

pub state-begins : (tree : GraphTree) (reach : ℕ → Reach) (around : List Frame) (state : ℕ) (values : Values)
    → state_term tree reach around state values
    ≡ list_of (state_context tree reach around state values) (items_at (states_of_graph tree) state) (unfold_items (items_at (states_of_graph tree) state) (state_context tree reach around state values))
state-begins (graph name containers arguments variables symbols states) reach around state values =
    state-is states state (at_state containers variables states reach around state values)

pub run-begins : (tree : GraphTree) (reach : ℕ → Reach) (around : List Frame) (own : Memory) (body : BodyLeft) → body.at ≡ zeros tree → body.own ≡ own
    → body_left body (items_at (states_of_graph tree) 0) (state_context tree reach around 0 (zeros tree)) ≡ state_term tree reach around 0 (zeros tree)
    → run_left (record { state = 0; ended = false; body = body }) tree reach around ≡ unfold_graph tree reach own around
run-begins (graph name containers arguments variables symbols states) reach around own body same_values same_memory same_items =
    let tree : GraphTree = graph name containers arguments variables symbols states in
    ap (λ (values : Values). nested (state_term tree reach around) (exits_of tree reach around) body.own 0 values
    (body_left body (items_at states 0) (state_context tree reach around 0 values))) same_values
    ∙ ap (λ (memory : Memory). nested (state_term tree reach around) (exits_of tree reach around) memory 0 (zeros tree)
    (body_left body (items_at states 0) (state_context tree reach around 0 (zeros tree)))) same_memory
    ∙ ap (λ (part : Term Place). nested (state_term tree reach around) (exits_of tree reach around) own 0 (zeros tree) part) same_items
