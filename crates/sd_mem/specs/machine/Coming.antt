-- What parts of a graph come to from where they stand.
use Rattle.std.specs.Prelude.{◌≡◌, ℕ, ℤ, pos, List, map, length, replicate, Option, Some, None, Ok, ⊤}
use Rattle.sd_range.specs.declared.range.Range.{Range}
use Rattle.sd_range.specs.Points.{points, ranges_of}
use Rattle.sd_work.specs.Memory.{Memories}
use Rattle.sd_work.specs.Exit.{Values, first_exit}
use Rattle.sd_work.specs.Exit as work
use Rattle.sd_work.specs.Residual.{Term}
use Rattle.sd_work.specs.BigStep.{Coming, Reached, and_then, big_step, big_states, big_parts}
use Rattle.sd_graph.specs.PlainTree.{KindTree, ItemTrees, GraphTree, graph, ExitTree}
use Rattle.sd_graph.specs.TreeParts.{exits_at}
use Rattle.sd_graph.specs.Context.{Reach, Context}
use Rattle.sd_graph.specs.Unfold.{at_state, map_at, unfold_state, unfold_kind, unfold_items, exit_of, list_of, point_terms}
use Rattle.sd_graph.specs.declared.place.Frame.{Frame}
use Rattle.sd_graph.specs.declared.place.Place.{Place}

-- what an item comes to from here
abbrev pub kind_coming : KindTree → (line : ℕ) → Context → Reached → (most : ℕ) → Coming Place
kind_coming kind line context now most = big_step (unfold_kind kind line context) most now.memories now.turns

-- what items come to from here, one after another
abbrev pub items_coming : ItemTrees → Context → Reached → (most : ℕ) → Coming Place
items_coming items context now most = big_parts (unfold_items items context) most now.memories now.turns

-- ---- maps

-- what a map does at a point
abbrev pub point_term : ItemTrees → (params : List (ℕ × Range)) → (private : List ℕ) → Context → (point : List ℤ) → Term Place
point_term body params private context point = map_at context params private (λ inside. list_of inside body (unfold_items body inside)) point

-- what a map comes to from here, with these points
abbrev pub points_coming : ItemTrees → (params : List (ℕ × Range)) → (private : List ℕ) → Context → (points : List (List ℤ)) → Reached → (most : ℕ) → Coming Place
points_coming body params private context points now most =
    big_parts (point_terms (point_term body params private context) points) most now.memories now.turns

-- with all its points
abbrev pub map_coming : ItemTrees → (params : List (ℕ × Range)) → (private : List ℕ) → Context → Reached → (most : ℕ) → Coming Place
map_coming body params private context now most =
    points_coming body params private context (points (ranges_of params) context.values) now most

-- ---- graphs

-- where the items of a state stand
abbrev pub state_context : GraphTree → (ℕ → Reach) → (around : List Frame) → (state : ℕ) → Values → Context
state_context (graph name containers arguments variables symbols states) reach around state values = at_state containers variables states reach around state values

-- what a state of a graph does
abbrev pub state_term : GraphTree → (ℕ → Reach) → (around : List Frame) → (state : ℕ) → Values → Term Place
state_term (graph name containers arguments variables symbols states) reach around state values =
    unfold_state states state (at_state containers variables states reach around state values)

-- the ways out of a state
abbrev pub exits_of : GraphTree → (ℕ → Reach) → (around : List Frame) → (state : ℕ) → Values → List (work.Exit Place)
exits_of (graph name containers arguments variables symbols states) reach around state values =
    map (exit_of (at_state containers variables states reach around state values)) (exits_at states state)

-- a run of a graph from the begin of a state on, with so many transitions, where each inner run and pool is allowed so many
abbrev pub from_state : GraphTree → (ℕ → Reach) → (around : List Frame) → (state : ℕ) → Values → Reached → (most transitions : ℕ) → Coming Place
from_state tree reach around state values now most transitions =
    and_then (big_step (state_term tree reach around state values) most now.memories now.turns)
    (big_states transitions (λ state values. big_step (state_term tree reach around state values) most) (exits_of tree reach around) state values)

-- the number of variables
abbrev pub variable_count : GraphTree → ℕ
variable_count (graph name containers arguments variables symbols states) = length variables

-- a run of a graph that begins, inside its memory
abbrev pub graph_coming : GraphTree → (ℕ → Reach) → (around : List Frame) → Reached → (most : ℕ) → Coming Place
graph_coming tree reach around now most = from_state tree reach around 0 (replicate (variable_count tree) (pos 0)) now most most

-- the exit of this number is the first that may be taken
abbrev pub IsExit : Context → Option ExitTree → List ExitTree → Memories → Type 0
IsExit context None exits memories = ⊤
IsExit context (Some exit) exits memories = first_exit (map (exit_of context) exits) memories ≡ Ok (Some (exit_of context exit))
