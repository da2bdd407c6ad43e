-- Two states of a graph as one: when, and the states that there are then.
use Rattle.std.specs.Prelude.{◌≡◌, ◌≢◌, ℕ, zero, suc, List, [], ◌∷◌, map, None, false}
use Rattle.std.specs.List.{AllByRecursion}
use Rattle.sd_graph.specs.PlainTree.{ItemTrees, StateTrees, no_state, and_state, GraphTree, graph, ExitTree}
use Rattle.sd_graph.specs.TreeParts.{items_at, exits_at}
use Rattle.sd_alike.specs.alike.Places.{items_then}

-- the number of a state where one is gone: those above it move down by one
abbrev pub lowered : (gone number : ℕ) → ℕ
lowered zero zero = zero
lowered zero (suc number) = number
lowered (suc gone) zero = zero
lowered (suc gone) (suc number) = suc (lowered gone number)

-- a transition to a state as it is numbered then
abbrev pub exit_lowered : (gone : ℕ) → ExitTree → ExitTree
exit_lowered gone exit = record exit { to = lowered gone exit.to }

abbrev pub exits_lowered : (gone : ℕ) → List ExitTree → List ExitTree
exits_lowered gone exits = map (exit_lowered gone) exits

abbrev pub states_lowered : (gone : ℕ) → StateTrees → StateTrees
states_lowered gone no_state = no_state
states_lowered gone (and_state items exits states) = and_state items (exits_lowered gone exits) (states_lowered gone states)

-- the states without one
abbrev pub left_out : (number : ℕ) → StateTrees → StateTrees
left_out number no_state = no_state
left_out zero (and_state items exits states) = states
left_out (suc number) (and_state items exits states) = and_state items exits (left_out number states)

-- the states with other items and transitions in one
abbrev pub put_in : (number : ℕ) → ItemTrees → List ExitTree → StateTrees → StateTrees
put_in number new new_exits no_state = no_state
put_in zero new new_exits (and_state items exits states) = and_state new new_exits states
put_in (suc number) new new_exits (and_state items exits states) = and_state items exits (put_in number new new_exits states)

-- the first one's items and then the second one's, with the transitions of the second, which is gone
abbrev pub fused : (first second : ℕ) → StateTrees → StateTrees
fused first second states =
    states_lowered second (left_out second (put_in first (items_then (items_at states first) (items_at states second)) (exits_at states second) states))

-- a transition without a mark, a condition or an assignment
abbrev pub plain_exit : (to : ℕ) → ExitTree
plain_exit to = record { to = to; back = false; when = None; set = [] }

-- one transition leads from the first to the second, a plain one; it is the first one's only exit and the second one's only entry, and no run begins in the second
pub record AreFusible (first second : ℕ) (states : StateTrees) : Type 0 where
  pub step : exits_at states first ≡ plain_exit second ∷ []
  pub entry : (state : ℕ) → state ≢ first → AllByRecursion (λ exit. exit.to ≢ second) (exits_at states state)
  pub apart : first ≢ second
  pub later : second ≢ 0

-- the graph with two of its states fused
abbrev pub graph_fused : (first second : ℕ) → GraphTree → GraphTree
graph_fused first second (graph name containers arguments variables symbols states) = graph name containers arguments variables symbols (fused first second states)

abbrev pub AreStatesFusible : (first second : ℕ) → GraphTree → Type 0
AreStatesFusible first second (graph name containers arguments variables symbols states) = AreFusible first second states
