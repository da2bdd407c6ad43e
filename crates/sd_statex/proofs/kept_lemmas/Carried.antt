-- What holds of all that is in a graph, told of each of its states, and carried to the graph with other states.
use Rattle.std.proofs.Common.{◌≡◌, ℕ, zero, suc, ◌+◌, ◌<◌, List, true, ◌∙◌, arith}
use Rattle.sd_graph.specs.PlainTree.{KindTree, task, map_scope, consume_scope, nested_graph, reduction, copy, ItemTrees, no_item, and_item, StateTrees, no_state, and_state, GraphTree, graph, ExitTree}
use Rattle.sd_graph.specs.TreeParts.{items_at, exits_at, count_states}
use Rattle.sd_graph.specs.ContainerParts.{Containers}
use Rattle.sd_graph.specs.Wiring.{has_number}
use Rattle.sd_validity.specs.rules.Places.{Thing, leaving, doing, Scopes, no_scopes, in_map, in_consume, loops_at}
use Rattle.sd_alike.proofs.kept_lemmas.Held.{Asked, HoldsIn, HoldsAmong, HoldsInStates, IsLocal, StaysWider}

-- ---- of each state

-- what is asked holds of a state with these items and transitions, and of all in it
abbrev pub HoldsState : Asked → GraphTree → (state : ℕ) → ItemTrees → List ExitTree → Type 0
HoldsState asked tree state items exits =
    (asked tree (loops_at tree state) no_scopes (leaving items exits) ≡ true) × HoldsAmong asked tree (loops_at tree state) no_scopes items

-- the number of a state that stands so many behind the one of a number
abbrev pub behind : (state number : ℕ) → ℕ
behind zero number = number
behind (suc state) number = behind state (suc number)

pub behind_none : (state : ℕ) → behind state 0 ≡ state
behind_none state = sum state 0 ∙ (omega arith)
  where
    sum : (state number : ℕ) → behind state number ≡ state + number
    sum zero number = omega arith
    sum (suc state) number = sum state (suc number) ∙ (omega arith)

pub each_state : (asked : Asked) (tree : GraphTree) (number : ℕ) (states : StateTrees) → HoldsInStates asked tree number states → (state : ℕ) → state < count_states states →
    HoldsState asked tree (behind state number) (items_at states state) (exits_at states state)
each_state asked tree number no_state holds state below = absurd (omega (arith, below))
each_state asked tree number (and_state items exits states) holds zero below = (holds.0, holds.1.0)
each_state asked tree number (and_state items exits states) holds (suc state) below = each_state asked tree (suc number) states holds.1.1 state (omega (arith, below))

pub all_states : (asked : Asked) (tree : GraphTree) (number : ℕ) (states : StateTrees) →
    ((state : ℕ) → state < count_states states → HoldsState asked tree (behind state number) (items_at states state) (exits_at states state)) → HoldsInStates asked tree number states
all_states asked tree number no_state each = tt
all_states asked tree number (and_state items exits states) each =
    let first = each 0 (omega arith) in
    (first.0, (first.1, all_states asked tree (suc number) states (λ state below. each (suc state) (omega (arith, below)))))

-- ---- to other states

module _ (asked : Asked) (local : IsLocal asked) (stays : StaysWider asked)
    (name : List ℕ) (containers : Containers) (arguments : ℕ) (variables : List (List ℕ)) (symbols : ℕ) (states after : StateTrees) where
  abbrev here : GraphTree
  here = graph name containers arguments variables symbols states

  abbrev there : GraphTree
  there = graph name containers arguments variables symbols after

  -- these loop variables are among the others
  abbrev pub AreAmongLoops : (loops others : List ℕ) → Type 0
  AreAmongLoops loops others = (number : ℕ) → has_number loops number ≡ true → has_number others number ≡ true

  pub thing_carried : (loops others : List ℕ) → AreAmongLoops loops others → (scopes : Scopes) (thing : Thing) → asked here loops scopes thing ≡ true → asked there others scopes thing ≡ true
  thing_carried loops others among scopes thing is =
      local.head name containers arguments variables symbols states after others scopes thing
      ∙ stays name containers arguments variables variables symbols states loops others scopes scopes thing (omega arith)
      (record { loops = among; private = λ number there. there; params = λ number there. there }) is

  module _ (loops others : List ℕ) (among : AreAmongLoops loops others) where
    mutual
      in_carried : (scopes : Scopes) (kind : KindTree) → HoldsIn asked here loops scopes kind → HoldsIn asked there others scopes kind
      in_carried scopes (task code ins outs) holds = tt
      in_carried scopes (map_scope sequential params private body) holds = among_carried (in_map scopes params private) body holds
      in_carried scopes (consume_scope stream element private body) holds = among_carried (in_consume scopes element private) body holds
      in_carried scopes (nested_graph inner links) holds = holds
      in_carried scopes (reduction resolution axis identity from to) holds = tt
      in_carried scopes (copy from to) holds = tt

      pub among_carried : (scopes : Scopes) (items : ItemTrees) → HoldsAmong asked here loops scopes items → HoldsAmong asked there others scopes items
      among_carried scopes no_item holds = tt
      among_carried scopes (and_item line kind items) holds =
          (thing_carried loops others among scopes (doing kind) holds.0, (in_carried scopes kind holds.1.0, among_carried scopes items holds.1.1))

  -- some of the states, where as many loop variables are in force in each, or more
  pub states_carried : ((state : ℕ) → AreAmongLoops (loops_at here state) (loops_at there state)) → (number : ℕ) (some : StateTrees) → HoldsInStates asked here number some → HoldsInStates asked there number some
  states_carried among number no_state holds = tt
  states_carried among number (and_state items exits some) holds = (
    thing_carried (loops_at here number) (loops_at there number) (among number) no_scopes (leaving items exits) holds.0,
    (among_carried (loops_at here number) (loops_at there number) (among number) no_scopes items holds.1.0, states_carried among (suc number) some holds.1.1),
  )
