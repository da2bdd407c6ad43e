-- What holds of each transition and each item of one graph, and of the graphs nested in it; so it holds throughout.
use Rattle.std.proofs.Common.{◌≡◌, ℕ, zero, suc, ◌+◌, List, [], ◌∷◌, ◌++◌, length, subst, arith}
use Rattle.std.specs.Prelude.{⊤}
use Rattle.std.specs.List.{AllByRecursion}
use Rattle.sd_graph.specs.PlainTree as plain
use Rattle.sd_graph.specs.PlainTree.{KindTree, ItemTrees, no_item, and_item, GraphTree, ExitTree}
use Rattle.sd_graph.specs.TreeFold.{PlainState, states_listed}
use Rattle.sd_graph.specs.TreeParts.{exits_at}
use Rattle.sd_validity.specs.rules.Places.{Scopes, no_scopes, in_map, in_consume}
use Rattle.sd_validity.specs.bound_places.Throughout.{InKind, InItems, InStates, Throughout}

-- of a nested graph; of a transition out of the state of this number; of an item in this state with these scopes about it
module _ (Nested : GraphTree → Type 0) (Leave : (state : ℕ) → ExitTree → Type 0) (Do : (state : ℕ) → Scopes → KindTree → Type 0) where
  abbrev mutual
    pub KindAlone : KindTree → (state : ℕ) → Scopes → Type 0
    KindAlone (plain.task code ins outs) state scopes = ⊤
    KindAlone (plain.map_scope sequential params private body) state scopes = ItemsAlone body state (in_map scopes params private)
    KindAlone (plain.consume_scope stream element private body) state scopes = ItemsAlone body state (in_consume scopes element private)
    KindAlone (plain.nested_graph inner links) state scopes = Nested inner
    KindAlone (plain.reduction resolution axis identity from to) state scopes = ⊤
    KindAlone (plain.copy from to) state scopes = ⊤

    pub ItemsAlone : ItemTrees → (state : ℕ) → Scopes → Type 0
    ItemsAlone no_item state scopes = ⊤
    ItemsAlone (and_item line kind items) state scopes = Do state scopes kind × KindAlone kind state scopes × ItemsAlone items state scopes

  -- the states from this number on
  abbrev pub StatesAlone : List PlainState → (number : ℕ) → Type 0
  StatesAlone [] number = ⊤
  StatesAlone (state ∷ states) number = AllByRecursion (Leave number) state.1 × ItemsAlone state.0 number no_scopes × StatesAlone states (suc number)

  pub states_joined : (first second : List PlainState) (number next : ℕ) → number + length first ≡ next → StatesAlone first number → StatesAlone second next → StatesAlone (first ++ second) number
  states_joined [] second number next e holds others = subst (StatesAlone second) (omega (arith, e)) others
  states_joined (state ∷ first) second number next e holds others = (holds.0, holds.1, states_joined first second (suc number) next (omega (arith, e)) holds.2 others)

  -- the transitions out of a state
  leaving_from : (states : List PlainState) (first number state : ℕ) → first + number ≡ state → StatesAlone states first → AllByRecursion (Leave state) (exits_at (states_listed states) number)
  leaving_from [] first number state e holds = tt
  leaving_from (one ∷ states) first zero state e holds = subst (λ state. AllByRecursion (Leave state) one.1) (omega (arith, e)) holds.0
  leaving_from (one ∷ states) first (suc number) state e holds = leaving_from states (suc first) number state (omega (arith, e)) holds.2

  pub leaving_at : (states : List PlainState) (state : ℕ) → StatesAlone states 0 → AllByRecursion (Leave state) (exits_at (states_listed states) state)
  leaving_at states state holds = leaving_from states 0 state state (omega arith) holds

-- ---- throughout a graph

module _ (Whole : GraphTree → Type 0) (Leaving : GraphTree → (state : ℕ) → ExitTree → Type 0) (Doing : GraphTree → (state : ℕ) → Scopes → KindTree → Type 0)
    (Leave : (state : ℕ) → ExitTree → Type 0) (Do : (state : ℕ) → Scopes → KindTree → Type 0) (tree : GraphTree)
    (leaves : (state : ℕ) (exit : ExitTree) → Leave state exit → Leaving tree state exit)
    (does : (state : ℕ) (scopes : Scopes) (kind : KindTree) → Do state scopes kind → Doing tree state scopes kind) where
  abbrev Inner : GraphTree → Type 0
  Inner inner = Throughout Whole Leaving Doing inner

  mutual
    kind_throughout : (kind : KindTree) (state : ℕ) (scopes : Scopes) → KindAlone Inner Leave Do kind state scopes → InKind Whole Leaving Doing kind tree state scopes
    kind_throughout (plain.task code ins outs) state scopes holds = tt
    kind_throughout (plain.map_scope sequential params private body) state scopes holds = items_throughout body state (in_map scopes params private) holds
    kind_throughout (plain.consume_scope stream element private body) state scopes holds = items_throughout body state (in_consume scopes element private) holds
    kind_throughout (plain.nested_graph inner links) state scopes holds = holds
    kind_throughout (plain.reduction resolution axis identity from to) state scopes holds = tt
    kind_throughout (plain.copy from to) state scopes holds = tt

    items_throughout : (items : ItemTrees) (state : ℕ) (scopes : Scopes) → ItemsAlone Inner Leave Do items state scopes → InItems Whole Leaving Doing items tree state scopes
    items_throughout no_item state scopes holds = tt
    items_throughout (and_item line kind items) state scopes holds =
        (does state scopes kind holds.0, kind_throughout kind state scopes holds.1, items_throughout items state scopes holds.2)

  exits_throughout : (state : ℕ) (exits : List ExitTree) → AllByRecursion (Leave state) exits → AllByRecursion (Leaving tree state) exits
  exits_throughout state [] all = tt
  exits_throughout state (exit ∷ exits) all = (leaves state exit all.0, exits_throughout state exits all.1)

  pub states_throughout : (states : List PlainState) (number : ℕ) → StatesAlone Inner Leave Do states number → InStates Whole Leaving Doing (states_listed states) tree number
  states_throughout [] number holds = tt
  states_throughout (state ∷ states) number holds =
      (exits_throughout number state.1 holds.0, items_throughout state.0 number no_scopes holds.1, states_throughout states (suc number) holds.2)
