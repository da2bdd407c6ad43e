-- The states of a graph, state by state.
use Rattle.std.proofs.Common.{◌≡◌, ℕ, zero, suc, ◌+◌, List, [], ◌∷◌, ◌++◌, length, refl, subst, arith}
use Rattle.std.specs.Bool.{⊤}
use Rattle.sd_lex.specs.PlainTree.{StatementTree, argument_array, local_array, local_stream, for_loop, while_loop, branch, Block, no_statement, and_statement}
use Rattle.sd_graph.specs.PlainTree.{StateTrees, ItemTrees, ExitTree, GraphTree}
use Rattle.sd_graph.specs.TreeFold.{PlainState, states_listed}
use Rattle.sd_graph.specs.TreeParts.{items_at, exits_at}
use Rattle.sd_program.specs.Names.{Name}
use Rattle.sd_elab.specs.states.Standing.{Standing, behind}
use Rattle.sd_elab.specs.states.States.{chained, chained_all}

-- the state of this number has these items and transitions
abbrev pub IsState : StateTrees → ℕ → PlainState → Type 0
IsState states number state = (items_at states number ≡ state.0) × (exits_at states number ≡ state.1)

-- these are the states from this next one on, less one
abbrev pub Has : StateTrees → (next : ℕ) → List PlainState → Type 0
Has states next [] = ⊤
Has states next (state ∷ rest) = ((number : ℕ) → number + 1 ≡ next → IsState states number state) × Has states (next + 1) rest

pub has_first : (states : StateTrees) (next : ℕ) (first second : List PlainState) → Has states next (first ++ second) → Has states next first
has_first states next [] second h = tt
has_first states next (state ∷ first) second h = (h.0, has_first states (next + 1) first second h.1)

pub has_second : (states : StateTrees) (next : ℕ) (first second : List PlainState) → Has states next (first ++ second) → Has states (next + length first) second
has_second states next [] second h = let e : next ≡ next + 0 = omega arith in subst (λ number. Has states number second) e h
has_second states next (state ∷ first) second h =
    let e : (next + 1) + length first ≡ next + suc (length first) = omega arith in
    subst (λ number. Has states number second) e (has_second states (next + 1) first second h.1)

-- a list of states has them
has_behind : (items : ItemTrees) (exits : List ExitTree) (states : List PlainState) (k : ℕ) (listed : List PlainState) → Has (states_listed states) (k + 1) listed → Has (states_listed ((items, exits) ∷ states)) (k + 1 + 1) listed
has_behind items exits states k [] h = tt
has_behind items exits states k (state ∷ listed) h = (here, has_behind items exits states (k + 1) listed h.1)
  where
    here : (number : ℕ) → number + 1 ≡ k + 1 + 1 → IsState (states_listed ((items, exits) ∷ states)) number state
    here zero e = absurd (omega (arith, e))
    here (suc number) e = h.0 number (omega (arith, e))

pub has_all : (states : List PlainState) → Has (states_listed states) 1 states
has_all [] = tt
has_all (state ∷ states) = (here, has_behind state.0 state.1 states 0 states (has_all states))
  where
    here : (number : ℕ) → number + 1 ≡ 1 → IsState (states_listed (state ∷ states)) number state
    here zero e = (refl, refl)
    here (suc number) e = absurd (omega (arith, e))

-- ---- what statements make begins with the items that stand there

abbrev pub BeginsWith : ItemTrees → List PlainState → Type 0
BeginsWith items listed = (exits : List ExitTree) × (rest : List PlainState) × (listed ≡ (items, exits) ∷ rest)

module _ (graphs : Name → GraphTree) where
  abbrev pub Begins : (ItemTrees → List PlainState) → Type 0
  Begins rest = (items : ItemTrees) → BeginsWith items (rest items)

  pub one_begins : (first : StatementTree) (at : Standing) (items : ItemTrees) (rest : ItemTrees → List PlainState) → Begins rest → BeginsWith items (chained graphs first at items rest)
  one_begins (argument_array line name bits extents) at items rest begins = begins items
  one_begins (local_array line name extents bits) at items rest begins = begins items
  one_begins (local_stream line name bits size) at items rest begins = begins items
  one_begins (branch line when body other) at items rest begins = (_, _, refl)
  one_begins (while_loop line when body) at items rest begins = (_, _, refl)
  one_begins (for_loop line name begin end step body) at items rest begins = (_, _, refl)
  one_begins statement at items rest begins = (_, _, refl)

  pub all_begins : (block : Block) (at : Standing) (items : ItemTrees) (exits : List ExitTree) → BeginsWith items (chained_all graphs block at items exits)
  all_begins no_statement at items exits = (exits, [], refl)
  all_begins (and_statement first rest) at items exits = one_begins first at items (λ items. chained_all graphs rest (behind first at) items exits) (λ items. all_begins rest (behind first at) items exits)

-- the items of the first state
pub begin_items : (states : StateTrees) (next : ℕ) (items : ItemTrees) (listed : List PlainState) → BeginsWith items listed → Has states next listed → (number : ℕ) → number + 1 ≡ next → items_at states number ≡ items
begin_items states next items listed (exits, rest, e) h number n = go (subst (Has states next) e h)
  where
    go : Has states next ((items, exits) ∷ rest) → items_at states number ≡ items
    go has = (has.0 number n).0
