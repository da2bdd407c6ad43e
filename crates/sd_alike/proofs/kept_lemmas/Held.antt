-- Rules that ask something of what stands at a place, of the graph there and of what is in force there, over the whole of a graph.
use Rattle.std.proofs.Common.{◌≡◌, ℕ, suc, ◌≤◌, List, [], ◌++◌, length, Bool, true}
use Rattle.std.specs.Bool.{⊤}
use Rattle.sd_range.specs.declared.range.Range.{Range}
use Rattle.sd_graph.specs.PlainTree.{KindTree, task, map_scope, consume_scope, nested_graph, reduction, copy, ItemTrees, no_item, and_item, StateTrees, no_state, and_state, GraphTree, graph, ExitTree}
use Rattle.sd_graph.specs.TreeParts.{containers_of}
use Rattle.sd_graph.specs.InPlace.{arguments_of}
use Rattle.sd_graph.specs.ContainerParts.{Containers}
use Rattle.sd_graph.specs.Wiring.{has_number}
use Rattle.sd_graph.specs.declared.link.Link.{Link}
use Rattle.sd_validity.specs.rules.Places.{Thing, whole, leaving, doing, Place, Scopes, no_scopes, in_map, in_consume, loops_at}
use Rattle.sd_validity.specs.rules.NestedLinks.{written_by, written_in, written_of}
use Rattle.sd_alike.specs.alike.Places.{Replacing}

-- what is asked of a thing in a graph, with these loop variables and scopes about it
abbrev pub Asked : Type 0
Asked = GraphTree → (loops : List ℕ) → Scopes → Thing → Bool

-- as a rule: the places before do not matter
abbrev pub rule_of : Asked → (before : List Place) → Place → Bool
rule_of asked before place = asked place.graph place.loops place.scopes place.thing

abbrev mutual
  -- it holds of all that is in an item
  pub HoldsIn : Asked → GraphTree → (loops : List ℕ) → Scopes → KindTree → Type 0
  HoldsIn asked tree loops scopes (task code ins outs) = ⊤
  HoldsIn asked tree loops scopes (map_scope sequential params private body) = HoldsAmong asked tree loops (in_map scopes params private) body
  HoldsIn asked tree loops scopes (consume_scope stream element private body) = HoldsAmong asked tree loops (in_consume scopes element private) body
  HoldsIn asked tree loops scopes (nested_graph inner links) = HoldsAll asked inner
  HoldsIn asked tree loops scopes (reduction resolution axis identity from to) = ⊤
  HoldsIn asked tree loops scopes (copy from to) = ⊤

  -- of each of these items, and of all that is in them
  pub HoldsAmong : Asked → GraphTree → (loops : List ℕ) → Scopes → ItemTrees → Type 0
  HoldsAmong asked tree loops scopes no_item = ⊤
  HoldsAmong asked tree loops scopes (and_item line kind items) =
      (asked tree loops scopes (doing kind) ≡ true) × (HoldsIn asked tree loops scopes kind × HoldsAmong asked tree loops scopes items)

  -- of the states from this number on
  pub HoldsInStates : Asked → GraphTree → (number : ℕ) → StateTrees → Type 0
  HoldsInStates asked tree number no_state = ⊤
  HoldsInStates asked tree number (and_state items exits states) =
      (asked tree (loops_at tree number) no_scopes (leaving items exits) ≡ true) × (HoldsAmong asked tree (loops_at tree number) no_scopes items × HoldsInStates asked tree (suc number) states)

  -- of a graph, and of all that is in it
  pub HoldsAll : Asked → GraphTree → Type 0
  HoldsAll asked (graph name containers arguments variables symbols states) =
      (asked (graph name containers arguments variables symbols states) [] no_scopes whole ≡ true) × HoldsInStates asked (graph name containers arguments variables symbols states) 0 states

-- two graphs are the same from outside: their containers, how many of them are arguments, and what they write
pub record AreSameOutside (inner other : GraphTree) : Type 0 where
  pub containers : containers_of other ≡ containers_of inner
  pub arguments : arguments_of other ≡ arguments_of inner
  pub written : written_of other ≡ written_of inner

-- the same private containers and the same parameters are in force
pub record AreSameScopes (scopes others : Scopes) : Type 0 where
  pub private : (number : ℕ) → has_number others.private number ≡ has_number scopes.private number
  pub params : (number : ℕ) → has_number others.params number ≡ has_number scopes.params number

-- What is asked of a thing does not look into the items of a state or of a scope, nor at the states of the graph; of a nested graph it sees the outside, and of the scopes about it what is in force.
pub record IsLocal (asked : Asked) : Type 0 where
  pub head : (name : List ℕ) (containers : Containers) (arguments : ℕ) (variables : List (List ℕ)) (symbols : ℕ) (states after : StateTrees) (loops : List ℕ) (scopes : Scopes) (thing : Thing) →
      asked (graph name containers arguments variables symbols after) loops scopes thing ≡ asked (graph name containers arguments variables symbols states) loops scopes thing
  pub list : (tree : GraphTree) (loops : List ℕ) (scopes : Scopes) (items others : ItemTrees) (exits : List ExitTree) → asked tree loops scopes (leaving others exits) ≡ asked tree loops scopes (leaving items exits)
  pub map_body : (tree : GraphTree) (loops : List ℕ) (scopes : Scopes) (sequential : Bool) (params : List (ℕ × Range)) (private : List ℕ) (body other : ItemTrees) →
      asked tree loops scopes (doing (map_scope sequential params private other)) ≡ asked tree loops scopes (doing (map_scope sequential params private body))
  pub consume_body : (tree : GraphTree) (loops : List ℕ) (scopes : Scopes) (stream element : ℕ) (private : List ℕ) (body other : ItemTrees) →
      asked tree loops scopes (doing (consume_scope stream element private other)) ≡ asked tree loops scopes (doing (consume_scope stream element private body))
  pub inner : (tree : GraphTree) (loops : List ℕ) (scopes : Scopes) (inner other : GraphTree) (links : List Link) → AreSameOutside inner other →
      asked tree loops scopes (doing (nested_graph other links)) ≡ asked tree loops scopes (doing (nested_graph inner links))
  pub scopes : (tree : GraphTree) (loops : List ℕ) (scopes others : Scopes) (thing : Thing) → AreSameScopes scopes others → asked tree loops others thing ≡ asked tree loops scopes thing

-- more is in force: these loop variables, and those of the scopes about, are among the others
pub record IsWider (some others : List ℕ) (scopes wider : Scopes) : Type 0 where
  pub loops : (number : ℕ) → has_number some number ≡ true → has_number others number ≡ true
  pub private : (number : ℕ) → has_number scopes.private number ≡ true → has_number wider.private number ≡ true
  pub params : (number : ℕ) → has_number scopes.params number ≡ true → has_number wider.params number ≡ true

-- what is asked stays where the graph has more variables and more is in force
abbrev pub StaysWider : Asked → Type 0
StaysWider asked =
    (name : List ℕ) (containers : Containers) (arguments : ℕ) (variables more : List (List ℕ)) (symbols : ℕ) (states : StateTrees) (loops others : List ℕ) (scopes wider : Scopes) (thing : Thing) →
    length variables ≤ length more → IsWider loops others scopes wider →
    asked (graph name containers arguments variables symbols states) loops scopes thing ≡ true → asked (graph name containers arguments more symbols states) others wider thing ≡ true

-- What a replaced item must keep, in a graph of which this is known: what is asked holds of all that stands in its place, where it holds of the item and of all in it; and what is written is the same.
pub record KeepsAsked (asked : Asked) (Known : GraphTree → (variables : ℕ) → Type 0) (Holds : ℕ → KindTree → Type 0) (replacing : Replacing) : Type 0 where
  pub items : (tree : GraphTree) (loops : List ℕ) (scopes : Scopes) (variables line : ℕ) (kind : KindTree) → Known tree variables → Holds variables kind →
      asked tree loops scopes (doing kind) ≡ true → HoldsIn asked tree loops scopes kind → HoldsAmong asked tree loops scopes (replacing variables line kind)
  pub written : (variables line : ℕ) (kind : KindTree) → Holds variables kind → written_in (replacing variables line kind) ≡ written_by kind

-- of the graph nothing need be known
abbrev pub KeepsHolding : Asked → (Holds : ℕ → KindTree → Type 0) → Replacing → Type 0
KeepsHolding asked Holds replacing = KeepsAsked asked (λ tree variables. ⊤) Holds replacing

-- of a graph that gets further variables, what is asked stays, and this is known of the new one
pub record Grows (asked : Asked) (names : List (List ℕ)) (Known : GraphTree → (variables : ℕ) → Type 0) : Type 0 where
  pub stays : (name : List ℕ) (containers : Containers) (arguments : ℕ) (variables : List (List ℕ)) (symbols : ℕ) (states : StateTrees) →
      HoldsAll asked (graph name containers arguments variables symbols states) → HoldsAll asked (graph name containers arguments (variables ++ names) symbols states)
  pub known : (name : List ℕ) (containers : Containers) (arguments : ℕ) (variables : List (List ℕ)) (symbols : ℕ) (states : StateTrees) →
      HoldsAll asked (graph name containers arguments variables symbols states) → Known (graph name containers arguments (variables ++ names) symbols states) (length variables)
