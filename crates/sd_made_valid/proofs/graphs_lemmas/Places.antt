-- At each place of a shallow graph the graph has states, and few graphs are about it.
use Rattle.std.proofs.Common.{◌≡◌, ℕ, zero, suc, ◌+◌, ◌≤◌, nat_le, ℤ, List, [], ◌∷◌, length, Ok, true, ◌&&◌, reverse, refl, sym, subst, arith}
use Rattle.std.specs.List.{AllByRecursion}
use Rattle.std.proofs.lemmas.List.{length-reverse}
use Rattle.sd_lex.specs.PlainTree.{FunctionTree, ProgramTree}
use Rattle.sd_graph.specs.PlainTree as plain
use Rattle.sd_graph.specs.PlainTree.{ItemTrees, no_item, and_item, KindTree, StateTrees, no_state, and_state, GraphTree, graph}
use Rattle.sd_graph.specs.TreeParts.{states_of_graph, count_states}
use Rattle.sd_program.specs.Calls.{IsCallable}
use Rattle.sd_program.specs.Limits.{states_of}
use Rattle.sd_program.specs.Place.{EveryFunction}
use Rattle.sd_program.specs.WellFormed.{IsWellFormed}
use Rattle.sd_source.specs.source.SourceReading.{reads}
use Rattle.sd_read.proofs.readable_lemmas.Fields.{well_formed, functions_of_program}
use Rattle.sd_elab.specs.elab.Elaboration.{graphs_with, graph_of}
use Rattle.sd_valid.specs.BoundTree.{bound_states, bound_graph}
use Rattle.sd_valid.specs.SizeValues.{NamedSizes, sizes_in}
use Rattle.sd_valid.specs.Binding.{binding}
use Rattle.sd_validity.specs.rules.Places.{Place, Scopes, no_scopes, in_map, in_consume, item_place, state_place, graph_place, places_in, item_places, state_places, places_of, all_places}
use Rattle.sd_validity.specs.rules.WithinLimits.{is_within}
use Rattle.sd_validity.specs.bound_places.BoundPlace.{bound_place}
use Rattle.sd_validity.proofs.bound_places_lemmas.EachPlace.{all_joined}
use Rattle.sd_validity.proofs.bound_places_lemmas.Asked.{all_mapped}
use Rattle.sd_validity.proofs.bound_places_lemmas.BoundPlaces.{graph_bound}
use Rattle.sd_made.proofs.places_lemmas.Givens.{all_reversed}
use Rattle.sd_made.proofs.places_lemmas.Bound.{bound_is}
use Rattle.sd_made_valid.specs.graphs.Nesting.{is_nested_little}
use Rattle.sd_made_valid.proofs.graphs_lemmas.Nested.{KindHolds, ItemsHold, StatesHold}
use Rattle.sd_made_valid.proofs.graphs_lemmas.Shallow.{HasStates, IsShallow, states_so, AreSound, all_of, latest_shallow}

-- ---- places

-- the graph of a place has states, and no more than so many are about it
pub record IsLittle (deepest : ℕ) (place : Place) : Type 0 where
  pub states : HasStates place.graph
  pub depth : place.depth ≤ deepest

module _ (deepest : ℕ) where
  abbrev Little : Place → Type 0
  Little place = IsLittle deepest place

  -- a graph nested at this depth
  abbrev Nests : (depth : ℕ) → GraphTree → Type 0
  Nests depth tree = (path : List ℕ) → AllByRecursion Little (places_of tree path (suc depth))

  mutual
    kind_little : (kind : KindTree) (place : Place) → Little place → KindHolds (Nests place.depth) kind → AllByRecursion Little (places_in kind place)
    kind_little (plain.task code ins outs) place is holds = tt
    kind_little (plain.map_scope sequential params private body) place is holds = items_little body place (in_map place.scopes params private) 0 is holds
    kind_little (plain.consume_scope stream element private body) place is holds = items_little body place (in_consume place.scopes element private) 0 is holds
    kind_little (plain.nested_graph inner links) place is holds = holds place.path
    kind_little (plain.reduction resolution axis identity from to) place is holds = tt
    kind_little (plain.copy from to) place is holds = tt

    items_little : (items : ItemTrees) (around : Place) (scopes : Scopes) (number : ℕ) → Little around → ItemsHold (Nests around.depth) items → AllByRecursion Little (item_places items around scopes number)
    items_little no_item around scopes number is holds = tt
    items_little (and_item line kind items) around scopes number is holds =
        let place = item_place around scopes number kind in
        let here : Little place = record { states = is.states; depth = is.depth } in
        (here, all_joined Little (places_in kind place) (item_places items around scopes (suc number)) (kind_little kind place here holds.0) (items_little items around scopes (suc number) is holds.1))

  states_little : (states : StateTrees) (around : Place) (number : ℕ) → Little around → StatesHold (Nests around.depth) states → AllByRecursion Little (state_places states around number)
  states_little no_state around number is holds = tt
  states_little (and_state items exits states) around number is holds =
      let place = state_place around number items exits in
      let here : Little place = record { states = is.states; depth = is.depth } in
      (here, all_joined Little (item_places items place no_scopes 0) (state_places states around (suc number)) (items_little items place no_scopes 0 here holds.0) (states_little states around (suc number) is holds.1))

  graph_little : (tree : GraphTree) (path : List ℕ) (depth : ℕ) → HasStates tree → depth ≤ deepest → StatesHold (Nests depth) (states_of_graph tree) → AllByRecursion Little (places_of tree path depth)
  graph_little (graph name containers arguments variables symbols states) path depth has few holds =
      let place = graph_place (graph name containers arguments variables symbols states) path depth in
      let here : Little place = record { states = has; depth = few } in
      (here, states_little states place 0 here holds)

  shallow_little : (most depth : ℕ) (tree : GraphTree) (path : List ℕ) → depth + most ≤ deepest → IsShallow most tree → AllByRecursion Little (places_of tree path depth)
  shallow_little zero depth tree path few is =
      graph_little tree path depth is.0 (omega (arith, few)) (states_so (λ inner. ⊥) (Nests depth) (λ inner none. absurd none) (states_of_graph tree) is.1)
  shallow_little (suc most) depth tree path few is =
      graph_little tree path depth is.0 (omega (arith, few))
      (states_so (IsShallow most) (Nests depth) (λ inner shallow path. shallow_little most (suc depth) inner path (omega (arith, few)) shallow) (states_of_graph tree) is.1)

-- ---- with sizes

states_bound : (sizes : List ℤ) (states : StateTrees) → count_states (bound_states sizes states) ≡ count_states states
states_bound sizes no_state = refl
states_bound sizes (and_state items exits states) = omega (arith, states_bound sizes states)

graph_counted : (sizes : List ℤ) (tree : GraphTree) → count_states (states_of_graph (bound_graph sizes tree)) ≡ count_states (states_of_graph tree)
graph_counted sizes (graph name containers arguments variables symbols states) = states_bound sizes states

little_numbers : (states depth : ℕ) → 1 ≤ states → states ≤ 256 → depth ≤ 8 → (is_within 1 256 states && nat_le depth 8) ≡ true
little_numbers states depth some few shallow =
    let first : nat_le 1 states ≡ true = grind (arith, some) in
    let second : nat_le states 256 ≡ true = grind (arith, few) in
    let third : nat_le depth 8 ≡ true = grind (arith, shallow) in
    rw (first, second, third) refl

little_bound : (sizes : List ℤ) (place : Place) → IsLittle 8 place → is_nested_little (bound_place sizes place) ≡ true
little_bound sizes place is =
    rw (graph_counted sizes place.graph) (little_numbers (count_states (states_of_graph place.graph)) place.depth is.states.0 is.states.1 is.depth)

-- ---- together

all_sound : (functions : List FunctionTree) → EveryFunction IsCallable functions → AllByRecursion (λ function. states_of function ≤ 256) functions → AreSound functions
all_sound [] callable few = tt
all_sound (function ∷ above) callable few = (record { few = few.0; callable = callable.0.1 }, all_sound above callable.1 few.1)

program_shallow : (program : ProgramTree) → IsWellFormed program → 1 ≤ length program.functions → IsShallow 8 (graph_of program)
program_shallow program well some =
    latest_shallow program.symbols (reverse program.functions) (graphs_with program.symbols [] program.functions) (omega (arith, length-reverse program.functions, some))
    (all_of program.symbols program.functions [] [] refl) (all_sound (reverse program.functions) well.calls (all_reversed (λ function. states_of function ≤ 256) program.functions well.states)) well.chains

pub nested_little : (text : List ℕ) (program : ProgramTree) (known : NamedSizes) (bound : GraphTree) → reads text ≡ Ok program → binding (graph_of program) known ≡ Ok bound →
    AllByRecursion (λ place. is_nested_little place ≡ true) (all_places bound)
nested_little text program known bound read is =
    let tree : GraphTree = graph_of program in
    let sizes : List ℤ = sizes_in known tree in
    let shallow : IsShallow 8 tree = program_shallow program (well_formed text program read) (functions_of_program text program read) in
    subst (λ bound. AllByRecursion (λ place. is_nested_little place ≡ true) (all_places bound)) (bound_is tree bound known is)
    (subst (AllByRecursion (λ place. is_nested_little place ≡ true)) (sym (graph_bound sizes tree [] 0))
    (all_mapped (bound_place sizes) (Little 8) (λ place. is_nested_little place ≡ true) (little_bound sizes) (places_of tree [] 0) (shallow_little 8 8 0 tree [] (omega arith) shallow)))
