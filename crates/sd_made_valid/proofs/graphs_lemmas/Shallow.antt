-- The graph of a program that calls shallowly nests graphs no more deeply, each with states.
use Rattle.std.proofs.Common.{◌≡◌, ◌∙◌, ℕ, zero, suc, ◌+◌, ◌≤◌, List, [], ◌∷◌, length, Option, Some, unwrap_or, Bool, true, false, cond, bytes_eq, refl, sym, subst, arith}
use mathlib.Core.List.{reverse_aux}
use Rattle.std.specs.Prelude.{⊤}
use Rattle.std.proofs.Math.Nat.{le-max_left, le-max_right}
use Rattle.sd_lex.specs.PlainTree.{StatementTree, map_scope, consume_scope, call, for_loop, while_loop, branch, Block, no_statement, and_statement, FunctionTree}
use Rattle.sd_lex.specs.StatementKind.{has_connector}
use Rattle.sd_graph.specs.PlainTree as plain
use Rattle.sd_graph.specs.PlainTree.{ItemTrees, no_item, and_item, KindTree, StateTrees, no_state, and_state, GraphTree, graph}
use Rattle.sd_graph.specs.TreeFold.{states_listed}
use Rattle.sd_graph.specs.TreeParts.{states_of_graph, count_states}
use Rattle.sd_program.specs.Names.{Name, Named, in_force}
use Rattle.sd_program.specs.Calls.{argument_counts, IsCallable, calls_in, calls_in_all, call_depths, CallShallowly}
use Rattle.sd_program.specs.Declared.{containers_in_all, states_in_all}
use Rattle.sd_program.specs.Limits.{states_of}
use Rattle.sd_program.specs.Place.{Place, past, past_all, in_map, in_loop, in_consume, in_function, EveryAt, EveryFrom}
use Rattle.sd_elab.specs.items.Graphs.{no_graph, graph_named}
use Rattle.sd_elab.specs.elab.Elaboration.{start_of, states_of_function, function_graph, graphs_with, latest}
use Rattle.sd_made.proofs.elab_lemmas.StateCounts.{all_counted}
use Rattle.sd_made.proofs.elab_lemmas.StateLists.{states_counted}
use Rattle.sd_made_valid.proofs.graphs_lemmas.Nested.{KindHolds, ItemsHold, StatesHold, CallsHold, AllCallsHold, block_holds}

-- ---- shallow graphs

-- at least one state, and at most 256
abbrev pub HasStates : GraphTree → Type 0
HasStates tree = (1 ≤ count_states (states_of_graph tree)) × (count_states (states_of_graph tree) ≤ 256)

-- so it is of a graph and of those nested in it, of which no more than so many stand in one another
abbrev pub IsShallow : (most : ℕ) → GraphTree → Type 0
IsShallow zero tree = HasStates tree × StatesHold (λ inner. ⊥) (states_of_graph tree)
IsShallow (suc most) tree = HasStates tree × StatesHold (IsShallow most) (states_of_graph tree)

module _ (First Second : GraphTree → Type 0) (so : (tree : GraphTree) → First tree → Second tree) where
  mutual
    kind_so : (kind : KindTree) → KindHolds First kind → KindHolds Second kind
    kind_so (plain.task code ins outs) holds = tt
    kind_so (plain.map_scope sequential params private body) holds = items_so body holds
    kind_so (plain.consume_scope stream element private body) holds = items_so body holds
    kind_so (plain.nested_graph inner links) holds = so inner holds
    kind_so (plain.reduction resolution axis identity from to) holds = tt
    kind_so (plain.copy from to) holds = tt

    items_so : (items : ItemTrees) → ItemsHold First items → ItemsHold Second items
    items_so no_item holds = tt
    items_so (and_item line kind items) holds = (kind_so kind holds.0, items_so items holds.1)

  pub states_so : (states : StateTrees) → StatesHold First states → StatesHold Second states
  states_so no_state holds = tt
  states_so (and_state items exits states) holds = (items_so items holds.0, states_so states holds.1)

pub deeper : (less more : ℕ) → less ≤ more → (tree : GraphTree) → IsShallow less tree → IsShallow more tree
deeper zero zero few tree is = is
deeper zero (suc more) few tree is = (is.0, states_so (λ inner. ⊥) (IsShallow more) (λ inner none. absurd none) (states_of_graph tree) is.1)
deeper (suc less) zero few tree is = absurd (omega (arith, few))
deeper (suc less) (suc more) few tree is = (is.0, states_so (IsShallow less) (IsShallow more) (deeper less more (omega (arith, few))) (states_of_graph tree) is.1)

-- ---- calls

-- what a call is of is nested less than so deeply, where the depths of the programs above are known
module _ (programs : List FunctionTree) (graphs : Name → GraphTree)
    (known : (name : Name) (count : ℕ) → in_force (argument_counts programs) name ≡ Some count → IsShallow (unwrap_or (in_force (call_depths programs) name) 0) (graphs name)) where
  abbrev Less : (most : ℕ) → GraphTree → Type 0
  Less zero tree = ⊥
  Less (suc most) tree = IsShallow most tree

  abbrev depths : Named ℕ
  depths = call_depths programs

  less : (depth most : ℕ) (tree : GraphTree) → depth + 1 ≤ most → IsShallow depth tree → Less most tree
  less depth zero tree few is = absurd (omega (arith, few))
  less depth (suc most) tree few is = deeper depth most (omega (arith, few)) tree is

  consumed : (is_task : Bool) (element : Name) (place : Place) → place.programs ≡ programs → (in_consume is_task element place).programs ≡ programs
  consumed true element place same = same
  consumed false element place same = same

  mutual
    called_at : (most : ℕ) (place : Place) (statement : StatementTree) → place.programs ≡ programs → EveryAt IsCallable place statement → calls_in depths statement ≤ most → CallsHold (Less most) graphs statement
    called_at most place (call line name arguments) same callable few =
        less (unwrap_or (in_force depths name) 0) most (graphs name) few
        (known name (length arguments) (subst (λ programs. in_force (argument_counts programs) name ≡ Some (length arguments)) same callable))
    called_at most place (map_scope line parameters ranges body) same callable few = called_from most (in_map place) body same callable.1 few
    called_at most place (consume_scope line stream size name element worker body) same callable few =
        called_from most (in_consume (has_connector body) element place) body (consumed (has_connector body) element place same) callable.1 few
    called_at most place (for_loop line name begin end step body) same callable few = called_from most (in_loop place) body same callable.1 few
    called_at most place (while_loop line when body) same callable few = called_from most (in_loop place) body same callable.1 few
    called_at most place (branch line when body other) same callable few = (
      called_from most place body same callable.1.0 (omega (arith, few, le-max_left (calls_in_all depths body) (calls_in_all depths other))),
      called_from most (past_all body place) other same callable.1.1 (omega (arith, few, le-max_right (calls_in_all depths body) (calls_in_all depths other))),
    )
    called_at most place statement same callable few = tt

    pub called_from : (most : ℕ) (place : Place) (block : Block) → place.programs ≡ programs → EveryFrom IsCallable place block → calls_in_all depths block ≤ most → AllCallsHold (Less most) graphs block
    called_from most place no_statement same callable few = tt
    called_from most place (and_statement first rest) same callable few = (
      called_at most place first same callable.0 (omega (arith, few, le-max_left (calls_in depths first) (calls_in_all depths rest))),
      called_from most (past first place) rest same callable.1 (omega (arith, few, le-max_right (calls_in depths first) (calls_in_all depths rest))),
    )

-- ---- the graph of a program

-- a program has a state of its own, and few states
has_states : (symbols : List Name) (graphs : Name → GraphTree) (function : FunctionTree) → states_of function ≤ 256 → HasStates (function_graph symbols graphs function)
has_states symbols graphs function few =
    let made = states_of_function symbols graphs function in
    let counted : count_states (states_listed made) ≡ 1 + states_in_all function.body =
    states_counted made ∙ all_counted graphs function.body (start_of symbols function) no_item [] ∙ omega arith in
    (omega (arith, counted), omega (arith, counted, few))

-- nothing is nested in a graph without calls, and less in others
nested_less : (most : ℕ) (programs : List FunctionTree) (graphs : Name → GraphTree)
    (known : (name : Name) (count : ℕ) → in_force (argument_counts programs) name ≡ Some count → IsShallow (unwrap_or (in_force (call_depths programs) name) 0) (graphs name)) (tree : GraphTree) →
    HasStates tree → StatesHold (Less programs graphs known most) (states_of_graph tree) → IsShallow most tree
nested_less zero programs graphs known tree has holds = (has, holds)
nested_less (suc most) programs graphs known tree has holds = (has, holds)

pub function_shallow : (symbols : List Name) (programs : List FunctionTree) (graphs : Name → GraphTree)
    (known : (name : Name) (count : ℕ) → in_force (argument_counts programs) name ≡ Some count → IsShallow (unwrap_or (in_force (call_depths programs) name) 0) (graphs name)) (function : FunctionTree) →
    states_of function ≤ 256 → EveryFrom IsCallable (in_function programs function.arguments) function.body →
    IsShallow (calls_in_all (call_depths programs) function.body) (function_graph symbols graphs function)
function_shallow symbols programs graphs known function few callable =
    let most : ℕ = calls_in_all (call_depths programs) function.body in
    nested_less most programs graphs known (function_graph symbols graphs function) (has_states symbols graphs function few)
    (block_holds (Less programs graphs known most) graphs function.body (start_of symbols function) no_item []
    (called_from programs graphs known most (in_function programs function.arguments) function.body refl callable (omega arith)) tt)

-- ---- the graphs of programs

-- each has states and calls what is above
pub record IsSound (above : List FunctionTree) (function : FunctionTree) : Type 0 where
  pub few : states_of function ≤ 256
  pub callable : EveryFrom IsCallable (in_function above function.arguments) function.body

abbrev pub AreSound : List FunctionTree → Type 0
AreSound [] = ⊤
AreSound (function ∷ above) = IsSound above function × AreSound above

-- graphs, the latest first, are those of the programs above
abbrev pub AreOf : (symbols : List Name) → List FunctionTree → Named GraphTree → Type 0
AreOf symbols [] graphs = graphs ≡ []
AreOf symbols (function ∷ above) graphs = (before : Named GraphTree) × ((graphs ≡ (function.name, function_graph symbols (graph_named before) function) ∷ before) × AreOf symbols above before)

named_first : (same : Bool) (count : ℕ) (counts : Option ℕ) (depth : ℕ) (depths : Option ℕ) (of : GraphTree) (others : Option GraphTree) (found : ℕ) → IsShallow depth of →
    (counts ≡ Some found → IsShallow (unwrap_or depths 0) (unwrap_or others no_graph)) → cond same (Some count) counts ≡ Some found →
    IsShallow (unwrap_or (cond same (Some depth) depths) 0) (unwrap_or (cond same (Some of) others) no_graph)
named_first true count counts depth depths of others found is rest e = is
named_first false count counts depth depths of others found is rest e = rest e

graphs_known : (symbols : List Name) (above : List FunctionTree) (graphs : Named GraphTree) → AreSound above → AreOf symbols above graphs → (name : Name) (count : ℕ) →
    in_force (argument_counts above) name ≡ Some count → IsShallow (unwrap_or (in_force (call_depths above) name) 0) (graph_named graphs name)
graphs_known symbols [] graphs sound of name count e = cc
graphs_known symbols (function ∷ above) graphs sound (before, (same, of)) name count e =
    subst (λ graphs. IsShallow (unwrap_or (in_force (call_depths (function ∷ above)) name) 0) (graph_named graphs name)) (sym same)
    (named_first (bytes_eq name function.name) (containers_in_all function.arguments) (in_force (argument_counts above) name) (calls_in_all (call_depths above) function.body) (in_force (call_depths above) name)
    (function_graph symbols (graph_named before) function) (in_force before name) count
    (function_shallow symbols above (graph_named before) (graphs_known symbols above before sound.1 of) function sound.0.few sound.0.callable) (graphs_known symbols above before sound.1 of name count) e)

first_known : (symbols : List Name) (function : FunctionTree) (above : List FunctionTree) (before : Named GraphTree) → IsSound above function → AreSound above → AreOf symbols above before →
    IsShallow (calls_in_all (call_depths above) function.body) (function_graph symbols (graph_named before) function)
first_known symbols function above before is sound of =
    function_shallow symbols above (graph_named before) (graphs_known symbols above before sound of) function is.few is.callable

-- so the graphs of all programs are
pub all_of : (symbols : List Name) (functions above : List FunctionTree) (before : Named GraphTree) → AreOf symbols above before → AreOf symbols (reverse_aux functions above) (graphs_with symbols before functions)
all_of symbols [] above before of = of
all_of symbols (function ∷ functions) above before of = all_of symbols functions (function ∷ above) ((function.name, function_graph symbols (graph_named before) function) ∷ before) (before, (refl, of))

pub latest_shallow : (symbols : List Name) (functions : List FunctionTree) (graphs : Named GraphTree) → 1 ≤ length functions → AreOf symbols functions graphs → AreSound functions → CallShallowly functions → IsShallow 8 (latest graphs)
latest_shallow symbols [] graphs some of sound chains = absurd (omega (arith, some))
latest_shallow symbols (function ∷ above) graphs some (before, (same, of)) sound chains =
    subst (λ graphs. IsShallow 8 (latest graphs)) (sym same)
    (deeper (calls_in_all (call_depths above) function.body) 8 chains.0 (function_graph symbols (graph_named before) function) (first_known symbols function above before sound.0 sound.1 of))
