-- Each call of a program has a link for each argument of the graph that it calls.
use Rattle.std.proofs.Common.{◌≡◌, ◌∙◌, ℕ, zero, suc, ◌+◌, ◌≤◌, ℤ, List, [], ◌∷◌, ◌++◌, map, length, Option, Some, unwrap_or, Ok, Bool, true, false, cond, ◌&&◌, reverse, bytes_eq, refl, ap, sym, subst, arith, append_assoc, append-nil}
use Rattle.std.specs.Prelude.{⊤}
use Rattle.std.proofs.lemmas.Grind.{reverse_onto}
use Rattle.std.proofs.lemmas.List.{length-map}
use Rattle.std.specs.List.{AllByRecursion}
use Rattle.sd_lex.specs.PlainTree.{Dimension, StatementTree, argument_array, local_array, local_stream, assign, copy, reduce, map_scope, tasklet, consume_scope, call, for_loop, while_loop, branch, Block, no_statement, and_statement, FunctionTree, ProgramTree}
use Rattle.sd_lex.specs.StatementKind.{has_connector}
use Rattle.sd_graph.specs.PlainTree as plain
use Rattle.sd_graph.specs.PlainTree.{ItemTrees, KindTree, ExitTree, StateTrees, GraphTree, graph}
use Rattle.sd_graph.specs.TreeFold.{PlainState, states_listed}
use Rattle.sd_graph.specs.TreeParts.{containers_of}
use Rattle.sd_graph.specs.ContainerParts.{Containers}
use Rattle.sd_graph.specs.InPlace.{arguments_of, ArgumentsComeFirst, IsKindLinked, AreItemsLinked, AreStatesLinked, IsLinked}
use Rattle.sd_graph.specs.declared.container.Container.{Container}
use Rattle.sd_program.specs.Calls.{argument_counts, IsCallable}
use Rattle.sd_program.specs.Declared.{states_in, states_in_all, containers_in, containers_in_all}
use Rattle.sd_program.specs.Names.{Name, Named, in_force}
use Rattle.sd_program.specs.Place.{Place, past, past_all, in_map, in_loop, in_consume, in_function, EveryAt, EveryFrom, EveryOfFunction, EveryFunction}
use Rattle.sd_program.specs.Known.{IsPlaced}
use Rattle.sd_program.specs.WellFormed.{IsWellFormed}
use Rattle.sd_task.specs.task.Table.{Table, with_container, with_variables}
use Rattle.sd_elab.specs.items.Counts.{variables_in}
use Rattle.sd_elab.specs.items.NamesBehind.{table_behind}
use Rattle.sd_elab.specs.items.Graphs.{no_graph, graph_named}
use Rattle.sd_elab.specs.items.Items.{call_links, items_with, items_of_body}
use Rattle.sd_elab.specs.states.Exits.{plainly}
use Rattle.sd_elab.specs.states.Standing.{Standing, behind, behind_all, state_behind, with_loop_variable}
use Rattle.sd_elab.specs.states.States.{chained, chained_all, chained_other}
use Rattle.sd_elab.specs.elab.Elaboration.{start_of, function_graph, graphs_with, latest, graph_of}
use Rattle.sd_valid.specs.BoundExpression.{bound_link}
use Rattle.sd_valid.specs.BoundTree.{bound_entry, bound_kind, bound_items, bound_states, bound_graph}
use Rattle.sd_valid.specs.SizeValues.{NamedSizes, sizes_in}
use Rattle.sd_valid.specs.Binding.{binding}
use Rattle.sd_made.proofs.places_lemmas.Bound.{bound_is}
use Rattle.sd_made.proofs.links_lemmas.FirstContainers.{function_first}

-- ---- the links of a call

-- arguments that come first are no more than the containers
few_arguments : (arguments : ℕ) (containers : Containers) → ArgumentsComeFirst arguments containers → arguments ≤ length containers
few_arguments zero containers first = omega arith
few_arguments (suc arguments) [] first = absurd first
few_arguments (suc arguments) (entry ∷ containers) first = omega (arith, few_arguments arguments containers first.1)

linked_arguments : (tree : GraphTree) → IsLinked tree → arguments_of tree ≤ length (containers_of tree)
linked_arguments (graph name containers arguments variables symbols states) linked = few_arguments arguments containers linked.0

-- a link for each argument, where there are parameters enough
each_linked : (table : Table) (arguments : List (Name × List Dimension)) (parameters : List (Name × Container)) → length arguments ≤ length parameters → length (call_links table arguments parameters) ≡ length arguments
each_linked table [] parameters enough = refl
each_linked table (argument ∷ arguments) [] enough = absurd (omega (arith, enough))
each_linked table (argument ∷ arguments) (parameter ∷ parameters) enough = ap suc (each_linked table arguments parameters (omega (arith, enough)))

-- ---- items and states

either_items : (is_task : Bool) (one other : ItemTrees) → AreItemsLinked one → AreItemsLinked other → AreItemsLinked (cond is_task one other)
either_items true one other is others = is
either_items false one other is others = others

either_kind : (resolved : Bool) (one other : KindTree) → IsKindLinked one → IsKindLinked other → IsKindLinked (cond resolved one other)
either_kind true one other is others = is
either_kind false one other is others = others

states_joined : (first second : List PlainState) → AreStatesLinked (states_listed first) → AreStatesLinked (states_listed second) → AreStatesLinked (states_listed (first ++ second))
states_joined [] second is others = others
states_joined (state ∷ first) second is others = (is.0, states_joined first second is.1 others)

-- the graphs of the programs above are linked, and have their arguments
module _ (above : List FunctionTree) (graphs : Name → GraphTree) (linked : (name : Name) → IsLinked (graphs name))
    (called : (name : Name) (count : ℕ) → in_force (argument_counts above) name ≡ Some count → arguments_of (graphs name) ≡ count) where
  call_linked : (place : Place) (line : ℕ) (name : Name) (arguments : List (Name × List Dimension)) (table : Table) → place.programs ≡ above → EveryAt IsCallable place (call line name arguments) →
      IsKindLinked (plain.nested_graph (graphs name) (call_links table arguments (containers_of (graphs name))))
  call_linked place line name arguments table of callable =
      let known : in_force (argument_counts above) name ≡ Some (length arguments) = subst (λ programs. in_force (argument_counts programs) name ≡ Some (length arguments)) of callable in
      let count : arguments_of (graphs name) ≡ length arguments = called name (length arguments) known in
      let enough : length arguments ≤ length (containers_of (graphs name)) = omega (arith, count, linked_arguments (graphs name) (linked name)) in
      (each_linked table arguments (containers_of (graphs name)) enough ∙ sym count, linked name)

  consumed_linked : (is_task : Bool) (body : Block) (element : Name) (place : Place) (task items : ItemTrees) → AreItemsLinked task → EveryFrom IsCallable (in_consume is_task element place) body →
      (EveryFrom IsCallable (in_consume false element place) body → AreItemsLinked items) → AreItemsLinked (cond is_task task items)
  consumed_linked true body element place task items is callable of_body = is
  consumed_linked false body element place task items is callable of_body = of_body callable

  mutual
    items_linked : (statement : StatementTree) (place : Place) (in_scope : Bool) (table : Table) (container variable : ℕ) (rest : ItemTrees) → place.programs ≡ above → EveryAt IsCallable place statement → AreItemsLinked rest →
        AreItemsLinked (items_with graphs statement in_scope table container variable rest)
    items_linked (assign line name at add value) place in_scope table container variable rest of callable is = (either_kind (add && in_scope) _ _ tt tt, is)
    items_linked (copy line to to_dimensions from from_dimensions) place in_scope table container variable rest of callable is = (tt, is)
    items_linked (reduce line lambda from to axis identity) place in_scope table container variable rest of callable is = (tt, is)
    items_linked (map_scope line parameters ranges body) place in_scope table container variable rest of callable is =
        (body_linked body (in_map place) (with_variables parameters variable table) container (variable + length parameters) of callable.1, is)
    items_linked (tasklet line body) place in_scope table container variable rest of callable is = (tt, is)
    items_linked (consume_scope line stream size name element worker body) place in_scope table container variable rest of callable is = (
      consumed_linked (has_connector body) body element place _ _ (tt, tt) callable.1
          (λ callable. body_linked body (in_consume false element place) (with_container element container table) (container + 1) variable of callable),
      is,
    )
    items_linked (call line name arguments) place in_scope table container variable rest of callable is = (call_linked place line name arguments table of callable, is)
    items_linked statement place in_scope table container variable rest of callable is = is

    body_linked : (body : Block) (place : Place) (table : Table) (container variable : ℕ) → place.programs ≡ above → EveryFrom IsCallable place body → AreItemsLinked (items_of_body graphs body table container variable)
    body_linked no_statement place table container variable of callable = tt
    body_linked (and_statement first rest) place table container variable of callable =
        items_linked first place true table container variable _ of callable.0
        (body_linked rest (past first place) (table_behind first container table) (container + containers_in first) (variable + variables_in first) of callable.1)

  abbrev Follows : (ItemTrees → List PlainState) → Type 0
  Follows rest = (items : ItemTrees) → AreItemsLinked items → AreStatesLinked (states_listed (rest items))

  leaf_linked : (statement : StatementTree) (place : Place) (at : Standing) (items : ItemTrees) (rest : ItemTrees → List PlainState) → place.programs ≡ above → EveryAt IsCallable place statement → AreItemsLinked items → Follows rest →
      AreStatesLinked (states_listed ((items, plainly at.state ∷ []) ∷ rest (items_with graphs statement false at.table at.container at.variable plain.no_item)))
  leaf_linked statement place at items rest of callable is follows = (is, follows _ (items_linked statement place false at.table at.container at.variable plain.no_item of callable tt))

  mutual
    statement_linked : (statement : StatementTree) (place : Place) (at : Standing) (items : ItemTrees) (rest : ItemTrees → List PlainState) → place.programs ≡ above → EveryAt IsCallable place statement → AreItemsLinked items → Follows rest →
        AreStatesLinked (states_listed (chained graphs statement at items rest))
    statement_linked (argument_array line name bits extents) place at items rest of callable is follows = follows items is
    statement_linked (local_array line name extents bits) place at items rest of callable is follows = follows items is
    statement_linked (local_stream line name bits size) place at items rest of callable is follows = follows items is
    statement_linked (branch line when body other) place at items rest of callable is follows = (
      is,
      other_linked other (past_all body place) (behind_all body (state_behind at)) (λ join. chained_all graphs body (state_behind at) plain.no_item (plainly join ∷ [])) rest of callable.1.1
          (λ join. block_linked body place (state_behind at) plain.no_item (plainly join ∷ []) of callable.1.0 tt) follows,
    )
    statement_linked (while_loop line when body) place at items rest of callable is follows =
        (is, (tt, states_joined _ (rest plain.no_item) (block_linked body (in_loop place) (state_behind (state_behind at)) plain.no_item _ of callable.1 tt) (follows plain.no_item tt)))
    statement_linked (for_loop line name begin end step body) place at items rest of callable is follows =
        (is, (tt, states_joined _ (rest plain.no_item) (block_linked body (in_loop place) (with_loop_variable name (state_behind (state_behind at))) plain.no_item _ of callable.1 tt) (follows plain.no_item tt)))
    statement_linked statement place at items rest of callable is follows = leaf_linked statement place at items rest of callable is follows

    block_linked : (block : Block) (place : Place) (at : Standing) (items : ItemTrees) (exits : List ExitTree) → place.programs ≡ above → EveryFrom IsCallable place block → AreItemsLinked items →
        AreStatesLinked (states_listed (chained_all graphs block at items exits))
    block_linked no_statement place at items exits of callable is = (is, tt)
    block_linked (and_statement first rest) place at items exits of callable is =
        statement_linked first place at items (λ items. chained_all graphs rest (behind first at) items exits) of callable.0 is
        (λ items is. block_linked rest (past first place) (behind first at) items exits of callable.1 is)

    other_linked : (other : Block) (place : Place) (at : Standing) (first : ℕ → List PlainState) (rest : ItemTrees → List PlainState) → place.programs ≡ above → EveryFrom IsCallable place other →
        ((join : ℕ) → AreStatesLinked (states_listed (first join))) → Follows rest → AreStatesLinked (states_listed (chained_other graphs other at first rest))
    other_linked no_statement place at first rest of callable is follows = states_joined (first at.state) (rest plain.no_item) (is at.state) (follows plain.no_item tt)
    other_linked (and_statement statement others) place at first rest of callable is follows =
        let join : ℕ = at.state + 1 + (states_in statement + states_in_all others) in
        states_joined (first join) _ (is join)
        (states_joined _ (rest plain.no_item)
        (statement_linked statement place (state_behind at) plain.no_item (λ items. chained_all graphs others (behind statement (state_behind at)) items (plainly join ∷ [])) of callable.0 tt
        (λ items is. block_linked others (past statement place) (behind statement (state_behind at)) items (plainly join ∷ []) of callable.1 is))
        (follows plain.no_item tt))

-- ---- graphs

abbrev AreLinked : Named GraphTree → Type 0
AreLinked graphs = AllByRecursion (λ entry. IsLinked entry.1) graphs

-- graphs have the arguments of programs, one for one
abbrev counts_of : Named GraphTree → Named ℕ
counts_of graphs = map (λ entry. (entry.0, arguments_of entry.1)) graphs

named_one : (found : Bool) (of : GraphTree) (others : Option GraphTree) → IsLinked of → IsLinked (unwrap_or others no_graph) → IsLinked (unwrap_or (cond found (Some of) others) no_graph)
named_one true of others is rest = is
named_one false of others is rest = rest

named_linked : (graphs : Named GraphTree) → AreLinked graphs → (name : Name) → IsLinked (graph_named graphs name)
named_linked [] all name = (tt, tt)
named_linked (entry ∷ graphs) all name = named_one (bytes_eq name entry.0) entry.1 (in_force graphs name) all.0 (named_linked graphs all.1 name)

count_one : (found : Bool) (of : GraphTree) (others : Option GraphTree) (counts : Option ℕ) (count : ℕ) → (counts ≡ Some count → arguments_of (unwrap_or others no_graph) ≡ count) → cond found (Some (arguments_of of)) counts ≡ Some count →
    arguments_of (unwrap_or (cond found (Some of) others) no_graph) ≡ count
count_one true of others counts count rest e = inside (arguments_of of) count e
  where
    inside : (one other : ℕ) → Some one ≡ Some other → one ≡ other
    inside one other e = cc
count_one false of others counts count rest e = rest e

named_called : (graphs : Named GraphTree) (name : Name) (count : ℕ) → in_force (counts_of graphs) name ≡ Some count → arguments_of (graph_named graphs name) ≡ count
named_called [] name count e = cc
named_called (entry ∷ graphs) name count e =
    count_one (bytes_eq name entry.0) entry.1 (in_force graphs name) (in_force (counts_of graphs) name) count (named_called graphs name count) e

-- what is asked of a function below others
abbrev IsSound : List FunctionTree → FunctionTree → Type 0
IsSound above function = EveryOfFunction IsPlaced above function × EveryOfFunction IsCallable above function

-- of functions, each below those before it
abbrev AreSound : (above : List FunctionTree) → List FunctionTree → Type 0
AreSound above [] = ⊤
AreSound above (function ∷ functions) = IsSound above function × AreSound (function ∷ above) functions

module _ (symbols : List Name) where
  function_linked : (above : List FunctionTree) (graphs : Named GraphTree) (function : FunctionTree) → counts_of graphs ≡ argument_counts above → AreLinked graphs → IsSound above function →
      IsLinked (function_graph symbols (graph_named graphs) function)
  function_linked above graphs function same all sound = (
    function_first symbols above function sound.0,
    block_linked above (graph_named graphs) (named_linked graphs all) (λ name count e. named_called graphs name count (ap (λ counts. in_force counts name) same ∙ e)) function.body
        (in_function above function.arguments) (start_of symbols function) plain.no_item [] refl sound.1.1 tt,
  )

  graphs_linked : (above : List FunctionTree) (before : Named GraphTree) (functions : List FunctionTree) → counts_of before ≡ argument_counts above → AreLinked before → AreSound above functions →
      AreLinked (graphs_with symbols before functions)
  graphs_linked above before [] same all sound = all
  graphs_linked above before (function ∷ functions) same all sound =
      let made : GraphTree = function_graph symbols (graph_named before) function in
      graphs_linked (function ∷ above) ((function.name, made) ∷ before) functions (ap (λ counts. (function.name, containers_in_all function.arguments) ∷ counts) same)
      (function_linked above before function same all sound.0, all) sound.1

latest_linked : (graphs : Named GraphTree) → AreLinked graphs → IsLinked (latest graphs)
latest_linked [] all = (tt, tt)
latest_linked (entry ∷ graphs) all = all.0

-- what is said of functions with those above them is said of the last of them
module _ (Says : Place → StatementTree → Type 0) where
  of_last : (first last : List FunctionTree) → EveryFunction Says (first ++ last) → EveryFunction Says last
  of_last [] last says = says
  of_last (function ∷ first) last says = of_last first last says.1

turning : (functions above : List FunctionTree) (function : FunctionTree) → reverse (function ∷ functions) ++ above ≡ reverse functions ++ function ∷ above
turning functions above function = ap (λ turned. turned ++ above) (reverse_onto functions function []) ∙ append_assoc (reverse functions) (function ∷ []) above

all_sound : (functions above : List FunctionTree) → EveryFunction IsPlaced (reverse functions ++ above) → EveryFunction IsCallable (reverse functions ++ above) → AreSound above functions
all_sound [] above placed callable = tt
all_sound (function ∷ functions) above placed callable =
    let placed_on : EveryFunction IsPlaced (reverse functions ++ function ∷ above) = subst (EveryFunction IsPlaced) (turning functions above function) placed in
    let callable_on : EveryFunction IsCallable (reverse functions ++ function ∷ above) = subst (EveryFunction IsCallable) (turning functions above function) callable in
    (((of_last IsPlaced (reverse functions) (function ∷ above) placed_on).0, (of_last IsCallable (reverse functions) (function ∷ above) callable_on).0), all_sound functions (function ∷ above) placed_on callable_on)

pub program_linked : (source : ProgramTree) → IsWellFormed source → IsLinked (graph_of source)
program_linked source well =
    let placed : EveryFunction IsPlaced (reverse source.functions ++ []) = subst (EveryFunction IsPlaced) (sym (append-nil (reverse source.functions))) well.placed in
    let callable : EveryFunction IsCallable (reverse source.functions ++ []) = subst (EveryFunction IsCallable) (sym (append-nil (reverse source.functions))) well.calls in
    latest_linked (graphs_with source.symbols [] source.functions) (graphs_linked source.symbols [] [] source.functions refl tt (all_sound source.functions [] placed callable))

-- ---- with sizes

module _ (sizes : List ℤ) where
  arguments_bound : (arguments : ℕ) (containers : Containers) → ArgumentsComeFirst arguments containers → ArgumentsComeFirst arguments (map (bound_entry sizes) containers)
  arguments_bound zero [] first = tt
  arguments_bound (suc arguments) [] first = absurd first
  arguments_bound zero (entry ∷ containers) first = (first.0, arguments_bound zero containers first.1)
  arguments_bound (suc arguments) (entry ∷ containers) first = (first.0, arguments_bound arguments containers first.1)

  same_arguments : (tree : GraphTree) → arguments_of tree ≡ arguments_of (bound_graph sizes tree)
  same_arguments (graph name containers arguments variables symbols states) = refl

  mutual
    kind_bound : (kind : KindTree) → IsKindLinked kind → IsKindLinked (bound_kind sizes kind)
    kind_bound (plain.task code ins outs) is = tt
    kind_bound (plain.map_scope sequential params private body) is = items_bound body is
    kind_bound (plain.consume_scope stream element private body) is = items_bound body is
    kind_bound (plain.nested_graph inner links) is = (length-map links (bound_link sizes) ∙ is.0 ∙ same_arguments inner, tree_bound inner is.1)
    kind_bound (plain.reduction resolution axis identity from to) is = tt
    kind_bound (plain.copy from to) is = tt

    items_bound : (items : ItemTrees) → AreItemsLinked items → AreItemsLinked (bound_items sizes items)
    items_bound plain.no_item is = tt
    items_bound (plain.and_item line kind items) is = (kind_bound kind is.0, items_bound items is.1)

    states_bound : (states : StateTrees) → AreStatesLinked states → AreStatesLinked (bound_states sizes states)
    states_bound plain.no_state is = tt
    states_bound (plain.and_state items exits states) is = (items_bound items is.0, states_bound states is.1)

    tree_bound : (tree : GraphTree) → IsLinked tree → IsLinked (bound_graph sizes tree)
    tree_bound (graph name containers arguments variables symbols states) is = (arguments_bound arguments containers is.0, states_bound states is.1)

pub bound_linked : (source : ProgramTree) (named : NamedSizes) (bound : GraphTree) → IsWellFormed source → binding (graph_of source) named ≡ Ok bound → IsLinked bound
bound_linked source named bound well is = subst IsLinked (bound_is (graph_of source) bound named is) (tree_bound (sizes_in named (graph_of source)) (graph_of source) (program_linked source well))
