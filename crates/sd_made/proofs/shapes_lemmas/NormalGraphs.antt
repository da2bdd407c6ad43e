-- The links of calls, copies and reductions of a program have ranges in normal form.
use Rattle.std.proofs.Common.{ℕ, suc, ◌+◌, List, [], ◌∷◌, ◌++◌, length, Option, Some, unwrap_or, Bool, true, false, cond, ◌&&◌, bytes_eq, codes}
use Rattle.std.specs.Prelude.{⊤}
use Rattle.std.specs.List.{AllByRecursion}
use Rattle.sd_lex.specs.PlainTree.{Dimension, StatementTree, argument_array, local_array, local_stream, assign, copy, reduce, map_scope, tasklet, consume_scope, call, for_loop, while_loop, branch, Block, no_statement, and_statement, FunctionTree, ProgramTree}
use Rattle.sd_lex.specs.StatementKind.{has_connector}
use Rattle.sd_graph.specs.PlainTree as plain
use Rattle.sd_graph.specs.PlainTree.{KindTree, ItemTrees, ExitTree, GraphTree}
use Rattle.sd_graph.specs.TreeFold.{PlainState, states_listed}
use Rattle.sd_graph.specs.TreeParts.{containers_of}
use Rattle.sd_graph.specs.declared.container.Container.{Container}
use Rattle.sd_program.specs.Declared.{states_in, states_in_all, containers_in, containers_in_all}
use Rattle.sd_program.specs.DeclaredNames.{container_names}
use Rattle.sd_program.specs.Names.{Name, Named, in_force}
use Rattle.sd_task.specs.in_force.Names.{with_numbered}
use Rattle.sd_task.specs.in_force.Ranges.{affine_or, parameters_of}
use Rattle.sd_task.specs.task.Table.{Table, with_container, with_variables}
use Rattle.sd_elab.specs.items.Counts.{variables_in}
use Rattle.sd_elab.specs.items.NamesBehind.{own_of, table_behind, table_behind_state, table_behind_all}
use Rattle.sd_elab.specs.items.Graphs.{no_graph, graph_named}
use Rattle.sd_elab.specs.items.Items.{call_links, items_with, items_of_body}
use Rattle.sd_range.specs.Arithmetic.{affine_zero}
use Rattle.sd_task.specs.task.ElementCode.{guard_of, below}
use Rattle.sd_elab.specs.states.Exits.{plainly, setting, if_holds, back_to, stepped_on}
use Rattle.sd_elab.specs.states.Standing.{Standing, behind, behind_all, state_behind, with_loop_variable}
use Rattle.sd_elab.specs.states.States.{chained, chained_all, chained_other}
use Rattle.sd_task.specs.containers.Declarations.{containers_with_all}
use Rattle.sd_elab.specs.elab.Elaboration.{start_of, function_graph, graphs_with, latest, graph_of}
use Rattle.sd_validity.specs.rules.Places.{Scopes, no_scopes, in_map as in_map_of, in_consume as in_consume_of}
use Rattle.sd_validity.specs.bound_places.Throughout.{InKind, InItems, InStates, Throughout}
use Rattle.sd_validity.specs.bound_shapes.NormalShapes.{HasNormalRanges}
use Rattle.sd_made.proofs.shapes_lemmas.NormalForms.{AreNormal, link_normal, block_normal}

-- what is asked of a graph, of a transition and of an item
abbrev pub IsWhole : GraphTree → Type 0
IsWhole tree = AreNormal (containers_of tree)

abbrev pub IsLeaving : GraphTree → (state : ℕ) → ExitTree → Type 0
IsLeaving tree state exit = ⊤

abbrev pub HasNormalLinks : KindTree → Type 0
HasNormalLinks (plain.task code ins outs) = ⊤
HasNormalLinks (plain.map_scope sequential params private body) = ⊤
HasNormalLinks (plain.consume_scope stream element private body) = ⊤
HasNormalLinks (plain.nested_graph inner links) = AreNormal (containers_of inner) × AllByRecursion HasNormalRanges links
HasNormalLinks (plain.reduction resolution axis identity from to) = HasNormalRanges from × HasNormalRanges to
HasNormalLinks (plain.copy from to) = HasNormalRanges from × HasNormalRanges to

abbrev pub IsDoing : GraphTree → (state : ℕ) → Scopes → KindTree → Type 0
IsDoing tree state scopes kind = HasNormalLinks kind

abbrev pub IsNormalThroughout : GraphTree → Type 0
IsNormalThroughout tree = Throughout IsWhole IsLeaving IsDoing tree

whole_of : (tree : GraphTree) → IsNormalThroughout tree → AreNormal (containers_of tree)
whole_of (plain.graph name containers arguments variables symbols states) is = is.0

links_normal : (table : Table) (arguments : List (Name × List Dimension)) (parameters : List (Name × Container)) → AreNormal table.all → AllByRecursion HasNormalRanges (call_links table arguments parameters)
links_normal table [] parameters normal = tt
links_normal table (argument ∷ arguments) [] normal = tt
links_normal table (argument ∷ arguments) (parameter ∷ parameters) normal = (link_normal table parameter.0 argument.0 argument.1 normal, links_normal table arguments parameters normal)

-- ---- the containers of a table stay

normal_behind : (statement : StatementTree) (container : ℕ) (table : Table) → AreNormal table.all → AreNormal (table_behind statement container table).all
normal_behind (local_array line name extents bits) container table normal = normal
normal_behind (local_stream line name bits size) container table normal = normal
normal_behind statement container table normal = normal

mutual
  normal_past : (statement : StatementTree) (container : ℕ) (table : Table) → AreNormal table.all → AreNormal (table_behind_state statement container table).all
  normal_past (local_array line name extents bits) container table normal = normal
  normal_past (local_stream line name bits size) container table normal = normal
  normal_past (for_loop line name begin end step body) container table normal = all_normal_past body container table normal
  normal_past (while_loop line when body) container table normal = all_normal_past body container table normal
  normal_past (branch line when body other) container table normal =
      all_normal_past other (container + containers_in_all body) (table_behind_all body container table) (all_normal_past body container table normal)
  normal_past statement container table normal = normal

  all_normal_past : (block : Block) (container : ℕ) (table : Table) → AreNormal table.all → AreNormal (table_behind_all block container table).all
  all_normal_past no_statement container table normal = normal
  all_normal_past (and_statement first rest) container table normal =
      all_normal_past rest (container + containers_in first) (table_behind_state first container table) (normal_past first container table normal)

-- ---- items

module _ (graphs : Name → GraphTree) (through : (name : Name) → IsNormalThroughout (graphs name)) (tree : GraphTree) where
  abbrev Items : ItemTrees → (state : ℕ) → Scopes → Type 0
  Items items state scopes = InItems IsWhole IsLeaving IsDoing items tree state scopes

  abbrev Inside : KindTree → (state : ℕ) → Scopes → Type 0
  Inside kind state scopes = InKind IsWhole IsLeaving IsDoing kind tree state scopes

  abbrev States : List PlainState → (number : ℕ) → Type 0
  States states number = InStates IsWhole IsLeaving IsDoing (states_listed states) tree number

  either_links : (resolved : Bool) (one other : KindTree) → HasNormalLinks one → HasNormalLinks other → HasNormalLinks (cond resolved one other)
  either_links true one other is others = is
  either_links false one other is others = others

  either_inside : (resolved : Bool) (one other : KindTree) (state : ℕ) (scopes : Scopes) → Inside one state scopes → Inside other state scopes → Inside (cond resolved one other) state scopes
  either_inside true one other state scopes is others = is
  either_inside false one other state scopes is others = others

  either_items : (is_task : Bool) (one other : ItemTrees) (state : ℕ) (scopes : Scopes) → Items one state scopes → Items other state scopes → Items (cond is_task one other) state scopes
  either_items true one other state scopes is others = is
  either_items false one other state scopes is others = others

  mutual
    item_normal : (statement : StatementTree) (in_scope : Bool) (table : Table) (container variable : ℕ) (rest : ItemTrees) (state : ℕ) (scopes : Scopes) → AreNormal table.all → Items rest state scopes →
        Items (items_with graphs statement in_scope table container variable rest) state scopes
    item_normal (assign line name at add value) in_scope table container variable rest state scopes normal others =
        (either_links (add && in_scope) _ _ tt tt, either_inside (add && in_scope) _ _ state scopes tt tt, others)
    item_normal (copy line to to_dimensions from from_dimensions) in_scope table container variable rest state scopes normal others =
        ((link_normal table (codes "from") from from_dimensions normal, link_normal table (codes "to") to to_dimensions normal), tt, others)
    item_normal (reduce line lambda from to axis identity) in_scope table container variable rest state scopes normal others =
        ((link_normal table (codes "from") from [] normal, link_normal table (codes "to") to [] normal), tt, others)
    item_normal (map_scope line parameters ranges body) in_scope table container variable rest state scopes normal others = (
      tt,
      body_normal body (with_variables parameters variable table) container (variable + length parameters) state (in_map_of scopes (parameters_of table.variables ranges variable) (own_of body container)) normal,
      others,
    )
    item_normal (tasklet line body) in_scope table container variable rest state scopes normal others = (tt, tt, others)
    item_normal (consume_scope line stream size name element worker body) in_scope table container variable rest state scopes normal others =
        let inside : Scopes = in_consume_of scopes container (own_of body (container + 1)) in (
          tt,
          either_items (has_connector body) _ _ state inside (tt, tt, tt) (body_normal body (with_container element container table) (container + 1) variable state inside normal),
          others,
        )
    item_normal (call line name arguments) in_scope table container variable rest state scopes normal others =
        ((whole_of (graphs name) (through name), links_normal table arguments (containers_of (graphs name)) normal), through name, others)
    item_normal statement in_scope table container variable rest state scopes normal others = others

    body_normal : (body : Block) (table : Table) (container variable : ℕ) (state : ℕ) (scopes : Scopes) → AreNormal table.all → Items (items_of_body graphs body table container variable) state scopes
    body_normal no_statement table container variable state scopes normal = tt
    body_normal (and_statement first rest) table container variable state scopes normal =
        item_normal first true table container variable _ state scopes normal
        (body_normal rest (table_behind first container table) (container + containers_in first) (variable + variables_in first) state scopes (normal_behind first container table normal))

  -- ---- states

  all_leaving : (state : ℕ) (exits : List ExitTree) → AllByRecursion (IsLeaving tree state) exits
  all_leaving state [] = tt
  all_leaving state (exit ∷ exits) = (tt, all_leaving state exits)

  -- in whatever state they stand
  abbrev Everywhere : ItemTrees → Type 0
  Everywhere items = (state : ℕ) → Items items state no_scopes

  abbrev AllStates : List PlainState → Type 0
  AllStates states = (number : ℕ) → States states number

  abbrev Follows : (ItemTrees → List PlainState) → Type 0
  Follows rest = (items : ItemTrees) → Everywhere items → AllStates (rest items)

  with_state : (items : ItemTrees) (exits : List ExitTree) (rest : List PlainState) → Everywhere items → AllStates rest → AllStates ((items, exits) ∷ rest)
  with_state items exits rest here others number = (all_leaving number exits, here number, others (suc number))

  states_joined : (first second : List PlainState) → AllStates first → AllStates second → AllStates (first ++ second)
  states_joined [] second all others number = others number
  states_joined (state ∷ first) second all others number = ((all number).0, (all number).1, both first second number (all number).2 others)
    where
      both : (first second : List PlainState) (number : ℕ) → States first (suc number) → AllStates second → States (first ++ second) (suc number)
      both [] second number all others = others (suc number)
      both (state ∷ first) second number all others = (all.0, all.1, both first second (suc number) all.2 others)

  leaf_normal : (statement : StatementTree) (at : Standing) (items : ItemTrees) (rest : ItemTrees → List PlainState) → AreNormal at.table.all → Everywhere items → Follows rest →
      AllStates ((items, plainly at.state ∷ []) ∷ rest (items_with graphs statement false at.table at.container at.variable plain.no_item))
  leaf_normal statement at items rest normal here follows =
      let new : ItemTrees = items_with graphs statement false at.table at.container at.variable plain.no_item in
      with_state items (plainly at.state ∷ []) (rest new) here (follows new (λ state. item_normal statement false at.table at.container at.variable plain.no_item state no_scopes normal tt))

  nothing : Everywhere plain.no_item
  nothing state = tt

  mutual
    statement_made : (statement : StatementTree) (at : Standing) (items : ItemTrees) (rest : ItemTrees → List PlainState) → AreNormal at.table.all → Everywhere items → Follows rest → AllStates (chained graphs statement at items rest)
    statement_made (argument_array line name bits extents) at items rest normal here follows = follows items here
    statement_made (local_array line name extents bits) at items rest normal here follows = follows items here
    statement_made (local_stream line name bits size) at items rest normal here follows = follows items here
    statement_made (branch line when body other) at items rest normal here follows =
        let first : ℕ → List PlainState = λ join. chained_all graphs body (state_behind at) plain.no_item (plainly join ∷ []) in
        with_state items (if_holds (guard_of at.table line when) at.state ∷ plainly (at.state + 1 + states_in_all body) ∷ []) (chained_other graphs other (behind_all body (state_behind at)) first rest) here
        (other_made other (behind_all body (state_behind at)) first rest (all_normal_past body at.container at.table normal)
        (λ join. block_made body (state_behind at) plain.no_item (plainly join ∷ []) normal nothing) follows)
    statement_made (while_loop line when body) at items rest normal here follows =
        let inside : Standing = state_behind (state_behind at) in
        let back : List ExitTree = back_to at.state [] ∷ [] in
        let tests : List ExitTree = if_holds (guard_of at.table line when) (at.state + 1) ∷ plainly (at.state + 1 + 1 + states_in_all body) ∷ [] in
        let inner : List PlainState = chained_all graphs body inside plain.no_item back in
        with_state items (plainly at.state ∷ []) ((plain.no_item, tests) ∷ (inner ++ rest plain.no_item)) here
        (with_state plain.no_item tests (inner ++ rest plain.no_item) nothing (states_joined inner (rest plain.no_item) (block_made body inside plain.no_item back normal nothing) (follows plain.no_item nothing)))
    statement_made (for_loop line name begin end step body) at items rest normal here follows =
        let inside : Standing = with_loop_variable name (state_behind (state_behind at)) in
        let begun : List ExitTree = setting at.state at.variable (affine_or affine_zero at.table.variables begin) ∷ [] in
        let back : List ExitTree = back_to at.state ((at.variable, stepped_on at.variable step) ∷ []) ∷ [] in
        let tests : List ExitTree = if_holds (below inside.table line name end) (at.state + 1) ∷ plainly (at.state + 1 + 1 + states_in_all body) ∷ [] in
        let inner : List PlainState = chained_all graphs body inside plain.no_item back in
        with_state items begun ((plain.no_item, tests) ∷ (inner ++ rest plain.no_item)) here
        (with_state plain.no_item tests (inner ++ rest plain.no_item) nothing (states_joined inner (rest plain.no_item) (block_made body inside plain.no_item back normal nothing) (follows plain.no_item nothing)))
    statement_made statement at items rest normal here follows = leaf_normal statement at items rest normal here follows

    block_made : (block : Block) (at : Standing) (items : ItemTrees) (exits : List ExitTree) → AreNormal at.table.all → Everywhere items → AllStates (chained_all graphs block at items exits)
    block_made no_statement at items exits normal here = with_state items exits [] here (λ number. tt)
    block_made (and_statement first rest) at items exits normal here =
        statement_made first at items (λ items. chained_all graphs rest (behind first at) items exits) normal here
        (λ items here. block_made rest (behind first at) items exits (normal_past first at.container at.table normal) here)

    other_made : (other : Block) (at : Standing) (first : ℕ → List PlainState) (rest : ItemTrees → List PlainState) → AreNormal at.table.all → ((join : ℕ) → AllStates (first join)) → Follows rest →
        AllStates (chained_other graphs other at first rest)
    other_made no_statement at first rest normal all follows = states_joined (first at.state) (rest plain.no_item) (all at.state) (follows plain.no_item nothing)
    other_made (and_statement statement others) at first rest normal all follows =
        let join : ℕ = at.state + 1 + (states_in statement + states_in_all others) in
        let behind_first : ItemTrees → List PlainState = λ items. chained_all graphs others (behind statement (state_behind at)) items (plainly join ∷ []) in
        let inner : List PlainState = chained graphs statement (state_behind at) plain.no_item behind_first in
        states_joined (first join) (inner ++ rest plain.no_item) (all join)
        (states_joined inner (rest plain.no_item)
        (statement_made statement (state_behind at) plain.no_item behind_first normal nothing
        (λ items here. block_made others (behind statement (state_behind at)) items (plainly join ∷ []) (normal_past statement at.container at.table normal) here))
        (follows plain.no_item nothing))

  pub states_made : (block : Block) (at : Standing) → AreNormal at.table.all → AllStates (chained_all graphs block at plain.no_item [])
  states_made block at normal = block_made block at plain.no_item [] normal nothing

-- ---- graphs

abbrev AreThroughout : Named GraphTree → Type 0
AreThroughout graphs = AllByRecursion (λ entry. IsNormalThroughout entry.1) graphs

named_one : (found : Bool) (of : GraphTree) (others : Option GraphTree) → IsNormalThroughout of → IsNormalThroughout (unwrap_or others no_graph) → IsNormalThroughout (unwrap_or (cond found (Some of) others) no_graph)
named_one true of others is rest = is
named_one false of others is rest = rest

named_throughout : (graphs : Named GraphTree) → AreThroughout graphs → (name : Name) → IsNormalThroughout (graph_named graphs name)
named_throughout [] all name = (tt, tt)
named_throughout (entry ∷ graphs) all name = named_one (bytes_eq name entry.0) entry.1 (in_force graphs name) all.0 (named_throughout graphs all.1 name)

function_normal : (symbols : List Name) (graphs : Name → GraphTree) (function : FunctionTree) → ((name : Name) → IsNormalThroughout (graphs name)) → IsNormalThroughout (function_graph symbols graphs function)
function_normal symbols graphs function through =
    let known : Named ℕ = with_numbered symbols 0 [] in
    let declared : List Name = container_names function in
    let normal : AreNormal (containers_of (function_graph symbols graphs function)) =
    block_normal known declared function.body false (containers_with_all known declared function.arguments false []) (block_normal known declared function.arguments false [] tt) in
    (normal, states_made graphs through (function_graph symbols graphs function) function.body (start_of symbols function) normal 0)

graphs_throughout : (symbols : List Name) (before : Named GraphTree) (functions : List FunctionTree) → AreThroughout before → AreThroughout (graphs_with symbols before functions)
graphs_throughout symbols before [] all = all
graphs_throughout symbols before (function ∷ functions) all =
    graphs_throughout symbols ((function.name, function_graph symbols (graph_named before) function) ∷ before) functions
    (function_normal symbols (graph_named before) function (named_throughout before all), all)

latest_throughout : (graphs : Named GraphTree) → AreThroughout graphs → IsNormalThroughout (latest graphs)
latest_throughout [] all = (tt, tt)
latest_throughout (entry ∷ graphs) all = all.0

pub program_normal : (source : ProgramTree) → IsNormalThroughout (graph_of source)
program_normal source = latest_throughout (graphs_with source.symbols [] source.functions) (graphs_throughout source.symbols [] source.functions tt)
